use Rattle.std.proofs.Common.{◌≡◌, inl, inr, ℕ, Bool, true, false, not, ◌==◌, Option, None, Some, IsTrue, refl, sym, eq-eqb}
use Rattle.std.specs.Option.{option_eq}
use Rattle.resource_mon.specs.Claims.{Claims, MayRequest, IsNoneOf, claimants}
use Rattle.resource_mon.proofs.Queues.{no_claim, in_no_queue}
use Rattle.resource_mon.proofs.resource.Resource.may_request.Goals as goal

-- a test that fails exactly where P holds
told_not : (b : Bool) (P C : Type 0) → (IsTrue b → P) × (P → IsTrue b) → ((P → ⊥) → C) → (C → P → ⊥) → (IsTrue (not b) → C) × (C → IsTrue (not b))
told_not true P C is some none = ((λ e. absurd cc), (λ held. absurd (none held (is.0 refl))))
told_not false P C is some none = ((λ e. some (λ p. let e = is.1 p in absurd cc)), (λ held. refl))

holds_other : (holder : Option ℕ) (p : ℕ) → true ≡ not (option_eq ◌==◌ holder (Some p)) → holder ≡ Some p → ⊥
holds_other holder p tested is = let own : option_eq ◌==◌ holder (Some p) ≡ true = rw is (eq-eqb p p refl) in cc

-- the turn is free
free_request : (claims : Claims) (p : ℕ) → claims.handed ≡ None → MayRequest claims p → IsNoneOf (claimants claims) p
free_request claims p free (inl may) = may.1
free_request claims p free (inr mine) = absurd cc

pub returns-then-ne : goal.returns-then-ne
returns-then-ne g c =
    let r = c.self.inside in
    let free = sym c.in-None.ensures in
    let turn = rw (← c.self.view_is) at free in
    let differs = holds_other r.holder c.args.p c.if-ne.ensures in
    told_not c.stands_in.result _ (MayRequest c.args.self.now c.args.p) c.stands_in.ensures
    (λ none. inl (free, rw (← c.self.view_is) (no_claim g.row.N r.queues r.order.waiting r.turn r.holder c.args.p c.self.invariant c.self.told differs none)))
    (λ may. in_no_queue g.row.N r.queues r.order.waiting r.turn r.holder c.args.p c.self.invariant c.self.told turn (rw (← c.self.view_is) at (free_request c.args.self.now c.args.p free may)))
