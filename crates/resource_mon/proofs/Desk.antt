-- What a process finds at the disk resource.
use Rattle.std.proofs.Common.{◌≡◌, ℕ, ◌==◌, Bool, true, false, ◌||◌, Option, None, Some, List, [], ◌∷◌, refl, sym, ap, ◌∙◌, eq-eqb}
use Rattle.std.specs.List.{list_any}
use Rattle.resource_mon.specs.declared.call.DiskCall.{DiskCall}
use Rattle.resource_mon.specs.declared.grant.Grant.TheVariants.{Wait}
use Rattle.resource_mon.specs.Claims.{Claims, IsNoneOf, grant_by, after_request}
use Rattle.resource_mon.specs.DiskCalls.{IsTied, IsSeated, Asks, Rests, has_grant, is_waiting}
use Rattle.resource_mon.specs.Seats.{HasOneGrant}
use Rattle.resource_mon.proofs.Queues.{none-both}

none-waiting : (waiting : List ℕ) (p : ℕ) → list_any (λ q. q == p) waiting ≡ false → IsNoneOf waiting p
none-waiting [] p none = tt
none-waiting (q ∷ later) p none = ((λ is. let here = eq-eqb q p is in first q later p none here), none-waiting later p (others (q == p) (list_any (λ r. r == p) later) none)) where
  others : (a b : Bool) → (a || b) ≡ false → b ≡ false
  others true b e = absurd cc
  others false b e = e

  first : (q : ℕ) (later : List ℕ) (p : ℕ) → ((q == p) || list_any (λ r. r == p) later) ≡ false → (q == p) ≡ true → ⊥
  first q later p none here = either (q == p) (list_any (λ r. r == p) later) none here where
    either : (a b : Bool) → (a || b) ≡ false → a ≡ true → ⊥
    either true b e is = cc
    either false b e is = cc

out_of_queues : (a b : Bool) → (a || b) ≡ false → a ≡ false
out_of_queues true b e = absurd cc
out_of_queues false b e = refl

module _ (calls : ℕ → List DiskCall) (state : Claims) (tied : IsTied calls state) where
  -- A process that comes in, and whose calls end in no grant, may ask.
  pub asks : (p : ℕ) → IsSeated p → has_grant (calls p) ≡ false → state.handed ≡ None → is_waiting p state ≡ false → Asks p state
  asks p seat no_grant free out = record {
    seat = seat;
    free = free;
    no_claim = none-both state.holder state.waiting p (λ is. let has = tied.holder p is free in cc) (none-waiting state.waiting p (out_of_queues _ _ out));
  }

  no_grant : (p : ℕ) (has : Bool) → has_grant (calls p) ≡ has → (has ≡ true → ⊥) → has_grant (calls p) ≡ false
  no_grant p true is never = absurd (never refl)
  no_grant p false is never = is

  -- Where nobody has it, or the turn is handed to somebody, no calls end in a grant.
  pub nobody_has : state.holder ≡ None → (p : ℕ) → has_grant (calls p) ≡ false
  nobody_has none p = no_grant p (has_grant (calls p)) refl (λ has. let other = tied.no_other p has in let some = other.0 in cc)

  pub handed_on : (q : ℕ) → state.handed ≡ Some q → (p : ℕ) → has_grant (calls p) ≡ false
  handed_on q turn p = no_grant p (has_grant (calls p)) refl (λ has. let other = tied.no_other p has in let none = other.1 in cc)

  pub one_grant : HasOneGrant calls
  one_grant p q first second = let a = tied.no_other p first in let b = tied.no_other q second in let here = a.0 in let there = b.0 in cc

waits_for : (holder : Option ℕ) → Wait ≡ grant_by holder → (q : ℕ) × (holder ≡ Some q)
waits_for None is = absurd cc
waits_for (Some q) is = (q, refl)

-- a request that has to wait, as the monitor answered it
pub rests : (number : ℕ) (state now after : Claims) (p : ℕ) → number ≡ p → now ≡ state → Asks p state → Wait ≡ grant_by now.holder → after ≡ after_request now p Wait → Rests number state after
rests number state now after p is same may answer then =
    let held = waits_for state.holder (answer ∙ ap (λ (s : Claims). grant_by s.holder) same) in
    rw is record { asks = may; holder = held.0; held = held.1; after_is = rw (sym same) then }
