-- A process that may go on is at its turn, and its next action has its place.
use Rattle.std.proofs.Common.{◌≡◌, ◌↔◌, ℕ, Bool, false, List, ◌∷◌, Option, None, Some, refl, sym, ◌∙◌, ap, subst, arith}
use Rattle.std.specs.Prelude.{IsTrue, is_none}
use Rattle.solo_base.specs.declared.outcome.Outcome.{Outcome}
use Rattle.batch_procs.specs.declared.actions.Action.{Action}
use Rattle.batch_procs.specs.declared.actions.Action.TheVariants as act
use Rattle.batch_procs.specs.History.{Entry, Does, LacksMemory, Delays, action_of, newest}
use Rattle.batch_procs.specs.Laws.{HasEnded}
use Rattle.batch_procs.specs.Process.{Process, next_action}
use Rattle.batch_procs.specs.Table.{process}
use Rattle.batch_procs.proofs.Holding.{none-next}
use Rattle.network_law.specs.Acts.{is_delayed}
use Rattle.network_law.specs.Network.{MayCall}
use Rattle.network_law.specs.Stepping.{MayGo, stepped_so}
use Rattle.core_law.specs.Core.{call, core, went, CoreState}
use Rattle.core_law.specs.Ends.{IsProcess}
use Rattle.core_law.specs.Opening.{Opening, first_state}
use Rattle.core_law.specs.TheLaw.{IsReached}
use Rattle.core_law.proofs.Ends.{the-five}
use Rattle.core_law.proofs.Places.{call-buffer}
use Rattle.core_law.proofs.Reached.{Centre, reached-centre}
use Rattle.core_law.proofs.Acting.{follows-of}
use Rattle.core_law.proofs.Law.{ended-none}
use Rattle.net_core.specs.Shared.{SharedStands}
use Rattle.net_core.specs.declared.shared.Shared.{Shared}
use Rattle.net_core.specs.Steps.{is_end}
use Rattle.net_core.specs.Turns.{HasPlace, IsAtTurn}
use Rattle.net_core.proofs.MayPerforming.{may-request}
use Rattle.batch_procs.specs.Jobs.{Jobs, AreJobs}
use Rattle.batch_ends.specs.Tells.{Tells}

same-action : (a b : Action) (next : Option Action) → next ≡ Some a → next ≡ Some b → a ≡ b
same-action a b next first second = cc

-- another number is no process
pub no-other : (p : ℕ) → IsProcess p → (p ≡ 1 → ⊥) → (p ≡ 2 → ⊥) → (p ≡ 3 → ⊥) → (p ≡ 4 → ⊥) → (p ≡ 5 → ⊥) → ⊥
no-other p one a b c d e = (let low = one.0 in let high = one.1 in omega (arith, a, b, c, d, e, low, high))

module _ {L : Type 0} {J : Jobs L} (jobs : AreJobs J) where
  -- ---- whether a process has ended
  pub ended-at : (s : CoreState L) (p q : ℕ) → p ≡ q → (t : Bool) → (IsTrue t ↔ HasEnded (s.histories q))
      → IsTrue t ↔ (next_action (process J p) (s.histories p) ≡ None)
  ended-at s p q e t is =
      subst (λ p. IsTrue t ↔ (next_action (process J p) (s.histories p) ≡ None)) (sym e) (
        λ yes. ended-none jobs (process J q) (s.histories q) (is.0 yes),
        λ none. is.1 (none-next J (process J q) (s.histories q) none),
      )

  -- ---- one machine
  -- it has ended
  pub never-at-turn : (p : Process L) (h : List (Entry L)) (s : CoreState L) (n : ℕ) → HasEnded h → IsAtTurn p h s n → ⊥
  never-at-turn p h s n ended at = (let none = ended-none jobs p h ended in let some = at.next in cc)

  -- it has not, and so has a next action
  pub some-next : (p : Process L) (h : List (Entry L)) (t : Bool) → (IsTrue t ↔ HasEnded h) → t ≡ false → (action : Action) ×
      (next_action p h ≡ Some action)
  some-next p h t is not = some-of (next_action p h) refl
    where
      some-of : (next : Option Action) → next_action p h ≡ next → (action : Action) × (next_action p h ≡ Some action)
      some-of (Some action) e = (action, e)
      some-of None e = absurd (let ended = is.1 (none-next J p h e) in cc)

  pub at-turn : (p : Process L) (h : List (Entry L)) (s : CoreState L) (n : ℕ) (a r : Action) (t : Bool) → next_action p h ≡ Some a → a ≡ r
      → (IsTrue t ↔ MayCall s n (call n r)) → IsTrue t ↔ IsAtTurn p h s n
  at-turn p h s n a r t next same each = (
    λ yes. record { action = a; next = next; may = subst (λ a. MayCall s n (call n a)) (sym same) (each.0 yes) },
    λ at. each.1 (subst (λ a. MayCall s n (call n a)) (same-action at.action a (next_action p h) at.next next ∙ same) at.may),
  )

  -- ---- the five
  module _ {X S K F A B : Type 0} (tells : Tells L S K F A B) (shared : Shared X S K F A B) (o : Opening J) (s : CoreState L) (reached : IsReached o s)
      (stands : SharedStands tells shared s) where
    abbrev centre : Centre jobs (first_state o) s
    centre = reached-centre jobs o s reached

    pub has-place : (p : ℕ) → IsProcess p → (action : Action) → next_action (process J p) (s.histories p) ≡ Some action → HasPlace s p action
    has-place p one action next = record {
      buffer = λ b side visit e.
          call-buffer jobs (the-five jobs) p (s.histories p) one (follows-of jobs (process J) p (s.histories p)
          (centre.stands.follows p)) action b side visit next e;
      asks = λ is may.
          may-request jobs tells (first_state o) s centre.stands shared stands p one
          (subst (λ a. next_action (process J p) (s.histories p) ≡ Some a) is next) may;
    }

    turn-own : (p : ℕ) → IsProcess p → (t : Bool)
        → (((action : Action) → next_action (process J p) (s.histories p) ≡ Some action → HasPlace s p action)
        → IsTrue t ↔ IsAtTurn (process J p) (s.histories p) s p) → IsTrue t ↔ MayGo (core J (process J)) s p
    turn-own p one t each =
        let both = each (has-place p one) in (
          λ yes. (let at = both.0 yes in record { action = at.action; one = one; next = at.next; may = at.may }),
          λ may. both.1 record { action = may.action; next = may.next; may = may.may },
        )

    pub turn-at : (p q : ℕ) → p ≡ q → IsProcess q → (t : Bool)
        → (((action : Action) → next_action (process J q) (s.histories q) ≡ Some action → HasPlace s p action)
        → IsTrue t ↔ IsAtTurn (process J q) (s.histories q) s p) → IsTrue t ↔ MayGo (core J (process J)) s p
    turn-at p q e =
        subst (λ q. IsProcess q → (t : Bool)
        → (((action : Action) → next_action (process J q) (s.histories q) ≡ Some action → HasPlace s p action)
        → IsTrue t ↔ IsAtTurn (process J q) (s.histories q) s p) → IsTrue t ↔ MayGo (core J (process J)) s p) e (turn-own p)

  -- ---- whether an event ends its process
  not-end : (p : Process L) (h : List (Entry L)) (a : Action) → newest h ≡ Some a → ((how : Outcome) → a ≡ act.Ended how → ⊥)
      → false ≡ is_none (next_action p h)
  not-end p h a e never = by (next_action p h) refl
    where
      same : (x y : Action) → newest h ≡ Some x → newest h ≡ Some y → x ≡ y
      same x y first second = cc

      by : (next : Option Action) → next_action p h ≡ next → false ≡ is_none next
      by (Some action) is = refl
      by None is = (let ended = none-next J p h is in absurd (never ended.0 (same a (act.Ended ended.0) e ended.1)))

  end-is : (p : Process L) (h : List (Entry L)) (a : Action) → newest h ≡ Some a → is_end a ≡ is_none (next_action p h)
  end-is p h (act.Ended how) e = sym (ap is_none (ended-none jobs p h (how, e)))
  end-is p h act.ReadCard e = not-end p h act.ReadCard e (λ how is. cc)
  end-is p h (act.PutFeed f) e = not-end p h (act.PutFeed f) e (λ how is. cc)
  end-is p h act.TakeFeed e = not-end p h act.TakeFeed e (λ how is. cc)
  end-is p h act.AwaitRoom e = not-end p h act.AwaitRoom e (λ how is. cc)
  end-is p h act.AwaitItem e = not-end p h act.AwaitItem e (λ how is. cc)
  end-is p h act.Request e = not-end p h act.Request e (λ how is. cc)
  end-is p h (act.PutPage page) e = not-end p h (act.PutPage page) e (λ how is. cc)
  end-is p h act.TakePage e = not-end p h act.TakePage e (λ how is. cc)
  end-is p h (act.Load file) e = not-end p h (act.Load file) e (λ how is. cc)
  end-is p h act.Release e = not-end p h act.Release e (λ how is. cc)
  end-is p h act.Local e = not-end p h act.Local e (λ how is. cc)
  end-is p h (act.Print line) e = not-end p h (act.Print line) e (λ how is. cc)
  end-is p h (act.Stop b) e = not-end p h (act.Stop b) e (λ how is. cc)

  pub goes-so : (p : Process L) (entry : Entry L) (h : List (Entry L)) (again : Bool)
      → stepped_so (is_delayed (went entry)) (is_end (action_of entry)) again
      ≡ stepped_so (is_delayed (went entry)) (is_none (next_action p (entry ∷ h))) again
  goes-so p (Does a r) h again = ap (λ ends. stepped_so (is_delayed (went (Does a r))) ends again) (end-is p (Does a r ∷ h) a refl)
  goes-so p (LacksMemory a r) h again = ap (λ ends. stepped_so (is_delayed (went (LacksMemory a r))) ends again) (end-is p (LacksMemory a r ∷ h) a refl)
  goes-so p (Delays a) h again = refl
