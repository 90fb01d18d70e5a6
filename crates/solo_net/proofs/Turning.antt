-- A process that may go on is at its turn, and what is next at its turn may be performed.
use Rattle.std.proofs.Common.{◌≡◌, ◌↔◌, ℕ, Bool, true, false, List, ◌∷◌, Option, None, Some, refl, sym, ◌∙◌, ap, subst, arith}
use Rattle.std.specs.Prelude.{IsTrue, is_none}
use Rattle.solo_base.specs.declared.outcome.Outcome.{Outcome}
use Rattle.solo_base.specs.declared.outcome.Side.{Side}
use Rattle.solo_base.specs.declared.outcome.Side.TheVariants.{Sender, Receiver}
use Rattle.queue_var.specs.Sides.{MayEnter, MayStop, has_stopped}
use Rattle.network_law.specs.Acts.{Visit, At, Passes, is_delayed, made_stop}
use Rattle.network_law.specs.Network.{MayCall, acts}
use Rattle.network_law.specs.Processes.{CallsNext}
use Rattle.network_law.specs.Kept.{Stands}
use Rattle.network_law.specs.Stepping.{MayGo, stepped_so}
use Rattle.place_law.specs.Process.{Process, Does, LacksMemory, Delays, action_of, caused, how_ended, or_new, next_by, unless_ended, next_action, EntrySuits, went}
use Rattle.place_law.proofs.Ended.{none-ended, ended-none}
use Rattle.place_law.proofs.Nexts.{goes-on}
use Rattle.solo_law.specs.Actions.{Action, Reply}
use Rattle.solo_law.specs.Actions as act
use Rattle.solo_law.specs.Buffers.{call, side_at}
use Rattle.solo_law.specs.Replies.{view, ends_so}
use Rattle.solo_law.specs.InputPlaces.{input}
use Rattle.solo_law.specs.OutputPlaces.{output}
use Rattle.solo_law.specs.JobPlaces.{job}
use Rattle.solo_law.specs.Solo.{process, table, solo, SoloState, SoloEntry, IsProcess}
use Rattle.solo_law.specs.Holds.{IsBuffer}
use Rattle.solo_law.proofs.Placed.{calls-so, solo-lawful}
use Rattle.solo_procs.specs.declared.actions.SoloAction.{SoloAction}
use Rattle.solo_procs.specs.Said.{said, is_end}
use Rattle.solo_procs.specs.Machine.{HasEnded}
use Rattle.solo_net.specs.declared.shared.Shared.{Shared}
use Rattle.solo_net.specs.Actions.{unsaid, SoloHasPlace, IsNoWork}
use Rattle.solo_net.specs.SixBuffers.{SoloBuffersStand, SoloWaitsAt, sides_at}
use Rattle.solo_net.specs.Sharing.{SoloMayPerform}
use Rattle.solo_net.specs.Turns.{SoloIsAtTurn}
use Rattle.solo_net.proofs.Placing.{next-place, next-owned, IsOpen, free-next}
use Rattle.solo_net.proofs.Visiting.{sides-are, arg-is, page-is}

pub no-truth : IsTrue false → ⊥
no-truth is = absurd cc

-- ---- whether a process has ended
pub ended-at : (s : SoloState) (p q : ℕ) → p ≡ q → (t : Bool) → (IsTrue t ↔ HasEnded (s.histories q))
    → IsTrue t ↔ (next_action view (process p) (s.histories p) ≡ None)
ended-at s p q e t is =
    subst (λ p. IsTrue t ↔ (next_action view (process p) (s.histories p) ≡ None)) (sym e) (
      λ yes. (let (how, ended) = is.0 yes in ended-none table q (s.histories q) how ended),
      λ none. is.1 (none-ended table q (s.histories q) none),
    )

-- ---- one machine, by its own process
unless-none : (how : Option Outcome) (a : Action) → unless_ended how a ≡ None → (why : Outcome) × (how ≡ Some why)
unless-none None a e = absurd cc
unless-none (Some why) a e = (why, refl)

none-has : (p : Process Action Reply) (h : List SoloEntry) → next_action view p h ≡ None → HasEnded h
none-has p h e = unless-none (how_ended view h) (next_by view p (caused view p h) h) e

has-none : (p : Process Action Reply) (h : List SoloEntry) → HasEnded h → next_action view p h ≡ None
has-none p h (how, ended) = ap (λ how. unless_ended how (next_by view p (caused view p h) h)) ended

pub never-at-turn : (p : Process Action Reply) (h : List SoloEntry) (s : SoloState) (n : ℕ) → HasEnded h → SoloIsAtTurn p h s n → ⊥
never-at-turn p h s n ended at = (let none = has-none p h ended in let some = at.next in cc)

pub some-next : (p : Process Action Reply) (h : List SoloEntry) (t : Bool) → (IsTrue t ↔ HasEnded h) → t ≡ false
    → (action : Action) × (next_action view p h ≡ Some action)
some-next p h t is not = some-of (next_action view p h) refl
  where
    some-of : (next : Option Action) → next_action view p h ≡ next → (action : Action) × (next_action view p h ≡ Some action)
    some-of (Some action) e = (action, e)
    some-of None e = absurd (let ended = is.1 (none-has p h e) in cc)

same-action : (a b : Action) (next : Option Action) → next ≡ Some a → next ≡ Some b → a ≡ b
same-action a b next first second = cc

-- what is said of a piece of work calls no buffer either
unsaid-call : (p : ℕ) (a : Action) → call p (unsaid (said a)) ≡ call p a
unsaid-call p act.Accept = refl
unsaid-call p (act.Display line) = refl
unsaid-call p act.ReadCard = refl
unsaid-call p (act.Print line) = refl
unsaid-call p (act.PutArg b x) = refl
unsaid-call p (act.TakeArg b) = refl
unsaid-call p (act.PutPage b page) = refl
unsaid-call p (act.TakePage b) = refl
unsaid-call p (act.Works work) = refl
unsaid-call p (act.Stop b) = refl
unsaid-call p (act.Ended how) = refl

unsaid-place : (a : Action) → SoloHasPlace a → SoloHasPlace (unsaid (said a))
unsaid-place act.Accept is = is
unsaid-place (act.Display line) is = is
unsaid-place act.ReadCard is = is
unsaid-place (act.Print line) is = is
unsaid-place (act.PutArg b x) is = is
unsaid-place (act.TakeArg b) is = is
unsaid-place (act.PutPage b page) is = is
unsaid-place (act.TakePage b) is = is
unsaid-place (act.Works work) is = tt
unsaid-place (act.Stop b) is = is
unsaid-place (act.Ended how) is = is

pub at-turn : (p : Process Action Reply) (h : List SoloEntry) (s : SoloState) (n : ℕ) (a : Action) (r : SoloAction) (t : Bool) → next_action view p h ≡ Some a
    → said a ≡ r → SoloHasPlace a → (SoloHasPlace (unsaid r) → IsTrue t ↔ MayCall s n (call n (unsaid r))) → IsTrue t ↔ SoloIsAtTurn p h s n
at-turn p h s n a r t next same has_place each =
    let both : IsTrue t ↔ MayCall s n (call n a) =
    subst (λ c. IsTrue t ↔ MayCall s n c) (ap (λ r. call n (unsaid r)) (sym same) ∙ unsaid-call n a)
    (each (subst (λ r. SoloHasPlace (unsaid r)) same (unsaid-place a has_place))) in (
      λ yes. record { action = a; next = next; may = both.0 yes },
      λ at. both.1 (subst (λ a. MayCall s n (call n a)) (same-action at.action a (next_action view p h) at.next next) at.may),
    )

-- ---- the three
turn-own : (s : SoloState) (p : ℕ) → IsProcess p → (t : Bool)
    → (((action : Action) → next_action view (process p) (s.histories p) ≡ Some action → SoloHasPlace action)
    → IsTrue t ↔ SoloIsAtTurn (process p) (s.histories p) s p) → IsTrue t ↔ MayGo solo s p
turn-own s p one t each =
    let both = each (λ action next. next-place p (s.histories p) action one next) in (
      λ yes. (let at = both.0 yes in record {
        action = at.action;
        one = one;
        next = at.next;
        may = subst (MayCall s p) (sym (calls-so p one at.action)) at.may;
      }),
      λ may. both.1 record { action = may.action; next = may.next; may = subst (MayCall s p) (calls-so p one may.action) may.may },
    )

pub turn-at : (s : SoloState) (p q : ℕ) → p ≡ q → IsProcess q → (t : Bool)
    → (((action : Action) → next_action view (process q) (s.histories q) ≡ Some action → SoloHasPlace action)
    → IsTrue t ↔ SoloIsAtTurn (process q) (s.histories q) s p) → IsTrue t ↔ MayGo solo s p
turn-at s p q e =
    subst (λ q. IsProcess q → (t : Bool)
    → (((action : Action) → next_action view (process q) (s.histories q) ≡ Some action → SoloHasPlace action)
    → IsTrue t ↔ SoloIsAtTurn (process q) (s.histories q) s p) → IsTrue t ↔ MayGo solo s p) e (turn-own s p)

-- another number is no process
pub no-other : (p : ℕ) → IsProcess p → (p ≡ 1 → ⊥) → (p ≡ 2 → ⊥) → (p ≡ 3 → ⊥) → ⊥
no-other p one a b c = (let low = one.0 in let high = one.1 in omega (arith, a, b, c, low, high))

pub last-number : (p : ℕ) → IsProcess p → (p ≡ 1 → ⊥) → (p ≡ 2 → ⊥) → p ≡ 3
last-number p one a b = (let low = one.0 in let high = one.1 in omega (arith, a, b, low, high))

-- ---- whether an event ends its process
end-is : (a x : Action) → is_end (said a) ≡ is_none (unless_ended (ends_so a) x)
end-is act.Accept x = refl
end-is (act.Display line) x = refl
end-is act.ReadCard x = refl
end-is (act.Print line) x = refl
end-is (act.PutArg b arg) x = refl
end-is (act.TakeArg b) x = refl
end-is (act.PutPage b page) x = refl
end-is (act.TakePage b) x = refl
end-is (act.Works work) x = refl
end-is (act.Stop b) x = refl
end-is (act.Ended how) x = refl

lack-end : (a x : Action) (r : Reply) → view.MayLack a r → is_end (said a) ≡ is_none (unless_ended None x)
lack-end (act.TakePage b) x (act.OfPage page) may = refl
lack-end a x r may = absurd may

pub goes-so : (q : ℕ) (entry : SoloEntry) (h : List SoloEntry) (again : Bool) → EntrySuits view (process q) entry
    → next_action view (process q) h ≡ Some (action_of entry)
    → stepped_so (is_delayed (went view entry)) (is_end (said (action_of entry))) again
    ≡ stepped_so (is_delayed (went view entry)) (is_none (next_action view (process q) (entry ∷ h))) again
goes-so q (Does a r) h again suits next =
    let x = next_by view (process q) (caused view (process q) (Does a r ∷ h)) (Does a r ∷ h) in
    ap (λ ends. stepped_so (is_delayed (went view (Does a r))) ends again)
    (end-is a x ∙ ap (λ how. is_none (unless_ended (or_new how (ends_so a)) x)) (sym (goes-on table q h a next)))
goes-so q (LacksMemory a r) h again suits next =
    let x = next_by view (process q) (caused view (process q) (LacksMemory a r ∷ h)) (LacksMemory a r ∷ h) in
    ap (λ ends. stepped_so (is_delayed (went view (LacksMemory a r))) ends again)
    (lack-end a x r suits.1 ∙ ap (λ how. is_none (unless_ended how x)) (sym (goes-on table q h a next)))
goes-so q (Delays a) h again suits next = refl

-- ---- what may be performed
module _ {S Y K T F : Type 0} (opening s : SoloState) (st : Stands solo opening s) (shared : Shared S Y K T F)
    (six : SoloBuffersStand shared.buffers s.buffers) (p : ℕ) (one : IsProcess p) where
  -- its side has not stopped there
  side-open : (a : Action) (b : ℕ) (side : Side) (visit : Visit) → next_action view (process p) (s.histories p) ≡ Some a → call p a ≡ At b side visit
      → has_stopped (s.buffers b).sides side ≡ false
  side-open a b side visit next e =
      let calls : CallsNext solo p (s.histories p) (At b side visit) = record { action = a; next = next; call = calls-so p one a ∙ e } in
      let seated = solo-lawful.seated p (s.histories p) b side visit one (st.follows p) calls in
      (st.buffers.hand_over b).stopped_first.each side ∙ st.buffers.stops b side
      ∙ subst (λ q. made_stop b side (acts solo q (s.histories q)) ≡ false) (sym seated)
      (solo-lawful.unstopped p (s.histories p) b side visit one (st.follows p) calls)

  waits : (a : Action) (b : ℕ) (side : Side) → next_action view (process p) (s.histories p) ≡ Some a → MayCall s p (call p a)
      → call p a ≡ At b side Passes → IsBuffer b → SoloWaitsAt (sides_at shared.buffers b) side p
  waits a b side next may e is =
      let same = sides-are shared.buffers s.buffers six b is in (
        subst (λ sides. MayEnter sides side p) same (subst (MayCall s p) e may),
        subst (λ sides. has_stopped sides side ≡ false) same (side-open a b side Passes next e),
      )

  free-at : (n : ℕ) (a : Action) → next_action view (process p) (s.histories p) ≡ Some a → IsOpen a → p ≡ n
      → caused view (process n) (s.histories n) ≡ None
  free-at n a next open_so is =
      subst (λ q. caused view (process q) (s.histories q) ≡ None) is (free-next p (s.histories p) a one next open_so)

  pub may-perform : (caused view input (s.histories 1) ≡ None → shared.units.cards.live ≡ true)
      → (caused view job (s.histories 2) ≡ None → shared.units.typewriter.keys.live ≡ true)
      → (caused view job (s.histories 2) ≡ None → shared.units.typewriter.console.live ≡ true)
      → (caused view output (s.histories 3) ≡ None → shared.units.paper.live ≡ true)
      → (a : Action) → IsNoWork a → next_action view (process p) (s.histories p) ≡ Some a → MayCall s p (call p a) → SoloMayPerform shared p a
  may-perform cards keys console paper act.Accept no_work next may =
      keys (free-at 2 act.Accept next tt (next-owned p (s.histories p) act.Accept one next))
  may-perform cards keys console paper (act.Display line) no_work next may =
      console (free-at 2 (act.Display line) next tt (next-owned p (s.histories p) (act.Display line) one next))
  may-perform cards keys console paper act.ReadCard no_work next may =
      cards (free-at 1 act.ReadCard next tt (next-owned p (s.histories p) act.ReadCard one next))
  may-perform cards keys console paper (act.Print line) no_work next may =
      paper (free-at 3 (act.Print line) next tt (next-owned p (s.histories p) (act.Print line) one next))
  may-perform cards keys console paper (act.PutArg b x) no_work next may =
      let is = next-place p (s.histories p) (act.PutArg b x) one next in (is, waits (act.PutArg b x) b Sender next may refl (arg-is b is))
  may-perform cards keys console paper (act.TakeArg b) no_work next may =
      let is = next-place p (s.histories p) (act.TakeArg b) one next in (is, waits (act.TakeArg b) b Receiver next may refl (arg-is b is))
  may-perform cards keys console paper (act.PutPage b page) no_work next may =
      let is = next-place p (s.histories p) (act.PutPage b page) one next in (is, waits (act.PutPage b page) b Sender next may refl (page-is b is))
  may-perform cards keys console paper (act.TakePage b) no_work next may =
      let is = next-place p (s.histories p) (act.TakePage b) one next in (is, waits (act.TakePage b) b Receiver next may refl (page-is b is))
  may-perform cards keys console paper (act.Works work) no_work next may = absurd no_work
  may-perform cards keys console paper (act.Stop b) no_work next may =
      let is = next-place p (s.histories p) (act.Stop b) one next in
      (is, subst (λ sides. MayStop sides (side_at p b)) (sides-are shared.buffers s.buffers six b is) may)
  may-perform cards keys console paper (act.Ended how) no_work next may = tt
