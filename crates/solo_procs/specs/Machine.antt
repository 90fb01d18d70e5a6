-- What a machine keeps of its history.
use Rattle.std.specs.Prelude.{◌≡◌, ◌<◌, ◌^◌, ◌==◌, ℕ, zero, suc, true, false, List, [], ◌∷◌, length, Option, None, Some, Result, IfOk, OnErr}
use Rattle.std.specs.Option.{is_some}
use Rattle.solo_base.specs.declared.outcome.Outcome.{Outcome}
use Rattle.solo_base.specs.declared.no_memory.NoMemory.{NoMemory}
use Rattle.place_law.specs.Process.{Entry, Does, action_of, Process, place, fault_in, given_cause, caused, stops_by, has_stopped, how_ended, next_action, EntrySuits}
use Rattle.solo_law.specs.Work.{Need}
use Rattle.solo_law.specs.Actions.{Action, Reply}
use Rattle.solo_law.specs.Actions as act
use Rattle.solo_law.specs.Replies.{view, Fits, MayLack}
use Rattle.solo_procs.specs.declared.actions.SoloAction.{SoloAction}
use Rattle.solo_procs.specs.declared.actions.SoloReply.{SoloReply}
use Rattle.solo_procs.specs.declared.machine.Machine.{Machine}
use Rattle.solo_procs.specs.Said.{said, Hears}

-- ---- the history
-- Each entry is the next action behind those before it, with a reply that it may have.
abbrev pub Follows : Process Action Reply → List (Entry Action Reply) → Type 0
Follows p [] = Unit {0}
Follows p (entry ∷ before) =
    (next_action view p before ≡ Some (action_of entry)) × EntrySuits view p entry × Follows p before

abbrev pub HasEnded : List (Entry Action Reply) → Type 0
HasEnded h = (how : Outcome) × (how_ended view h ≡ Some how)

-- ---- the stops
-- of the buffers the first n are stopped, and no other
abbrev pub FirstAreStopped : Process Action Reply → List ℕ → ℕ → List (Entry Action Reply) → Type 0
FirstAreStopped p [] zero h = Unit {0}
FirstAreStopped p [] (suc n) h = ⊥
FirstAreStopped p (b ∷ later) zero h = (has_stopped p b h ≡ false) × FirstAreStopped p later zero h
FirstAreStopped p (b ∷ later) (suc n) h = (has_stopped p b h ≡ true) × FirstAreStopped p later n h

abbrev pub IsBelow : ℕ → List ℕ → Type 0
IsBelow n [] = Unit {0}
IsBelow n (b ∷ later) = (n < b) × IsBelow n later

-- each number is below those behind it
abbrev pub IsAscending : List ℕ → Type 0
IsAscending [] = Unit {0}
IsAscending (b ∷ later) = IsBelow b later × IsAscending later

abbrev pub IsNoPage : Reply → Type 0
IsNoPage (act.OfPage page) = ⊥
IsNoPage answer = Unit {0}

-- What closing down asks of a process: its buffers stand in order, fewer than 256; a stop is one, and neither
-- what it does at a place nor its end is; and a fault is found in pages alone.
pub record ClosesDown (p : Process Action Reply) : Type 0 where
  pub ascending : IsAscending p.buffers
  pub few : length p.buffers < 2 ^ 8
  pub stops : (b c : ℕ) → stops_by c (p.calls (act.Stop b)) ≡ (c == b)
  pub goes_on : (b : ℕ) (at : p.Place) → stops_by b (p.calls (p.does at)) ≡ false
  pub ends : (b : ℕ) (how : Outcome) → stops_by b (p.calls (act.Ended how)) ≡ false
  pub in_pages : (at : p.Place) (answer : Reply) → IsNoPage answer → p.finds at answer ≡ None

-- ---- the machine
-- The history is one of the process, and the machine closes down as it does behind it. Without a cause it
-- is at the place of its history.
pub record Tracks {P : Type 0} (p : Process Action Reply) (is_at : P → p.Place → Type 0) (machine : Machine P)
    (h : List (Entry Action Reply)) : Type 0 where
  pub follows : Follows p h
  pub cause : machine.cause ≡ caused view p h
  pub ended : machine.ended ≡ is_some (how_ended view h)
  pub stops : FirstAreStopped p p.buffers machine.stops h
  pub at_place : caused view p h ≡ None → is_at machine.process (place p h)

-- And it is ready for the answer.
pub record StandsFor {P : Type 0} (p : Process Action Reply) (is_at ready : P → p.Place → Type 0)
    (machine : Machine P) (h : List (Entry Action Reply)) : Type 0 where
  pub tracks : Tracks p is_at machine h
  pub ready_there : caused view p h ≡ None → ready machine.process (place p h)

-- an answer says what is next, unless the process has ended
abbrev pub SaysNext : Option Action → SoloAction → Type 0
SaysNext None action = Unit {0}
SaysNext (Some next) action = said next ≡ action

-- Without a cause it hears this answer in a reply.
abbrev pub IsTold : {P : Type 0} → (p : Process Action Reply) → (P → p.Place → Type 0)
    → (P → p.Place → Need → Type 0) → Machine P → List (Entry Action Reply) → SoloReply → Reply → Type 0
IsTold p ready came machine h reply answer = caused view p h ≡ None
    → Hears (ready machine.process (place p h)) (came machine.process (place p h)) reply answer

-- ---- one reply to an action
-- A page gives the cause that is found in it, and where there is none the process is ready behind it.
abbrev pub Takes : (p : Process Action Reply) → (p.Place → Type 0) → p.Place → Reply → Option Outcome → Type 0
Takes p now at answer cause =
    (cause ≡ fault_in (p.finds at answer)) × (cause ≡ None → now (p.behind at answer))

-- A reply gives the cause of the action with it, and where there is none the process is ready behind it.
pub record IsUsedSo (p : Process Action Reply) (now : p.Place → Type 0) (at : p.Place) (answer : Reply)
    (cause : Option Outcome) : Type 0 where
  pub cause_is : cause ≡ given_cause view p at (p.does at) answer
  pub ready : cause ≡ None → now (p.behind at answer)

-- The reply is used so at every place at which the process may be.
pub record Answers {P : Type 0} (p : Process Action Reply) (ready : P → p.Place → Type 0)
    (came : P → p.Place → Need → Type 0) (old : P) (action : SoloAction) (reply : SoloReply)
    (result : Result (Option Outcome) NoMemory) (new : P) : Type 0 where
  pub uses : (at : p.Place) (answer : Reply) → action ≡ said (p.does at) → Fits (p.does at) answer
      → Hears (ready old at) (came old at) reply answer
      → IfOk result (λ cause. IsUsedSo p (ready new) at answer cause)
  -- memory is refused only where the process may lack it, and the action too
  pub lacks : OnErr result ((p.may_lack ≡ true) × ((at : p.Place) (a : Action) (answer : Reply)
      → Fits a answer → Hears (ready old at) (came old at) reply answer → MayLack a answer))

-- With a cause, what was next is done: the stop of a buffer, or the end.
abbrev pub ClosesSo : {P : Type 0} → (p : Process Action Reply) → (is_at ready : P → p.Place → Type 0)
    → Machine P → Machine P → Type 0
ClosesSo p is_at ready old new = (h : List (Entry Action Reply)) (action : Action) (answer : Reply)
    (why : Outcome) → Tracks p is_at old h → old.cause ≡ Some why → next_action view p h ≡ Some action
    → Fits action answer → StandsFor p is_at ready new (Does action answer ∷ h)
