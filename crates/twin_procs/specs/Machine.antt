-- What a machine keeps of its history.
use Rattle.std.specs.Prelude.{◌≡◌, ◌<◌, ◌^◌, ℕ, zero, suc, Bool, true, false, List, [], ◌∷◌, length, Option, None, Some, is_none, Result, Ok, IfOk, OnErr}
use Rattle.solo_base.specs.declared.outcome.Outcome.{Outcome}
use Rattle.solo_base.specs.declared.no_memory.NoMemory.{NoMemory}
use Rattle.batch_procs.specs.declared.actions.Reply.{Reply}
use Rattle.batch_procs.specs.declared.actions.Reply.TheVariants as reply
use Rattle.batch_procs.specs.declared.round.Step.{Step}
use Rattle.batch_procs.specs.declared.round.Step.TheVariants as step
use Rattle.batch_procs.specs.Causes.{fault_read}
use Rattle.batch_procs.specs.Machine.{held_at}
use Rattle.place_law.specs.Process.{fault_in}
use Rattle.place_law.specs.Ending.{outcome_by}
use Rattle.twin_law.specs.Process.{Action, Release, Request, Stop, Ended, Entry, Aim, PutsFeed, PutsPage, Works, Prints, Reads, TakesFeed, TakesPage, Loads, Process, Closing, place, given_cause, caused, stands_behind, begins, moves, closing, holds, has_stopped, has_ended, newest}
use Rattle.twin_law.specs.Twin.{Fits, MayLack}
use Rattle.twin_procs.specs.declared.actions.TwinAction.{TwinAction}
use Rattle.twin_procs.specs.declared.machine.TwinMachine.{TwinMachine}
use Rattle.twin_procs.specs.Said.{said, step_said}

-- ---- where it is in its round
-- by the newest action; before the first it begins what it aims at
abbrev pub step_after : Option Action → Step
step_after None = step.Free
step_after (Some action) = step_said (said action)

abbrev pub is_over : Step → Bool
is_over step.Ended = true
is_over other = false

-- the next call on the way to an aim
abbrev pub makes_at : Step → Aim → Action
makes_at step.Free m = begins m
makes_at step.Awaited m = Request
makes_at step.Granted m = moves m
makes_at step.Moved m = Release
makes_at step.Ended m = begins m

-- ---- the stops
-- which buffers it stops: its spools where its work is done, and else all
abbrev pub stops_of : {L : Type 0} → Process L → Bool → List ℕ
stops_of p true = p.spools
stops_of p false = p.buffers

-- how it closes down, with a cause or without one
abbrev pub closing_with : {L : Type 0} → Process L → Option Outcome → Closing
closing_with p cause = record { stops = stops_of p (is_none cause); how = outcome_by cause }

-- of the buffers the first n are stopped, and no other
abbrev pub AreStopped : {L : Type 0} → List ℕ → ℕ → List (Entry L) → Type 0
AreStopped [] zero h = Unit {0}
AreStopped [] (suc n) h = ⊥
AreStopped (b ∷ later) zero h = (has_stopped b h ≡ false) × AreStopped later zero h
AreStopped (b ∷ later) (suc n) h = (has_stopped b h ≡ true) × AreStopped later n h

-- until it closes down it stops none
abbrev pub StopsSo : {L : Type 0} → Option Closing → ℕ → List (Entry L) → Type 0
StopsSo None n h = (n ≡ 0) × ((b : ℕ) → has_stopped b h ≡ false)
StopsSo (Some c) n h = AreStopped c.stops n h

abbrev pub IsBelow : ℕ → List ℕ → Type 0
IsBelow n [] = Unit {0}
IsBelow n (b ∷ later) = (n < b) × IsBelow n later

-- each number is below those behind it
abbrev pub IsAscending : List ℕ → Type 0
IsAscending [] = Unit {0}
IsAscending (b ∷ later) = IsBelow b later × IsAscending later

-- The buffers that it stops stand in order, fewer than 256.
pub record ClosesDown {L : Type 0} (p : Process L) : Type 0 where
  pub ascending : IsAscending p.buffers
  pub few : length p.buffers < 2 ^ 8
  pub spools_ascending : IsAscending p.spools
  pub spools_few : length p.spools < 2 ^ 8

-- ---- the machine
-- It stands where its process does behind the history.
pub record StandsFor {L X P : Type 0} (p : Process L) (stands : P → p.Place → Type 0)
    (machine : TwinMachine X P) (h : List (Entry L)) : Type 0 where
  pub cause : machine.cause ≡ caused p h
  pub step : machine.step ≡ step_after (newest h)
  pub held : holds h ≡ held_at machine.step
  pub over : has_ended h ≡ is_over machine.step
  pub stops : StopsSo (closing p h) machine.stops h
  pub at_place : caused p h ≡ None → stands machine.process (place p h)

-- an answer says what is next, unless the process has ended
abbrev pub NextIs : Option Action → TwinAction → Type 0
NextIs None action = Unit {0}
NextIs (Some next) action = said next ≡ action

-- ---- what the process itself does
-- it puts, prints or works
abbrev pub IsDone : Aim → Type 0
IsDone (PutsFeed b f) = Unit {0}
IsDone (PutsPage b page) = Unit {0}
IsDone (Prints line) = Unit {0}
IsDone Works = Unit {0}
IsDone other = ⊥

abbrev pub IsAtWork : Aim → Type 0
IsAtWork Works = Unit {0}
IsAtWork other = ⊥

-- a reply that hands over what is aimed at
abbrev pub IsHanded : {L : Type 0} → Aim → Reply L → Type 0
IsHanded Reads (reply.Card answer) = Unit {0}
IsHanded (TakesFeed b) (reply.Feed f) = Unit {0}
IsHanded (TakesPage b) (reply.Page page last) = Unit {0}
IsHanded (Loads file) (reply.Loaded load) = Unit {0}
IsHanded aim r = ⊥

abbrev pub IsPage : {L : Type 0} → Reply L → Type 0
IsPage (reply.Page page last) = Unit {0}
IsPage other = ⊥

-- the cause that is found in what is handed over at a place
abbrev pub handed_cause : {L : Type 0} → (p : Process L) → p.Place → Reply L → Option Outcome
handed_cause p at (reply.Card answer) = fault_read answer
handed_cause p at (reply.Page page last) = fault_in (p.finds at (reply.Page page last))
handed_cause p at r = None

-- A take gives its cause, and without one the process is at the place behind it.
abbrev pub Takes : {L : Type 0} → (p : Process L) → (p.Place → Type 0) → p.Place → Reply L → Option Outcome
    → Type 0
Takes p now at r cause = (cause ≡ handed_cause p at r) × (cause ≡ None → now (p.behind at r))

abbrev pub TakesSo : {L : Type 0} → (p : Process L) → (p.Place → Type 0) → p.Place → Reply L
    → Result (Option Outcome) NoMemory → Type 0
TakesSo p now at r result = IfOk result (λ cause. Takes p now at r cause)

-- ---- one reply to an action
-- It gives the cause of the action with it, and where there is none the process is at the place behind it.
pub record IsUsedSo {L : Type 0} (p : Process L) (now : p.Place → Type 0) (at : p.Place) (action : Action)
    (r : Reply L) (cause : Option Outcome) : Type 0 where
  pub cause_is : cause ≡ given_cause p at action r
  pub goes_on : cause ≡ None → now (stands_behind p at action r)

-- a call of one that closes down
abbrev pub IsClosing : Action → Type 0
IsClosing Release = Unit {0}
IsClosing (Stop b) = Unit {0}
IsClosing (Ended how) = Unit {0}
IsClosing other = ⊥

-- The reply is used so at every place at which the process may be. The calls of one that closes down change
-- nothing of it, and memory is refused only where the action may lack it.
pub record Answers {L P : Type 0} (p : Process L) (stands : P → p.Place → Type 0) (old : P)
    (action : TwinAction) (r : Reply L) (result : Result (Option Outcome) NoMemory) (new : P) : Type 0 where
  pub uses : (at : p.Place) (s : Step) → stands old at → action ≡ said (makes_at s (p.aims at))
      → Fits (makes_at s (p.aims at)) r
      → IfOk result (λ cause. IsUsedSo p (stands new) at (makes_at s (p.aims at)) r cause)
  pub closes : (a : Action) → IsClosing a → action ≡ said a → Fits a r → (result ≡ Ok None) × (new ≡ old)
  pub lacks : OnErr result ((p.works ≡ true) × ((at : p.Place) (s : Step) → stands old at
      → action ≡ said (makes_at s (p.aims at)) → Fits (makes_at s (p.aims at)) r
      → MayLack (makes_at s (p.aims at)) r))
