-- A process that runs over its side of the buffers: the actions that it makes, what it did by now, and how
-- it ended.
use Rattle.std.specs.Prelude.{◌≡◌, List, ◌∷◌, Option, None, Some}
use Rattle.std.specs.List.{AllByRecursion}
use Rattle.solo_base.specs.declared.outcome.Outcome.{Outcome}
use Rattle.batch_procs.specs.declared.actions.Action.{Action}
use Rattle.batch_procs.specs.declared.actions.Action.TheVariants as act
use Rattle.batch_procs.specs.declared.actions.Reply.{Reply}
use Rattle.batch_procs.specs.Fits.{Fits, MayLack}
use Rattle.batch_procs.specs.History.{Entry, Does, LacksMemory, Delays, newest}
use Rattle.batch_procs.specs.Jobs.{Jobs}
use Rattle.batch_procs.specs.Process.{Process, Follows, next_action}

-- Each action of the process is one of these.
abbrev pub DoesOnly : {L : Type 0} → Jobs L → Process L → (Action → Type 0) → Type 0
DoesOnly {L} J p does = (h : List (Entry L)) (a : Action) → Follows J p h → next_action p h ≡ Some a
    → does a

-- It made this action behind this history and was answered so, and its side stands for the history with it;
-- also
-- where the memory to use the answer was refused.
pub record Performed {L : Type 0} (J : Jobs L) (Stands : List (Entry L) → Type 0) (a : Action) (r : Reply L)
    (before : List (Entry L)) : Type 0 where
  pub fits : Fits J a r
  pub done : Stands (Does a r ∷ before)
  pub lacks : MayLack a r → Stands (LacksMemory a r ∷ before)

-- No call waits: on a thread it comes back with its answer.
abbrev pub IsPrompt : {L : Type 0} → Entry L → Type 0
IsPrompt (Delays action) = ⊥
IsPrompt entry = Unit {0}

-- The process did what its history asks for, and ended so.
pub record EndsSo {L : Type 0} (J : Jobs L) (p : Process L) (Stands : List (Entry L) → Type 0) (how : Outcome)
    : Type 0 where
  pub history : List (Entry L)
  pub stands : Stands history
  pub follows : Follows J p history
  pub prompt : AllByRecursion IsPrompt history
  pub ended : newest history ≡ Some (act.Ended how)

-- how it ends, if this is its end
abbrev pub end_of : Action → Option Outcome
end_of (act.Ended how) = Some how
end_of other = None
