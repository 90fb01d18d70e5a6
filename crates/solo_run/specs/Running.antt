-- A process that runs over its side of the buffers: what it did by now, and how it ended.
use Rattle.std.specs.Prelude.{◌≡◌, ℕ, true, List, ◌∷◌, Option, None, Some}
use Rattle.std.specs.List.{AllByRecursion}
use Rattle.solo_base.specs.declared.outcome.Outcome.{Outcome}
use Rattle.network_law.specs.Network.{Follows}
use Rattle.place_law.specs.Process.{Does, LacksMemory, how_ended}
use Rattle.solo_law.specs.Actions.{Action, Reply}
use Rattle.solo_law.specs.Actions as act
use Rattle.solo_law.specs.Replies.{Fits, MayLack, view}
use Rattle.solo_law.specs.Solo.{process, solo}
use Rattle.solo_threads.specs.Threads.{Deed, entries, IsAnswered}
use Rattle.solo_procs.specs.Said.{said_back}
use Rattle.solo_procs.specs.declared.actions.SoloAction.{SoloAction}
use Rattle.solo_procs.specs.declared.actions.SoloAction.TheVariants as say
use Rattle.solo_procs.specs.declared.actions.SoloReply.{SoloReply}

-- how it ends, if this is its end
abbrev pub end_said : SoloAction → Option Outcome
end_said (say.Ended how) = Some how
end_said other = None

-- The process did what its history asks for, and ended so.
pub record EndsSo (p : ℕ) (Ran : List Deed → Type 0) (how : Outcome) : Type 0 where
  pub deeds : List Deed
  pub follows : Follows solo p (entries deeds)
  pub answered : AllByRecursion IsAnswered (entries deeds)
  pub ran : Ran deeds
  pub ended : how_ended view (entries deeds) ≡ Some how

-- a reply that is heard as it is
abbrev pub IsPlain : SoloReply → Reply → Type 0
IsPlain reply (act.Found need) = ⊥
IsPlain reply answer = reply ≡ said_back answer

-- It did this action, and was answered so; also where the memory to use the answer was refused.
pub record DidSo (p : ℕ) (Ran : List Deed → Type 0) (before : List Deed) (a : Action) (reply : SoloReply)
    : Type 0 where
  pub answer : Reply
  pub gained : List ℕ
  pub fits : Fits a answer
  pub plain : IsPlain reply answer
  pub ran : Ran (record { entry = Does a answer; gained = gained } ∷ before)
  pub lacks : (process p).may_lack ≡ true → MayLack a answer
      → Ran (record { entry = LacksMemory a answer; gained = gained } ∷ before)
