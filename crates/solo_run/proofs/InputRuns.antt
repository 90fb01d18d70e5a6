-- The input process at its side of the buffers: what it may do next, and that it did so.
use Rattle.std.proofs.Common.{ℕ, List, Option, sym, subst}
use Rattle.network_law.specs.Network.{Follows}
use Rattle.place_law.specs.Process.{next_action}
use Rattle.solo_law.specs.Replies.{view}
use Rattle.solo_law.specs.Solo.{process, solo, SoloEntry}
use Rattle.solo_threads.specs.Threads.{entries}
use Rattle.solo_procs.specs.Machine.{StandsFor, SaysNext}
use Rattle.solo_procs.specs.declared.actions.SoloAction.{SoloAction}
use Rattle.solo_procs.specs.declared.actions.SoloReply.{SoloReply}
use Rattle.solo_procs.specs.declared.input_proc.InputProc.{InputProc}
use Rattle.solo_procs.specs.declared.machine.Machine.{Machine}
use Rattle.solo_run.specs.declared.input_side.InputSide.{InputSide}
use Rattle.solo_run.specs.Input.{InputMay, InputPerforms, InputRan}
use Rattle.solo_run.specs.Places.{input_at}
use Rattle.solo_run.specs.Running.{DidSo}
use Rattle.solo_run.proofs.Going.{Going, next_of, next-is, said-is}
use Rattle.solo_run.proofs.InputSteps.{input-does, input-may, input-did}
use Rattle.solo_run.proofs.NextDeeds.{follows-1}

module _ {S : Type 0} {left : S → Option (List ℕ)} {taken faults : S → ℕ} {machine : Machine InputProc} {start old : InputSide S} {action : SoloAction}
    (going : Going 1 input_at input_at machine (InputRan left taken faults start old))
    (says : (h : List SoloEntry) → StandsFor (process 1) input_at input_at machine h → SaysNext (next_action view (process 1) h) action) where
  pub input-follows : Follows solo 1 (entries going.deeds)
  input-follows = follows-1 (entries going.deeds) going.stands.tracks.follows

  pub input-may_next : InputMay old action
  input-may_next =
      subst (InputMay old) (said-is going says)
      (input-may left taken faults start old going.deeds going.ran (next_of going says) input-follows (next-is going says))

  pub input-did_next : (new : InputSide S) (reply : SoloReply) → InputPerforms left taken faults old new action reply
      → DidSo 1 (InputRan left taken faults start new) going.deeds (next_of going says) reply
  input-did_next new reply performs =
      input-did left taken faults start old going.deeds going.ran new (next_of going says) reply
      (input-does (entries going.deeds) (next_of going says) (next-is going says)) (next-is going says)
      (subst (λ action. InputPerforms left taken faults old new action reply) (sym (said-is going says)) performs)
