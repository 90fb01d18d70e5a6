-- The output process at its side of the buffers: what it may do next, and that it did so.
use Rattle.std.proofs.Common.{ℕ, List, Option, sym, subst}
use Rattle.network_law.specs.Network.{Follows}
use Rattle.place_law.specs.Process.{next_action}
use Rattle.solo_law.specs.Replies.{view}
use Rattle.solo_law.specs.Solo.{process, solo, SoloEntry}
use Rattle.solo_threads.specs.Threads.{entries}
use Rattle.solo_procs.specs.Machine.{StandsFor, SaysNext}
use Rattle.solo_procs.specs.declared.actions.SoloAction.{SoloAction}
use Rattle.solo_procs.specs.declared.actions.SoloReply.{SoloReply}
use Rattle.solo_procs.specs.declared.output_proc.OutputProc.{OutputProc}
use Rattle.solo_procs.specs.declared.machine.Machine.{Machine}
use Rattle.solo_run.specs.declared.output_side.OutputSide.{OutputSide}
use Rattle.solo_run.specs.Output.{OutputMay, OutputPerforms, OutputRan}
use Rattle.solo_run.specs.Places.{output_at}
use Rattle.solo_run.specs.Running.{DidSo}
use Rattle.solo_run.proofs.Going.{Going, next_of, next-is, said-is}
use Rattle.solo_run.proofs.OutputSteps.{output-does, output-may, output-did}
use Rattle.solo_run.proofs.NextDeeds.{follows-3}

module _ {K : Type 0} {given : K → Option (List ℕ)} {faults : K → ℕ} {machine : Machine OutputProc} {start old : OutputSide K} {action : SoloAction}
    (going : Going 3 output_at output_at machine (OutputRan given faults start old))
    (says : (h : List SoloEntry) → StandsFor (process 3) output_at output_at machine h → SaysNext (next_action view (process 3) h) action) where
  pub output-follows : Follows solo 3 (entries going.deeds)
  output-follows = follows-3 (entries going.deeds) going.stands.tracks.follows

  pub output-may_next : OutputMay old action
  output-may_next =
      subst (OutputMay old) (said-is going says)
      (output-may given faults start old going.deeds going.ran (next_of going says) output-follows (next-is going says))

  pub output-did_next : (new : OutputSide K) (reply : SoloReply) → OutputPerforms given faults old new action reply
      → DidSo 3 (OutputRan given faults start new) going.deeds (next_of going says) reply
  output-did_next new reply performs =
      output-did given faults start old going.deeds going.ran new (next_of going says) reply
      (output-does (entries going.deeds) (next_of going says) (next-is going says)) (next-is going says)
      (subst (λ action. OutputPerforms given faults old new action reply) (sym (said-is going says)) performs)
