-- No line was given yet, and less is left.
use Rattle.std.proofs.Common.{List, ℕ, ◌≤◌}
use Rattle.batch_program.specs.Outcome.{Work}
use Rattle.batch_program.specs.Progress.{most_lines_left}
use Rattle.batch_program.specs.Told.{IsAt}
use Rattle.batch_program.proofs.program.BatchProgram.next.Given as goal

abbrev pub invariant-loop-told : goal.invariant-loop-told
invariant-loop-told l = record {
  stands : (w : Work) (given : List (List ℕ)) → IsAt l.initial.self w given → IsAt l.self w given;
  less : most_lines_left l.self ≤ most_lines_left l.initial.self;
}

abbrev pub decreases-loop-told : goal.decreases-loop-told
decreases-loop-told l = most_lines_left l.self
