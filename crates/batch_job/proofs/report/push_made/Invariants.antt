use Rattle.std.proofs.Common.{ℕ, List}
use Rattle.program_lines.specs.Task.{Task}
use Rattle.program_lines.specs.Standing.{StandsFor, lines_left}
use Rattle.batch_job.specs.Places.{Gave}
use Rattle.batch_job.proofs.report.push_made.Given as goal

abbrev pub invariant-made : goal.invariant-made
invariant-made l = (t : Task) (given : List (List ℕ)) → StandsFor l.initial.program t given → Gave t given l.initial.lines l.lines l.program

abbrev pub decreases-made : goal.decreases-made
decreases-made l = lines_left l.program
