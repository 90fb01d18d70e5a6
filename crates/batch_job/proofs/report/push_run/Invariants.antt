use Rattle.std.proofs.Common.{◌≡◌, take, false, []}
use Rattle.program_lines.specs.Task.{Task, with_more}
use Rattle.program_lines.specs.Standing.{StandsFor}
use Rattle.batch_job.specs.Places.{Gave}
use Rattle.batch_job.proofs.report.push_run.Given as goal

abbrev pub invariant-loop-place : goal.invariant-loop-place
invariant-loop-place l =
    (t : Task) → StandsFor l.initial.program t [] → t.closed ≡ false
    → Gave (with_more t (take l.place l.input) false) [] l.initial.lines l.lines l.program
