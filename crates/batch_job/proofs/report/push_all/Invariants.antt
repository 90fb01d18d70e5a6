use Rattle.std.proofs.Common.{◌≡◌, ◌++◌, take}
use Rattle.batch_job.proofs.report.push_all.Given as goal

abbrev pub invariant-loop-place : goal.invariant-loop-place
invariant-loop-place l = l.lines ≡ l.initial.lines ++ take l.place l.more
