use Rattle.batch_procs.specs.Keeping.{job_keeps}
use Rattle.batch_procs.specs.Table.{job}
use Rattle.batch_sides.specs.Files.{loading}
use Rattle.batch_sides.specs.Job.{JobRan}
use Rattle.batch_sides.proofs.Going.{Going}
use Rattle.batch_sides.proofs.job_side.run_jobs.Given as goal

abbrev pub invariant-loop : goal.invariant-loop
invariant-loop g l =
    Going g.J.HasJobs.are_jobs (job g.J.HasJobs.jobs) (job_keeps g.J.HasJobs.jobs g.J.JobWork.keeps) l.machine
    (JobRan (loading g.F.Loader.found g.F.Loader.pages g.F.Loader.faults g.F.Loader.sound) g.A.Area.size g.B.Area.size l.initial.at.side l.at.side l.at.pass)
