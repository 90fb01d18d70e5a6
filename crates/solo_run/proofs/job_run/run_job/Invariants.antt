use Rattle.solo_procs.specs.Job.{job_at, JobStands}
use Rattle.solo_run.specs.Job.{job_world}
use Rattle.solo_run.proofs.Going.{Going}
use Rattle.solo_run.proofs.JobGoing.{JobGoes}
use Rattle.solo_run.proofs.job_run.run_job.Given as goal

abbrev pub invariant-loop : goal.invariant-loop
invariant-loop g l =
    Going 2 job_at (JobStands g.C.Commands.awaits) l.machine
    (JobGoes (job_world g.Y.Source.left g.Y.Source.taken g.Y.Source.faults
    g.T.Sink.given g.T.Sink.faults g.C.Commands.sound g.C.Commands.faults g.C.Commands.opens g.C.Commands.follows g.C.Commands.passes)
    g.C.Commands.awaits g.C.Commands.plans g.C.Commands.follows
    l.machine.process.commands l.side.files l.initial.side l.side)
