use Rattle.solo_procs.specs.Job.{JobStands}
use Rattle.solo_procs.proofs.JobSteps.{arg-report, arg-printed, arg-idle}
use Rattle.solo_procs.proofs.job_proc.JobProcProc.arg.Goals as goal

pub returns-in-TakesReport-clause-ready : goal.returns-in-TakesReport-clause-ready
returns-in-TakesReport-clause-ready g c = arg-report (g.C.Commands.awaits) c.args.self.now c.args.arg
    (λ to. JobStands g.C.Commands.awaits c.take_file.new.self to) c.in-TakesReport.is c.take_file.ensures.ready

pub returns-in-TakesPrinted-clause-ready : goal.returns-in-TakesPrinted-clause-ready
returns-in-TakesPrinted-clause-ready g c = arg-printed (g.C.Commands.awaits) c.args.self.now c.args.arg
    (λ to. JobStands g.C.Commands.awaits c.answer.new.self to) c.in-TakesPrinted.is c.answer.ensures.ready

pub returns-in_default-clause-ready : goal.returns-in_default-clause-ready
returns-in_default-clause-ready g c = arg-idle (g.C.Commands.awaits) c.args.self.now c.args.arg c.in_default.not-TakesReport c.in_default.not-TakesPrinted
