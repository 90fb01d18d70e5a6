use Rattle.solo_procs.specs.Job.{JobStands}
use Rattle.solo_procs.proofs.JobSteps.{card-listens, card-accepts, card-idle}
use Rattle.solo_procs.proofs.job_proc.JobProcProc.card.Goals as goal

pub returns-in-Listens-clause-ready : goal.returns-in-Listens-clause-ready
returns-in-Listens-clause-ready g c = card-listens (g.C.Commands.awaits) c.args.self.now c.args.card
    (λ to. JobStands g.C.Commands.awaits c.listen.new.self to) c.in-Listens.is c.listen.ensures.ready

pub returns-in-Accepts-clause-ready : goal.returns-in-Accepts-clause-ready
returns-in-Accepts-clause-ready g c = card-accepts (g.C.Commands.awaits) c.args.self.now c.args.card
    (λ to. JobStands g.C.Commands.awaits c.accept.new.self to) c.in-Accepts.is c.accept.ensures.ready

pub returns-in_default-clause-ready : goal.returns-in_default-clause-ready
returns-in_default-clause-ready g c = card-idle (g.C.Commands.awaits) c.args.self.now c.args.card c.in_default.not-Listens c.in_default.not-Accepts
