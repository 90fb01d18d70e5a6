use Rattle.std.proofs.Common.{refl}
use Rattle.solo_procs.proofs.JobNeeds.{answers-next}
use Rattle.solo_procs.proofs.job_proc.JobProc.answer.Goals as goal

pub returns-then-self-len-clause-ready : goal.returns-then-self-len-clause-ready
returns-then-self-len-clause-ready g c = λ lines answering.
    answers-next g.C.Commands.awaits c.args.self.now c.get-line.result _ c.get-line.ensures refl lines answering
