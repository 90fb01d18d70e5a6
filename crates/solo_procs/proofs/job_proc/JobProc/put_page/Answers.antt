use Rattle.solo_procs.proofs.JobNeeds.{puts-first, puts-next}
use Rattle.solo_procs.proofs.job_proc.JobProc.put_page.Goals as goal

pub returns-then-self-clause-ready : goal.returns-then-self-clause-ready
returns-then-self-clause-ready g c = λ behind pages putting. puts-next g.C.Commands.awaits c.args.self.now c.args.page behind pages c.if-self.true putting

pub returns-clause-ready : goal.returns-clause-ready
returns-clause-ready g c = λ behind pages putting. puts-first g.C.Commands.awaits c.args.self.now c.args.page behind pages c.if-self.false putting
