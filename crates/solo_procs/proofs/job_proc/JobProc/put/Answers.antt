use Rattle.solo_procs.proofs.JobNeeds.{put-ends, put-goes_on, same-commands}
use Rattle.solo_procs.proofs.job_proc.JobProc.put.Goals as goal

pub returns-then-self-clause-ready : goal.returns-then-self-clause-ready
returns-then-self-clause-ready g c = λ page behind pages kept. put-ends g.C.Commands.awaits c.args.self.now page behind pages c.if-self.true kept

pub returns-clause-ready : goal.returns-clause-ready
returns-clause-ready g c = λ page behind pages kept. rw c.toil.ensures (put-goes_on g.C.Commands.awaits c.args.self.now page behind pages c.if-self.false kept)

pub returns-clause-kept : goal.returns-clause-kept
returns-clause-kept g c = same-commands _ _ c.toil.ensures
