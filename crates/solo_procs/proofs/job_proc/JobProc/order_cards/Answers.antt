use Rattle.solo_procs.proofs.JobNeeds.{cards-ordered}
use Rattle.solo_procs.proofs.job_proc.JobProc.order_cards.Goals as goal

pub returns-clause-ready : goal.returns-clause-ready
returns-clause-ready g c = λ pages kept. rw c.new.ensures (cards-ordered g.C.Commands.awaits c.args.self.now pages kept)
