use Rattle.twin_procs.proofs.InputSteps.{input-takes, no-item}
use Rattle.twin_procs.proofs.input_proc.InputProcTwinProc.take.Goals as goal

pub returns-in-Feed-clause-ok : goal.returns-in-Feed-clause-ok
returns-in-Feed-clause-ok g c = input-takes _ c.args.self.now c.deal.new.self c.args.reply c.in-Feed.feed c.in-Feed.is c.deal.ensures

pub returns-in_default-clause-ok : goal.returns-in_default-clause-ok
returns-in_default-clause-ok g c = λ at kept handed. absurd (no-item c.args.reply c.in_default.not-Feed at handed)
