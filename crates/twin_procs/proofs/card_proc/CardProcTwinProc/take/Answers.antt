use Rattle.twin_procs.proofs.EndSteps.{card-takes, no-card}
use Rattle.twin_procs.proofs.card_proc.CardProcTwinProc.take.Goals as goal

pub returns-in-Card-clause-ok : goal.returns-in-Card-clause-ok
returns-in-Card-clause-ok g c =
    card-takes _ c.args.self.now.place c.read.new.self.place c.args.reply c.in-Card.card c.read.result c.in-Card.is c.read.ensures.cause c.read.ensures.place

pub returns-in_default-clause-ok : goal.returns-in_default-clause-ok
returns-in_default-clause-ok g c = λ at kept handed. absurd (no-card c.args.reply c.in_default.not-Card at handed)
