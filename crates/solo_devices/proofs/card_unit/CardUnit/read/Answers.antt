use Rattle.solo_devices.proofs.Reading.{stands_more}
use Rattle.solo_devices.proofs.card_unit.CardUnit.read.Goals as goal

pub returns-clause-stands : goal.returns-clause-stands
returns-clause-stands g c =
    rw (← c.self.view_is)
    (λ text given stood.
    stands_more (g.S.Source.left c.self.inside.reader.source) (g.S.Source.left c.next-answer.new.self.source) c.self.inside.reader.pending c.next-answer.new.self.pending
    text given c.next-answer.result stood c.next-answer.ensures.items)
