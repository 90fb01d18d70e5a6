use Rattle.std.proofs.Common.{arith}
use Rattle.solo_devices.proofs.Reading.{refill_done}
use Rattle.solo_devices.proofs.reader.Reader.refill.Goals as goal

pub returns-in-Bytes-clause-refills : goal.returns-in-Bytes-clause-refills
returns-in-Bytes-clause-refills g c =
    refill_done g.S.Source.left g.S.Source.taken g.S.Source.faults c.args.self.now c.take-took.new.self c.in-Bytes.count c.take-took.new.piece
    c.with_more-self.result c.kept.result.now c.requires.reader c.requires.within c.requires.going
    c.in-Bytes.ensures.bytes c.in-Bytes.ensures.fits c.take-took.auto.piece c.in-Bytes.ensures.taken c.in-Bytes.ensures.cause
    (rw c.bytes.ensures at c.kept.ensures.same) (rw c.bytes.ensures at c.kept.ensures.part) c.with_more-self.ensures

pub returns-in-Bytes-clause-most : goal.returns-in-Bytes-clause-most
returns-in-Bytes-clause-most g c = omega (arith, c.in-Bytes.ensures.taken, c.in-Bytes.ensures.fits, c.take-took.auto.piece)
