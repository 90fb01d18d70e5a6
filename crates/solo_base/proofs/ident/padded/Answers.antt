use Rattle.solo_base.proofs.Names.{one_capital_more}
use Rattle.solo_base.proofs.ident.padded.Goals as goal

pub loop-place-preserved : goal.loop-place-preserved
loop-place-preserved c =
    rw c.loop-place.invariant (one_capital_more c.args.bytes.now c.loop-place.place c.capital.result c.loop-place-test.true c.requires c.capital.ensures)
