use Rattle.std.proofs.Common.{false, sym, ap}
use Rattle.network_law.specs.Stepping.{stepped_so}
use Rattle.solo_net.proofs.Calling.{so-not}
use Rattle.solo_net.proofs.buffers.Buffers.goes_at.Goals as goal

pub returns-then-ask : goal.returns-then-ask
returns-then-ask c = ap (stepped_so false false) (sym (c.ask.ensures.0 c.if-ask.true))

pub returns-else-ask : goal.returns-else-ask
returns-else-ask c = ap (stepped_so false false) (sym (so-not _ _ c.ask.ensures c.if-ask.false))
