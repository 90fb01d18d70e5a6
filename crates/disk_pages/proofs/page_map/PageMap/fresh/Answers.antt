use Rattle.std.proofs.Common.{arith}
use Rattle.disk_pages.proofs.BitMaps.{none_marked, zeros_end, marks_next, kept_first, first_pages}
use Rattle.disk_pages.proofs.page_map.PageMap.fresh.Goals as goal

pub loop-n-init : goal.loop-n-init
loop-n-init c = record {
  first = none_marked _ _ c.zeros-low.ensures c.zeros-high.ensures;
  zeros = zeros_end _ c.zeros-high.ensures;
}

pub loop-n-preserved : goal.loop-n-preserved
loop-n-preserved c = record {
  first = marks_next c.loop-n.n c.loop-n.low c.loop-n.high c.mark.new.low c.mark.new.high c.mark.ensures c.loop-n.invariant.first;
  zeros = c.mark.ensures.rest c.loop-n.invariant.zeros;
}

pub invariant_of-result : goal.invariant_of-result
invariant_of-result c = kept_first c.loop-n.low c.loop-n.high c.loop-n.n (omega arith) c.loop-n.invariant.first c.loop-n.invariant.zeros

pub returns : goal.returns
returns c = first_pages c.loop-n.low c.loop-n.high c.loop-n.n (omega arith) c.loop-n.invariant.first
