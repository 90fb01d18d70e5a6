use Rattle.std.proofs.Common.{sym, arith}
use Rattle.disk_system.proofs.Needed.{parts_next, parts_none}
use Rattle.disk_system.proofs.lengths.parts_for.Goals as goal

pub loop-place-init : goal.loop-place-init
loop-place-init c = record { sum = sym (parts_none c.args.lengths.now); few = omega arith }

pub loop-place-preserved : goal.loop-place-preserved
loop-place-preserved c =
    let one = c.part_count-parts.ensures in
    let few = c.loop-place.invariant.few in
    let short = c.requires.short c.loop-place.place in
    record {
      sum = omega (arith, c.loop-place.invariant.sum, one, parts_next c.args.lengths.now c.loop-place.place);
      few = omega (arith, one, few, short);
    }
