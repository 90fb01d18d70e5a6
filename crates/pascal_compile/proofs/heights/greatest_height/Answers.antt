use Rattle.std.proofs.Common.{◌+◌, get_or, drop, arith}
use Rattle.stack_code.specs.declared.table.Op.TheVariants as op
use Rattle.stack_code.specs.declared.instr.Instr.{Instr}
use Rattle.pascal_code.specs.Code.{greatest_height}
use Rattle.pascal_compile.specs.WithHeights.{called_in}
use Rattle.pascal_compile.proofs.HeightsAlong.{behind_place, next_round}
use Rattle.pascal_compile.proofs.heights.greatest_height.Goals as goal

abbrev nothing : Instr
nothing = record { op = op.Push; a = 0; b = 0 }

pub height_behind-height-requires : goal.height_behind-height-requires
height_behind-height-requires c =
    let d = called_in c.args.routines.now in
    let behind = behind_place d c.args.instrs.now c.loop-instr.instr-index nothing c.loop-instr.height c.loop-instr.greatest
    (greatest_height d 0 c.args.instrs.now) c.loop-instr-test.true c.loop-instr.invariant.within c.loop-instr.invariant.greatest in
    omega (arith, behind.low, c.requires)

pub loop-instr-preserved : goal.loop-instr-preserved
loop-instr-preserved c =
    let d = called_in c.args.routines.now in
    let behind = behind_place d c.args.instrs.now c.loop-instr.instr-index nothing c.loop-instr.height c.loop-instr.greatest
    (greatest_height d 0 c.args.instrs.now) c.loop-instr-test.true c.loop-instr.invariant.within c.loop-instr.invariant.greatest in
    let round = next_round d (get_or c.args.instrs.now c.loop-instr.instr-index nothing) (drop (c.loop-instr.instr-index + 1) c.args.instrs.now)
    c.loop-instr.height c.loop-instr.greatest (greatest_height d 0 c.args.instrs.now) c.height_behind-height.result c.max-greatest.result
    behind c.height_behind-height.ensures c.max-greatest.ensures in
    record { greatest = round.greatest_is; within = round.within }
