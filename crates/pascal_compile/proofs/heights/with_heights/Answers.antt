use Rattle.std.proofs.Common.{subst}
use Rattle.std.proofs.lemmas.List.{drop_more}
use Rattle.stack_code.specs.CodeLists.{no_routine}
use Rattle.pascal_compile.specs.WithHeights.{called_in, HaveHeights}
use Rattle.pascal_compile.proofs.heights.with_heights.Goals as goal

pub with_height-requires : goal.with_height-requires
with_height-requires c =
    let have = HaveHeights (called_in c.args.routines.now) c.args.instrs.now in
    rw c.end_of-end.ensures
    (subst have (drop_more c.args.routines.now c.loop-place.place no_routine c.loop-place-test.true) c.loop-place.invariant.have).0
