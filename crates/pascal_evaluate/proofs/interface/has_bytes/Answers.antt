use Rattle.std.proofs.Common.{◌<◌, sym, ◌∙◌, arith}
use Rattle.pascal_mean.specs.Variables.{size_of}
use Rattle.pascal_evaluate.specs.SeenStore.{seen_array, situation}
use Rattle.pascal_evaluate.proofs.Answered.{no_byte_at, byte_at}
use Rattle.pascal_evaluate.proofs.interface.has_bytes.Goals as goal

pub returns-then-not-is_byte_at : goal.returns-then-not-is_byte_at
returns-then-not-is_byte_at c =
    let a = seen_array c.args.array.now in
    let within : c.loop-place.place < size_of a.bounds = omega (arith, c.size_of-place-end.ensures.size) in
    sym (no_byte_at a (a.bounds).low c.loop-place.place (size_of a.bounds) (situation c.args.run.now) within (sym c.if-not-is_byte_at.ensures))
    ∙ c.loop-place.invariant

pub loop-place-preserved : goal.loop-place-preserved
loop-place-preserved c =
    let a = seen_array c.args.array.now in
    let within : c.loop-place.place < size_of a.bounds = omega (arith, c.size_of-place-end.ensures.size) in
    byte_at a (a.bounds).low c.loop-place.place (size_of a.bounds) (situation c.args.run.now) within (sym c.if-not-is_byte_at.ensures) ∙ c.loop-place.invariant
