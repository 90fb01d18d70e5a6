use Rattle.std.proofs.Common.{◌≡◌, rules, w16, to_z, of_z}
use Rattle.pascal_code.specs.Senses.{constant_value}
use Rattle.pascal_compile.specs.Seen.{seen_scope}
use Rattle.pascal_compile.proofs.Frames.{array_held}
use Rattle.pascal_compile.proofs.declarations.held_by.Goals as goal

pub returns-in-Array : goal.returns-in-Array
returns-in-Array c = λ owner scope are.
    let k = c.in-Array in
    let names = seen_scope c.args.own.now c.args.program.now in
    let v = to_z w16 (of_z w16 c.number.result) in
    let w = to_z w16 (of_z w16 c.number-in-Array.result) in
    let one : v ≡ constant_value names k.low = search rules in
    let two : w ≡ constant_value names k.high = search rules in
    rw k.is (array_held names k.low k.high v w one two owner scope are k.line k.opening k.up_to k.closing k.of k.element)
