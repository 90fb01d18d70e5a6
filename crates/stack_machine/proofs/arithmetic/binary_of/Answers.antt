use Rattle.std.proofs.Common.{◌∙◌, ap}
use Rattle.solo_base.specs.Arithmetic.{fit}
use Rattle.stack_machine.proofs.Numbers.{wide_product}
use Rattle.stack_machine.proofs.arithmetic.binary_of.Goals as goal

pub returns-in-Mul : goal.returns-in-Mul
returns-in-Mul c =
    let same = wide_product c.args.left c.args.right c.from-in-Mul.result c.from-in-Mul-2.result c.ranges.left c.ranges.right c.from-in-Mul.ensures c.from-in-Mul-2.ensures in
    rw c.in-Mul.is (c.fit-in-Mul.ensures ∙ ap fit same)
