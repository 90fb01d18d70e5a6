use Rattle.std.proofs.Common.{◌∙◌, ap, arith}
use Rattle.solo_base.specs.Arithmetic.{fit}
use Rattle.pascal_evaluate.proofs.Numbers.{wide_quotient}
use Rattle.pascal_evaluate.proofs.operators.quotient.Goals as goal

pub returns : goal.returns
returns c =
    let same = wide_quotient c.args.left c.args.right c.from.result c.from-2.result c.ranges.left c.ranges.right c.from.ensures c.from-2.ensures in
    let whole = c.fit.ensures ∙ ap fit same in
    grind (arith, whole)
