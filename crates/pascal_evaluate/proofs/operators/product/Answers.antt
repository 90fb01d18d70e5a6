use Rattle.std.proofs.Common.{◌∙◌, ap}
use Rattle.solo_base.specs.Arithmetic.{fit}
use Rattle.pascal_evaluate.proofs.Numbers.{wide_product}
use Rattle.pascal_evaluate.proofs.operators.product.Goals as goal

pub returns : goal.returns
returns c =
    let same = wide_product c.args.left c.args.right c.from.result c.from-2.result c.ranges.left c.ranges.right c.from.ensures c.from-2.ensures in
    c.fit.ensures ∙ ap fit same
