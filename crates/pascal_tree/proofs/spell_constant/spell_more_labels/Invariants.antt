use Rattle.std.proofs.Common.{◌≡◌, ◌++◌, drop}
use Rattle.pascal_tree.specs.SpellConstant.{spelled_more_labels}
use Rattle.pascal_tree.proofs.spell_constant.spell_more_labels.Given as goal

abbrev pub invariant-loop-line : goal.invariant-loop-line
invariant-loop-line l =
    l.out.items ++ spelled_more_labels (drop l.line-index l.labels) ≡ l.fn.out.items ++ spelled_more_labels l.labels
