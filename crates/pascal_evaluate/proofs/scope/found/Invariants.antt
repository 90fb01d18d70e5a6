use Rattle.std.proofs.Common.{◌≡◌, drop}
use Rattle.pascal_mean.specs.Scope.{found}
use Rattle.pascal_evaluate.specs.SeenNames.{seen_items}
use Rattle.pascal_evaluate.proofs.scope.found.Given as goal

abbrev pub invariant-loop-item : goal.invariant-loop-item
invariant-loop-item l = found (seen_items (drop l.item-index l.items)) l.letters ≡ found (seen_items l.items) l.letters
