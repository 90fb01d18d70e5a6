use Rattle.std.proofs.Common.{◌≡◌, drop, map}
use Rattle.pascal_tree.specs.SeenProgram.{seen_group}
use Rattle.pascal_mean.specs.Scope.{scope_of}
use Rattle.pascal_mean.specs.Declarations.{declared_groups}
use Rattle.pascal_evaluate.specs.SeenNames.{seen_owner, seen_items}
use Rattle.pascal_evaluate.proofs.declare.declare_groups.Given as goal

abbrev pub invariant-loop-group : goal.invariant-loop-group
invariant-loop-group l =
    declared_groups (seen_owner l.owner) (λ own. scope_of own (seen_items l.known)) (map seen_group (drop l.group-index l.groups)) (seen_items l.items.items)
    ≡ declared_groups (seen_owner l.owner) (λ own. scope_of own (seen_items l.known)) (map seen_group l.groups) (seen_items l.fn.items.items)
