use Rattle.std.proofs.Common.{◌≡◌, drop}
use Rattle.pascal_mean.specs.Scope.{scope_of}
use Rattle.pascal_mean.specs.Declarations.{declared_definitions}
use Rattle.pascal_evaluate.specs.SeenNames.{seen_items}
use Rattle.pascal_evaluate.proofs.declare.declare_definitions.Given as goal

abbrev pub invariant-loop-definition : goal.invariant-loop-definition
invariant-loop-definition l =
    declared_definitions (λ own. scope_of own (seen_items l.known)) (drop l.definition-index l.definitions) (seen_items l.items.items)
    ≡ declared_definitions (λ own. scope_of own (seen_items l.known)) l.definitions (seen_items l.fn.items.items)
