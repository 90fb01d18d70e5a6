use Rattle.std.proofs.Common.{◌≡◌, drop, map}
use Rattle.pascal_mean.specs.Declarations.{declared_parameters}
use Rattle.pascal_evaluate.specs.SeenNames.{seen_parameter, seen_items}
use Rattle.pascal_evaluate.proofs.declare.declare_parameters.Given as goal

abbrev pub invariant-loop-parameter : goal.invariant-loop-parameter
invariant-loop-parameter l =
    declared_parameters (map seen_parameter (drop l.parameter-index l.parameters)) (seen_items l.items.items)
    ≡ declared_parameters (map seen_parameter l.parameters) (seen_items l.fn.items.items)
