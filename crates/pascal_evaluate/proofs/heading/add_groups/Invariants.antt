use Rattle.std.proofs.Common.{◌≡◌, ◌++◌, [], drop, map}
use Rattle.pascal_tree.specs.SeenProgram.{seen_parameter_group}
use Rattle.pascal_mean.specs.Declarations.{declared_parameters, parameters_after}
use Rattle.pascal_evaluate.specs.SeenNames.{seen_parameter, seen_items}
use Rattle.pascal_evaluate.proofs.heading.add_groups.Given as goal

abbrev pub invariant-loop-place : goal.invariant-loop-place
invariant-loop-place l = record {
  list : map seen_parameter l.list.items
      ++ parameters_after (seen_items l.own.items) (seen_items l.known) (map (λ g. (g.0, seen_parameter_group g.1)) (drop l.place l.groups))
      ≡ map seen_parameter l.fn.list.items
      ++ parameters_after (seen_items l.fn.own.items) (seen_items l.known) (map (λ g. (g.0, seen_parameter_group g.1)) l.groups);
  own : seen_items l.own.items ≡ declared_parameters (map seen_parameter l.list.items) [];
}
