use Rattle.std.proofs.Common.{◌≡◌, ◌≤◌, ◌++◌, drop, map}
use Rattle.pascal_tree.specs.SeenProgram.{seen_parameter_group}
use Rattle.pascal_tree.specs.DeclarationRules.{judged_parameter_groups, behind_parameter_groups, parameters_wanted, frame_words, first_broken}
use Rattle.pascal_check.proofs.parameters.judge_more_parameters.Given as goal

abbrev pub invariant-loop-group : goal.invariant-loop-group
invariant-loop-group l = record {
  used : l.total ≡ frame_words l.scope;
  most : l.total ≤ 16;
  judged : first_broken (judged_parameter_groups l.scope (map (λ g. seen_parameter_group g.1) (drop l.group-index l.groups)))
      ≡ first_broken (judged_parameter_groups l.fn.scope (map (λ g. seen_parameter_group g.1) l.groups));
  behind : behind_parameter_groups l.scope (map (λ g. seen_parameter_group g.1) (drop l.group-index l.groups))
      ≡ behind_parameter_groups l.fn.scope (map (λ g. seen_parameter_group g.1) l.groups);
  wanted : l.wanted ++ parameters_wanted l.scope (map (λ g. seen_parameter_group g.1) (drop l.group-index l.groups))
      ≡ l.fn.wanted ++ parameters_wanted l.fn.scope (map (λ g. seen_parameter_group g.1) l.groups);
}
