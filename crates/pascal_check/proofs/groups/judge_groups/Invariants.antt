use Rattle.std.proofs.Common.{◌≡◌, ◌≤◌, drop, map}
use Rattle.pascal_tree.specs.SeenProgram.{seen_group}
use Rattle.pascal_tree.specs.DeclarationRules.{judged_groups, behind_groups, frame_words, first_broken}
use Rattle.pascal_check.proofs.groups.judge_groups.Given as goal

abbrev pub invariant-loop-group : goal.invariant-loop-group
invariant-loop-group l = record {
  used : l.used ≡ frame_words l.scope;
  most : l.used ≤ 4096;
  judged : first_broken (judged_groups l.scope (map seen_group (drop l.group-index l.groups)))
      ≡ first_broken (judged_groups l.fn.scope (map seen_group l.groups));
  behind : behind_groups l.scope (map seen_group (drop l.group-index l.groups)) ≡ behind_groups l.fn.scope (map seen_group l.groups);
}
