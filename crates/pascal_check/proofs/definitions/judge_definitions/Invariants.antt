use Rattle.std.proofs.Common.{◌≡◌, drop}
use Rattle.pascal_tree.specs.DeclarationRules.{judged_definitions, behind_definitions, first_broken}
use Rattle.pascal_check.proofs.definitions.judge_definitions.Given as goal

abbrev pub invariant-loop-definition : goal.invariant-loop-definition
invariant-loop-definition l = record {
  judged : first_broken (judged_definitions l.scope (drop l.definition-index l.definitions)) ≡ first_broken (judged_definitions l.fn.scope l.definitions);
  behind : behind_definitions l.scope (drop l.definition-index l.definitions) ≡ behind_definitions l.fn.scope l.definitions;
}
