use Rattle.std.proofs.Common.{◌≡◌, Some, drop}
use Rattle.pascal_tree.specs.SeenStatement.{seen_statements, seen_branches}
use Rattle.pascal_tree.specs.StatementRules.{judged_statements, judged_branches}
use Rattle.pascal_tree.specs.DeclarationRules.{first_broken}
use Rattle.pascal_check.proofs.statements.+judge_statement.Given as goal

abbrev pub invariant-judge_branches-loop-branch : goal.invariant-judge_branches-loop-branch
invariant-judge_branches-loop-branch l =
    first_broken (judged_branches l.scope (Some l.selector) l.earlier (seen_branches (drop l.branch-index l.branches)))
    ≡ first_broken (judged_branches l.scope (Some l.selector) l.fn.earlier (seen_branches l.branches))

abbrev pub invariant-judge_statements-loop-statement : goal.invariant-judge_statements-loop-statement
invariant-judge_statements-loop-statement l =
    first_broken (judged_statements l.scope (seen_statements (drop l.statement-index l.statements))) ≡ first_broken
    (judged_statements l.scope (seen_statements l.statements))
