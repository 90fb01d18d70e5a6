use Rattle.std.proofs.Common.{◌≡◌, ◌++◌, drop}
use Rattle.pascal_tree.specs.SeenStatement.{seen_statements, seen_branches}
use Rattle.pascal_tree.specs.SpellStatement.{spelled_statements, spelled_branches}
use Rattle.pascal_tree.proofs.spell_statement.+spell_statement.Given as goal

abbrev pub invariant-spell_branches-loop-line : goal.invariant-spell_branches-loop-line
invariant-spell_branches-loop-line l =
    l.out.items ++ spelled_branches (seen_branches (drop l.line-index l.branches)) ≡ l.fn.out.items ++ spelled_branches (seen_branches l.branches)

abbrev pub invariant-spell_statements-loop-line : goal.invariant-spell_statements-loop-line
invariant-spell_statements-loop-line l =
    l.out.items ++ spelled_statements (seen_statements (drop l.line-index l.statements)) ≡ l.fn.out.items ++ spelled_statements (seen_statements l.statements)
