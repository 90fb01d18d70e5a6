use Rattle.std.proofs.Common.{◌≡◌, ◌+◌, ◌*◌, ◌∷◌, ◌++◌, List, length}
use Rattle.pascal_tree.specs.SeenStatement.{seen_statements, seen_branches}
use Rattle.pascal_tree.specs.SpellStatement.{spelled_statements, spelled_branches}
use Rattle.pascal_tree.specs.Limits.{StatementsFit, BranchesFit}
use Rattle.pascal_read.specs.ParseWants.{Want, report}
use Rattle.pascal_read.specs.ParseWants as want
use Rattle.pascal_read.proofs.parse_statement.+statement.Given as goal

abbrev pub decreases-statement : goal.decreases-statement
decreases-statement l = 10 * l.levels

abbrev pub decreases-if_statement : goal.decreases-if_statement
decreases-if_statement l = 10 * l.levels + 3

abbrev pub decreases-while_statement : goal.decreases-while_statement
decreases-while_statement l = 10 * l.levels + 3

abbrev pub decreases-for_statement : goal.decreases-for_statement
decreases-for_statement l = 10 * l.levels + 3

abbrev pub decreases-more_statements : goal.decreases-more_statements
decreases-more_statements l = 10 * l.levels + 1

abbrev pub decreases-sequence : goal.decreases-sequence
decreases-sequence l = 10 * l.levels + 2

abbrev pub decreases-compound : goal.decreases-compound
decreases-compound l = 10 * l.levels + 3

abbrev pub decreases-repeat_statement : goal.decreases-repeat_statement
decreases-repeat_statement l = 10 * l.levels + 3

abbrev pub invariant-more_statements-loop-line : goal.invariant-more_statements-loop-line
invariant-more_statements-loop-line l =
    (l.initial.reader ≡ spelled_statements (seen_statements l.rest.items) ++ l.reader) × StatementsFit (seen_statements l.rest.items) l.levels
    × ((y : Want) (more : List Want) → report l.initial.reader (want.more_statements l.levels ∷ (y ∷ more)) ≡ report l.reader (want.more_statements l.levels ∷ (y ∷ more)))

abbrev pub decreases-more_statements-loop-line : goal.decreases-more_statements-loop-line
decreases-more_statements-loop-line l = length l.reader

abbrev pub decreases-otherwise : goal.decreases-otherwise
decreases-otherwise l = 10 * l.levels + 2

abbrev pub decreases-branch : goal.decreases-branch
decreases-branch l = 10 * l.levels + 1

abbrev pub decreases-more_branches : goal.decreases-more_branches
decreases-more_branches l = 10 * l.levels + 2

abbrev pub decreases-case_statement : goal.decreases-case_statement
decreases-case_statement l = 10 * l.levels + 3

abbrev pub invariant-more_branches-loop-line : goal.invariant-more_branches-loop-line
invariant-more_branches-loop-line l =
    (l.initial.reader ≡ spelled_branches (seen_branches l.rest.items) ++ l.reader) × BranchesFit (seen_branches l.rest.items) l.levels
    × ((y : Want) (more : List Want) → report l.initial.reader (want.more_branches l.levels ∷ (y ∷ more)) ≡ report l.reader (want.more_branches l.levels ∷ (y ∷ more)))

abbrev pub decreases-more_branches-loop-line : goal.decreases-more_branches-loop-line
decreases-more_branches-loop-line l = length l.reader
