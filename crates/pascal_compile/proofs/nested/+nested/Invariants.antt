use Rattle.std.proofs.Common.{◌≡◌, drop}
use Rattle.std.specs.Prelude.{max, min}
use Rattle.pascal_tree.specs.SeenStatement.{seen_statements, seen_branches}
use Rattle.pascal_code.specs.Code.{nested_in_statements, nested_in_branches}
use Rattle.pascal_compile.proofs.nested.+nested.Given as goal

abbrev pub invariant-nested_in_statements-loop-later : goal.invariant-nested_in_statements-loop-later
invariant-nested_in_statements-loop-later l =
    max l.most (min (nested_in_statements (seen_statements (drop l.later-index l.rest))) 65535) ≡ min (nested_in_statements (seen_statements l.rest)) 65535

abbrev pub invariant-nested_in_branches-loop-later : goal.invariant-nested_in_branches-loop-later
invariant-nested_in_branches-loop-later l =
    max l.most (min (nested_in_branches (seen_branches (drop l.later-index l.rest))) 65535) ≡ min (nested_in_branches (seen_branches l.rest)) 65535
