use Rattle.std.proofs.Common.{◌≡◌, ◌+◌, ◌<◌, ◌^◌, ◌++◌, drop, length}
use Rattle.pascal_tree.specs.SeenStatement.{seen_statements, seen_branches}
use Rattle.pascal_code.specs.Code.{nested_in_statements, nested_in_branches}
use Rattle.pascal_code.specs.Statements.{statements_code, branches_code}
use Rattle.pascal_compile.specs.Landed.{all_landed, AreBefore}
use Rattle.pascal_compile.specs.SeenSite.{seen_site}
use Rattle.pascal_compile.proofs.statements.+statement.Given as goal

abbrev pub invariant-statements-loop-later : goal.invariant-statements-loop-later
invariant-statements-loop-later l = record {
  code : l.code ++ statements_code (seen_site l.site) l.free (seen_statements (drop l.later-index l.rest)) (length l.code)
      ≡ l.fn.code ++ statements_code (seen_site l.site) l.free (seen_statements l.rest) (length l.fn.code);
  words : l.free + nested_in_statements (seen_statements (drop l.later-index l.rest)) < 2 ^ 16;
}

abbrev pub invariant-more_branches-loop-later : goal.invariant-more_branches-loop-later
invariant-more_branches-loop-later l = record {
  code : all_landed (l.code ++ branches_code (seen_site l.site) l.free (seen_branches (drop l.later-index l.rest)) (length l.code)) l.ends.items
      ≡ all_landed (l.fn.code ++ branches_code (seen_site l.site) l.free (seen_branches l.rest) (length l.fn.code)) l.fn.ends.items;
  words : l.free + nested_in_branches (seen_branches (drop l.later-index l.rest)) + 1 < 2 ^ 16;
  before : AreBefore (length l.code) l.ends.items;
}
