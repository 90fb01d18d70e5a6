use Rattle.std.proofs.Common.{◌≡◌, ◌++◌, map, drop}
use Rattle.pascal_tree.specs.SeenExpression.{seen_exprs}
use Rattle.pascal_code.specs.Calls.{given_exprs}
use Rattle.pascal_compile.specs.Seen.{seen_sense}
use Rattle.pascal_compile.specs.SeenSite.{seen_site}
use Rattle.pascal_compile.proofs.calls.add_given.Given as goal

abbrev pub invariant-loop-argument : goal.invariant-loop-argument
invariant-loop-argument l =
    map seen_sense l.given.items ++ given_exprs (seen_site l.site) (seen_exprs (drop l.argument-index l.rest))
    ≡ map seen_sense l.fn.given.items ++ given_exprs (seen_site l.site) (seen_exprs l.rest)
