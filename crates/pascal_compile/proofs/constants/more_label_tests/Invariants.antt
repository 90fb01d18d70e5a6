use Rattle.std.proofs.Common.{◌≡◌, ◌++◌, drop}
use Rattle.pascal_code.specs.Statements.{more_label_tests}
use Rattle.pascal_compile.specs.SeenSite.{seen_site}
use Rattle.pascal_compile.proofs.constants.more_label_tests.Given as goal

abbrev pub invariant-loop-label : goal.invariant-loop-label
invariant-loop-label l =
    l.code ++ more_label_tests (seen_site l.site) l.selector l.found (drop l.label-index l.labels)
    ≡ l.fn.code ++ more_label_tests (seen_site l.site) l.selector l.found l.labels
