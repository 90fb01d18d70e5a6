use Rattle.std.proofs.Common.{◌∷◌, ◌∙◌, rules}
use Rattle.pascal_tree.specs.declared.token.Symbol.TheVariants as symbol
use Rattle.pascal_read.specs.ParseWants.{mark}
use Rattle.pascal_read.specs.ParseWants as want
use Rattle.pascal_read.proofs.parse_declaration.parameter_group.Goals as goal

pub returns-in_err-kind-clause-fault : goal.returns-in_err-kind-clause-fault
returns-in_err-kind-clause-fault c =
    λ line e y rest. c.take_var-var.ensures.goes (y ∷ rest)
    ∙ c.in_ok-name.ensures.goes want.more_names (mark symbol.Colon ∷ want.name ∷ y ∷ rest)
    ∙ c.in_ok-names.ensures.goes (mark symbol.Colon) (want.name ∷ y ∷ rest) ∙ c.in_ok-colon.ensures.goes want.name (y ∷ rest) ∙ c.in_err-kind.ensures.fault line (search rules) y rest
