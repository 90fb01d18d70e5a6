use Rattle.std.proofs.Common.{◌∷◌, ap, ◌∙◌, rules}
use Rattle.pascal_tree.specs.declared.token.Symbol.TheVariants as symbol
use Rattle.pascal_read.specs.ParseWants.{mark, report}
use Rattle.pascal_read.specs.ParseWants as want
use Rattle.pascal_read.proofs.ParseDeclarationRows.{vars_goes, group_is}
use Rattle.pascal_read.proofs.parse_declaration.vars.Goals as goal

pub returns-in_err-rest-clause-fault : goal.returns-in_err-rest-clause-fault
returns-in_err-rest-clause-fault c =
    let inside = c.take_reserved.new.self in
    λ line e y rest. ap (λ ts. report ts (want.vars ∷ y ∷ rest)) c.in-Some.ensures.taken ∙ vars_goes c.in-Some.line inside (y ∷ rest) ∙ group_is inside (want.more_groups ∷ y ∷ rest)
    ∙ c.in_ok-name.ensures.goes want.more_names (mark symbol.Colon ∷ want.kind ∷ mark symbol.Semicolon ∷ want.more_groups ∷ y ∷ rest)
    ∙ c.in_ok-first.ensures.goes want.more_groups (y ∷ rest) ∙ c.in_err-rest.ensures.fault line (search rules) y rest
