use Rattle.std.proofs.Common.{[], ◌∷◌, ◌++◌, sym, ap, ◌∙◌}
use Rattle.pascal_tree.specs.SpellExpression.{name_at, symbol_at}
use Rattle.pascal_tree.specs.SpellProgram.{spelled_more_names, spelled_kind}
use Rattle.pascal_tree.specs.declared.token.Symbol.TheVariants as symbol
use Rattle.pascal_read.proofs.ParseJoined.{then_part, around}
use Rattle.pascal_read.proofs.parse_declaration.group.Goals as goal

pub returns-clause-words : goal.returns-clause-words
returns-clause-words c =
    let names = c.in_ok-names.names in
    let kind = spelled_kind c.in_ok-kind.kind in
    let end = symbol_at symbol.Semicolon c.in_ok-semicolon.semicolon in
    ap (λ n. name_at n ∷ c.args.reader.now) (sym c.in_ok-names.ensures.words.0)
    ∙ ap (λ u. name_at names.first ∷ u)
    (around (symbol_at symbol.Colon c.in_ok-colon.colon) (spelled_more_names names.rest.items) (kind ++ end ∷ []) _ _ _ _
    c.in_ok-names.ensures.words.1 c.in_ok-colon.ensures.taken
    (then_part kind (end ∷ []) _ _ _ c.in_ok-kind.ensures.words c.in_ok-semicolon.ensures.taken))
