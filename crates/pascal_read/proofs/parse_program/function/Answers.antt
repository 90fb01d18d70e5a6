use Rattle.std.proofs.Common.{[], ◌∷◌, ◌++◌, ap, ◌∙◌, List, option_map, rules}
use Rattle.pascal_tree.specs.Word.{Spot}
use Rattle.pascal_tree.specs.SeenProgram.{seen_block, seen_parameters}
use Rattle.pascal_tree.specs.SpellExpression.{name_at, symbol_at, reserved_at}
use Rattle.pascal_tree.specs.SpellProgram.{spelled_block, spelled_parameters}
use Rattle.pascal_tree.specs.declared.token.Reserved.TheVariants as reserved
use Rattle.pascal_tree.specs.declared.token.Symbol.TheVariants as symbol
use Rattle.pascal_read.specs.ParseWants.{Want, mark}
use Rattle.pascal_read.specs.ParseWants as want
use Rattle.pascal_read.proofs.ParseJoined.{then_part}
use Rattle.pascal_read.proofs.parse_program.function.Goals as goal

pub returns-in_err-end-clause-fault : goal.returns-in_err-end-clause-fault
returns-in_err-end-clause-fault c =
    λ line e y rest.
    let semicolon : Want = mark symbol.Semicolon in
    let behind : List Want = want.vars ∷ want.body ∷ semicolon ∷ y ∷ rest in
    let answer : List Want = want.name ∷ semicolon ∷ want.consts ∷ behind in
    c.in_ok-name.ensures.goes want.parameters (mark symbol.Colon ∷ answer) ∙ c.in_ok-parameters.ensures.goes (mark symbol.Colon) answer ∙ c.in_ok-colon.ensures.goes want.name (semicolon ∷ want.consts ∷ behind)
    ∙ c.in_ok-answer.ensures.goes semicolon (want.consts ∷ behind) ∙ c.in_ok-semicolon.ensures.goes want.consts behind
    ∙ c.in_ok-block.ensures.goes semicolon (y ∷ rest) ∙ c.in_err-end.ensures.fault line (search rules) y rest

pub returns-clause-words : goal.returns-clause-words
returns-clause-words c =
    let parameters : List Spot = spelled_parameters (option_map seen_parameters c.in_ok-parameters.parameters) in
    let colon : Spot = symbol_at symbol.Colon c.in_ok-colon.colon in
    let answer : Spot = name_at c.in_ok-answer.answer in
    let semicolon : Spot = symbol_at symbol.Semicolon c.in_ok-semicolon.semicolon in
    let block : List Spot = spelled_block (seen_block c.in_ok-block.block) in
    let end : Spot = symbol_at symbol.Semicolon c.in_ok-end.end in
    ap (λ u. reserved_at reserved.Function c.args.line ∷ u)
    (c.in_ok-name.ensures.taken ∙ ap (λ u. name_at c.in_ok-name.name ∷ u)
    (then_part parameters (colon ∷ answer ∷ semicolon ∷ (block ++ end ∷ [])) _ _ _ c.in_ok-parameters.ensures.words
    (c.in_ok-colon.ensures.taken ∙ ap (λ u. colon ∷ u) (c.in_ok-answer.ensures.taken ∙ ap (λ u. answer ∷ u)
    (c.in_ok-semicolon.ensures.taken ∙ ap (λ u. semicolon ∷ u) (then_part block (end ∷ []) _ _ _ c.in_ok-block.ensures.words c.in_ok-end.ensures.taken))))))
