-- Each constant's spelling, and that of labels, is read to its end.
use Rattle.std.proofs.Common.{◌≡◌, ℕ, List, [], ◌∷◌, ◌++◌, refl, ◌∙◌, append_assoc}
use Rattle.pascal_tree.specs.Word.{Spot}
use Rattle.pascal_tree.specs.Statement.{Labels}
use Rattle.pascal_tree.specs.SpellExpression.{symbol_at, number_at}
use Rattle.pascal_tree.specs.SpellConstant.{spelled_constant, spelled_more_labels, spelled_labels}
use Rattle.pascal_tree.specs.declared.token.Symbol.TheVariants as symbol
use Rattle.pascal_tree.specs.declared.constant.Constant.{Constant}
use Rattle.pascal_tree.specs.declared.constant.Constant.TheVariants as constants
use Rattle.pascal_read.specs.ParseWants.{Want, report, mark}
use Rattle.pascal_read.specs.ParseWants as want
use Rattle.pascal_read.proofs.ParseRows.{mark_goes}
use Rattle.pascal_read.proofs.ParseStatementRows.{label_goes, label_skip}
use Rattle.pascal_read.proofs.ParseDeclarationRows.{constant_name, constant_number, constant_character, constant_minus, number_goes}
use Rattle.pascal_read.proofs.ParseComplete.{at_wants}

pub read_constant : (x : Constant) (r : List Spot) (rest : List Want) → report (spelled_constant x ++ r) (want.constant ∷ rest) ≡ report r rest
read_constant (constants.Name x) r rest = constant_name x r rest
read_constant (constants.Number x) r rest = constant_number x r rest
read_constant (constants.Negative l x) r rest = constant_minus l (number_at x ∷ r) rest ∙ number_goes x r rest
read_constant (constants.Character x) r rest = constant_character x r rest

read_more_labels : (xs : List (ℕ × Constant)) (c : ℕ) (r : List Spot) (rest : List Want) →
    report (spelled_more_labels xs ++ (symbol_at symbol.Colon c ∷ r)) (want.more_labels ∷ (mark symbol.Colon ∷ rest)) ≡ report r rest
read_more_labels [] c r rest = label_skip (symbol_at symbol.Colon c ∷ r) (mark symbol.Colon) rest refl ∙ mark_goes symbol.Colon c r rest
read_more_labels (x ∷ xs) c r rest =
    let tail : List Spot = symbol_at symbol.Colon c ∷ r in
    let k : List Want = want.more_labels ∷ (mark symbol.Colon ∷ rest) in
    label_goes x.0 ((spelled_constant x.1 ++ spelled_more_labels xs) ++ tail) (mark symbol.Colon ∷ rest)
    ∙ at_wants (want.constant ∷ k) (append_assoc (spelled_constant x.1) (spelled_more_labels xs) tail)
    ∙ read_constant x.1 (spelled_more_labels xs ++ tail) k
    ∙ read_more_labels xs c r rest

-- labels and their colon
pub read_labels : (x : Labels) (c : ℕ) (r : List Spot) (rest : List Want) →
    report (spelled_labels x ++ (symbol_at symbol.Colon c ∷ r)) (want.constant ∷ (want.more_labels ∷ (mark symbol.Colon ∷ rest))) ≡ report r rest
read_labels x c r rest =
    let tail : List Spot = symbol_at symbol.Colon c ∷ r in
    let k : List Want = want.more_labels ∷ (mark symbol.Colon ∷ rest) in
    at_wants (want.constant ∷ k) (append_assoc (spelled_constant x.first) (spelled_more_labels x.rest) tail)
    ∙ read_constant x.first (spelled_more_labels x.rest ++ tail) k
    ∙ read_more_labels x.rest c r rest
