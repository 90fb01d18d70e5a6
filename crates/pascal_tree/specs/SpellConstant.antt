-- The words of a constant, and of the labels of a branch.
use Rattle.std.specs.Prelude.{ℕ, List, [], ◌∷◌, ◌++◌}
use Rattle.pascal_tree.specs.Word.{Spot}
use Rattle.pascal_tree.specs.Statement.{Labels}
use Rattle.pascal_tree.specs.SpellExpression.{symbol_at, name_at, number_at, character_at}
use Rattle.pascal_tree.specs.declared.token.Symbol.TheVariants as symbol
use Rattle.pascal_tree.specs.declared.constant.Constant.{Constant}
use Rattle.pascal_tree.specs.declared.constant.Constant.TheVariants as constant

-- constant = name | number | "-" number | character
abbrev pub spelled_constant : Constant → List Spot
spelled_constant (constant.Name n) = name_at n ∷ []
spelled_constant (constant.Number n) = number_at n ∷ []
spelled_constant (constant.Negative l n) = symbol_at symbol.Minus l ∷ (number_at n ∷ [])
spelled_constant (constant.Character c) = character_at c ∷ []

-- { "," constant }
abbrev pub spelled_more_labels : List (ℕ × Constant) → List Spot
spelled_more_labels [] = []
spelled_more_labels (l ∷ more) = symbol_at symbol.Comma l.0 ∷ (spelled_constant l.1 ++ spelled_more_labels more)

-- constant { "," constant }
abbrev pub spelled_labels : Labels → List Spot
spelled_labels l = spelled_constant l.first ++ spelled_more_labels l.rest
