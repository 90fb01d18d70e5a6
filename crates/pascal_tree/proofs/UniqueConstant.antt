-- No two constants, and no two lists of labels, have one spelling.
use Rattle.std.proofs.Common.{◌≡◌, ℕ, List, [], ◌∷◌, ◌++◌, refl, ap, ap₂}
use Rattle.pascal_tree.specs.Word.{Spot}
use Rattle.pascal_tree.specs.Statement.{Labels}
use Rattle.pascal_tree.specs.SpellExpression.{symbol_at}
use Rattle.pascal_tree.specs.SpellConstant.{spelled_constant, spelled_more_labels, spelled_labels}
use Rattle.pascal_tree.proofs.UniqueExpression.{first_of, rest_of, differ, same_name, same_number, same_character, line_of, regroup}
use Rattle.pascal_tree.specs.declared.token.Symbol.TheVariants as symbol
use Rattle.pascal_tree.specs.declared.constant.Constant.{Constant}
use Rattle.pascal_tree.specs.declared.constant.Constant.TheVariants as constant

pub unique_constant : (x y : Constant) (r s : List Spot) → spelled_constant x ++ r ≡ spelled_constant y ++ s → (x ≡ y) × (r ≡ s)
unique_constant (constant.Name x) (constant.Name y) r s e = (ap constant.Name (same_name x y (first_of e)), rest_of e)
unique_constant (constant.Number x) (constant.Number y) r s e = (ap constant.Number (same_number x y (first_of e)), rest_of e)
unique_constant (constant.Character x) (constant.Character y) r s e = (ap constant.Character (same_character x y (first_of e)), rest_of e)
unique_constant (constant.Negative l x) (constant.Negative m y) r s e =
    let lm = line_of _ _ _ _ (first_of e) in
    let xy = same_number x y (first_of (rest_of e)) in
    (cc, rest_of (rest_of e))
unique_constant x y r s e = absurd (differ _ _ _ _ e (λ h. cc))

unique_more_labels : (xs ys : List (ℕ × Constant)) (c d : ℕ) (r s : List Spot) →
    spelled_more_labels xs ++ (symbol_at symbol.Colon c ∷ r) ≡ spelled_more_labels ys ++ (symbol_at symbol.Colon d ∷ s) → (xs ≡ ys) × (c ≡ d) × (r ≡ s)
unique_more_labels [] [] c d r s e = (refl, line_of _ _ _ _ (first_of e), rest_of e)
unique_more_labels [] (y ∷ ys) c d r s e = absurd (differ _ _ _ _ e (λ h. cc))
unique_more_labels (x ∷ xs) [] c d r s e = absurd (differ _ _ _ _ e (λ h. cc))
unique_more_labels (x ∷ xs) (y ∷ ys) c d r s e =
    let l : x.0 ≡ y.0 = line_of _ _ _ _ (first_of e) in
    let t = regroup (spelled_constant x.1) (spelled_more_labels xs) (symbol_at symbol.Colon c ∷ r) (spelled_constant y.1) (spelled_more_labels ys) (symbol_at symbol.Colon d ∷ s) (rest_of e) in
    let a = unique_constant x.1 y.1 _ _ t in
    let n : x.1 ≡ y.1 = a.0 in
    let xy : x ≡ y = (let p : (let v : ℕ × Constant = (x.0, x.1) in v) ≡ (let w : ℕ × Constant = (y.0, y.1) in w) = cc in p) in
    let b = unique_more_labels xs ys c d r s a.1 in
    let z : xs ≡ ys = b.0 in
    (cc, b.1, b.2)

-- labels and their colon
pub unique_labels : (x y : Labels) (c d : ℕ) (r s : List Spot) →
    spelled_labels x ++ (symbol_at symbol.Colon c ∷ r) ≡ spelled_labels y ++ (symbol_at symbol.Colon d ∷ s) → (x ≡ y) × (c ≡ d) × (r ≡ s)
unique_labels x y c d r s e =
    let t = regroup (spelled_constant x.first) (spelled_more_labels x.rest) (symbol_at symbol.Colon c ∷ r) (spelled_constant y.first) (spelled_more_labels y.rest) (symbol_at symbol.Colon d ∷ s) e in
    let a = unique_constant x.first y.first _ _ t in
    let b = unique_more_labels x.rest y.rest c d r s a.1 in
    let xy : x ≡ y = ap₂ (λ (p : Constant) (q : List (ℕ × Constant)). let v : Labels = record { first = p; rest = q } in v) a.0 b.0 in
    (xy, b.1, b.2)
