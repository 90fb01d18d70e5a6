-- Words that were read from those of the parts, one behind another.
use Rattle.std.proofs.Common.{◌≡◌, List, [], ◌∷◌, ◌++◌, sym, ap, ◌∙◌, append_assoc}

pub then_part : {X : Type 0} (a b m0 m1 m2 : List X) → m0 ≡ a ++ m1 → m1 ≡ b ++ m2 → m0 ≡ (a ++ b) ++ m2
then_part a b m0 m1 m2 p q = p ∙ ap (λ u. a ++ u) q ∙ sym (append_assoc a b m2)

pub three_parts : {X : Type 0} (a b c m0 m1 m2 m3 : List X) → m0 ≡ a ++ m1 → m1 ≡ b ++ m2 → m2 ≡ c ++ m3 → m0 ≡ (a ++ (b ++ c)) ++ m3
three_parts a b c m0 m1 m2 m3 p q r = then_part a (b ++ c) m0 m1 m3 p (then_part b c m1 m2 m3 q r)

-- a part between two words, of which the first is taken
pub between : {X : Type 0} (o c : X) (a m0 m1 m2 : List X) → m0 ≡ a ++ m1 → m1 ≡ c ∷ m2 → o ∷ m0 ≡ (o ∷ (a ++ c ∷ [])) ++ m2
between o c a m0 m1 m2 p q = ap (λ u. o ∷ u) (then_part a (c ∷ []) m0 m1 m2 p q)

-- two parts around a word
pub around : {X : Type 0} (c : X) (a b m0 m1 m2 m3 : List X) → m0 ≡ a ++ m1 → m1 ≡ c ∷ m2 → m2 ≡ b ++ m3 → m0 ≡ (a ++ (c ∷ b)) ++ m3
around c a b m0 m1 m2 m3 p q r = then_part a (c ∷ b) m0 m1 m3 p (q ∙ ap (λ u. c ∷ u) r)
