-- A law.
-- Prefixes, and functions under which they stay prefixes.
use Rattle.std.proofs.Common.{◌≡◌, ℕ, zero, suc, List, [], ◌∷◌, ◌++◌, length, drop, Some, refl, sym, ◌∙◌, ap, append_assoc}
use Rattle.std.proofs.lemmas.List.{append-nil}
use Rattle.solo_base.specs.Prefixes.{IsPrefixOf}

pub some-same : {X : Type 0} (x y : X) → Some x ≡ Some y → x ≡ y
some-same x y e = cc

abbrev pub IsMonotone : {A B : Type 0} → (List A → List B) → Type 0
IsMonotone {A} f = (some more : List A) → IsPrefixOf (f some) (f (some ++ more))

pub behind-both : {A B C : Type 0} (f : List A → List B) (g : List B → List C) → IsMonotone f → IsMonotone g → IsMonotone (λ xs. g (f xs))
behind-both f g first second some more =
    let (rest, e) = first some more in
    let (new, whole) = second (f some) rest in
    (new, whole ∙ ap g e)

pub part-same : {A : Type 0} (part : List A) → IsPrefixOf part part
part-same part = ([], append-nil part)

pub part-cons : {A : Type 0} (x : A) (part whole : List A) → IsPrefixOf part whole → IsPrefixOf (x ∷ part) (x ∷ whole)
part-cons x part whole (rest, e) = (rest, ap (λ xs. x ∷ xs) e)

pub part-front : {A : Type 0} (front part whole : List A) → IsPrefixOf part whole → IsPrefixOf (front ++ part) (front ++ whole)
part-front front part whole (rest, e) = (rest, append_assoc front part rest ∙ ap (λ xs. front ++ xs) e)

pub drop-part : {A : Type 0} (part rest : List A) → drop (length part) (part ++ rest) ≡ rest
drop-part [] rest = refl
drop-part (x ∷ part) rest = drop-part part rest

pub drop-longer : {A : Type 0} (n : ℕ) (xs extra : List A) (y : A) (ys : List A) → drop n xs ≡ y ∷ ys → drop n (xs ++ extra) ≡ y ∷ (ys ++ extra)
drop-longer zero xs extra y ys e = ap (λ l. l ++ extra) e
drop-longer (suc n) [] extra y ys e = absurd cc
drop-longer (suc n) (x ∷ xs) extra y ys e = drop-longer n xs extra y ys e

pub part-whole : {A : Type 0} (part whole : List A) → IsPrefixOf part whole → drop (length part) whole ≡ [] → part ≡ whole
part-whole part whole (rest, e) none =
    let rest-is : rest ≡ [] = sym (drop-part part rest) ∙ ap (drop (length part)) e ∙ none in
    sym (append-nil part) ∙ ap (λ r. part ++ r) (sym rest-is) ∙ e
