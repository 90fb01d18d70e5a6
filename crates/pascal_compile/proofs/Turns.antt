-- A turn of a loop over a list.
use Rattle.std.proofs.Common.{◌≡◌, ℕ, ◌+◌, ◌<◌, List, [], ◌∷◌, length, map, drop, slice_index_or, sym, ap, ◌∙◌, add-one, drop-cons}
use Rattle.std.proofs.lemmas.List.{drop-map, length-map}

-- what is left of a list from its next element on
pub next_item : {A : Type 0} (xs : List A) (k : ℕ) (x : A) → x ≡ slice_index_or xs k x → k < length xs → drop k xs ≡ x ∷ drop (k + 1) xs
next_item xs k x is within =
    drop-cons xs k x within
    ∙ ap (λ i. slice_index_or xs k x ∷ drop i xs) (sym (add-one k))
    ∙ ap (λ y. y ∷ drop (k + 1) xs) (sym is)

abbrev head_or : {A : Type 0} → A → List A → A
head_or x [] = x
head_or x (y ∷ more) = y

-- the elements at one place of two lists that are told alike
pub at_one_place : {A B C : Type 0} (f : A → C) (g : B → C) (xs : List A) (ys : List B) (k : ℕ) (x : A) (y : B) (xs_left : List A) (ys_left : List B)
    → map f xs ≡ map g ys → drop k xs ≡ x ∷ xs_left → drop k ys ≡ y ∷ ys_left → f x ≡ g y
at_one_place f g xs ys k x y xs_left ys_left alike one two =
    ap (head_or (f x)) (ap (map f) (sym one) ∙ sym (drop-map f k xs) ∙ ap (drop k) alike ∙ drop-map g k ys ∙ ap (map g) two)

-- lists that are told alike are as long
pub as_long : {A B C : Type 0} (f : A → C) (g : B → C) (xs : List A) (ys : List B) → map f xs ≡ map g ys → length xs ≡ length ys
as_long f g xs ys alike = sym (length-map xs f) ∙ ap length alike ∙ length-map ys g
