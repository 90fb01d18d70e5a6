-- The first page of a Solo disk, as it is written.
use Rattle.std.proofs.Common.{◌≡◌, ℕ, suc, zero, ◌+◌, ◌≤◌, List, [], ◌∷◌, ◌++◌, length, take, drop, get_or, replicate, refl, ap, sym, ◌∙◌, arith, length-drop}
use Rattle.std.proofs.lemmas.List.{get_or-drop, take-append-drop}
use Rattle.std.specs.Prelude.{codes}
use Rattle.disk_layout.specs.Format.{label}
use Rattle.disk_layout.specs.Format1.{label1}

pub zeros_at : (n k : ℕ) → ◌≡◌ {A = ℕ} (get_or (replicate n 0) k 0) 0
zeros_at zero k = refl
zeros_at (suc n) zero = refl
zeros_at (suc n) (suc k) = zeros_at n k

-- a list of zeros
pub all_zeros : (bytes : List ℕ) (n : ℕ) → length bytes ≡ n → ((k : ℕ) → get_or bytes k 0 ≡ 0) → bytes ≡ replicate n 0
all_zeros [] zero size zeros = refl
all_zeros [] (suc n) size zeros = absurd (omega (arith, size))
all_zeros (x ∷ bytes) zero size zeros = absurd (omega (arith, size))
all_zeros (x ∷ bytes) (suc n) size zeros = ap (λ y. y ∷ bytes) (zeros 0) ∙ ap (λ ys. 0 ∷ ys) (all_zeros bytes n (omega (arith, size)) (λ k. zeros (suc k)))

-- the label of a format with this number
label_numbered : (format : ℕ) (before page : List ℕ) → length page ≡ 512 → before ≡ replicate 512 0
    → take 12 (drop 0 page) ≡ codes "SOLODISK" ++ (0 ∷ format ∷ 16 ∷ 192 ∷ []) → ((k : ℕ) → 12 ≤ k → get_or page k 0 ≡ get_or before k 0)
    → page ≡ codes "SOLODISK" ++ 0 ∷ format ∷ 16 ∷ 192 ∷ replicate 500 0
label_numbered format before page size blank first rest =
    let behind : drop 12 page ≡ replicate 500 0 = all_zeros (drop 12 page) 500 (omega (arith, length-drop 12 page, size))
    (λ k. get_or-drop 12 page k 0 ∙ rest (12 + k) (omega arith) ∙ ap (λ b. get_or b (12 + k) 0) blank ∙ zeros_at 512 (12 + k)) in
    sym (take-append-drop 12 page) ∙ ap (λ x. x ++ drop 12 page) first ∙ ap (λ x. (codes "SOLODISK" ++ (0 ∷ format ∷ 16 ∷ 192 ∷ [])) ++ x) behind

pub label_written : (before page : List ℕ) → length page ≡ 512 → before ≡ replicate 512 0 → take 12 (drop 0 page) ≡ codes "SOLODISK" ++ (0 ∷ 2 ∷ 16 ∷ 192 ∷ [])
    → ((k : ℕ) → 12 ≤ k → get_or page k 0 ≡ get_or before k 0) → page ≡ label
unfolding label
label_written before page size blank first rest = label_numbered 2 before page size blank first rest

pub label1_written : (before page : List ℕ) → length page ≡ 512 → before ≡ replicate 512 0 → take 12 (drop 0 page) ≡ codes "SOLODISK" ++ (0 ∷ 1 ∷ 16 ∷ 192 ∷ [])
    → ((k : ℕ) → 12 ≤ k → get_or page k 0 ≡ get_or before k 0) → page ≡ label1
unfolding label1
label1_written before page size blank first rest = label_numbered 1 before page size blank first rest
