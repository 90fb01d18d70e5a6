-- A part of a list of words, copied word by word.
use Rattle.std.proofs.Common.{◌≡◌, ℕ, zero, suc, ◌+◌, ◌<◌, ◌≤◌, List, [], ◌∷◌, length, get_or, take, drop, set, ℤ, pos, refl, sym, ◌∙◌, ap, arith, inl, inr}
use Rattle.std.proofs.Common.{Option}
use Rattle.std.specs.Prelude.{slice_get, unwrap_or, FitsSigned}
use Rattle.std.specs.Int.{w16}
use Rattle.std.proofs.lemmas.Int.{to_z-of_z}
use mir.Val.{to_z, of_z}
use Rattle.std.proofs.lemmas.Bool.{cases_eq}
use Rattle.std.proofs.lemmas.List.{ext_get_or, get_or-take, get_or-drop, length-take, length-drop, get_or-set_same, get_or-set_other}

-- a read that gives 0 past the end
pub unwrap_read : (words : List ℤ) (i : ℕ) → unwrap_or (slice_get words i) (pos 0) ≡ get_or words i (pos 0)
unwrap_read [] i = refl
unwrap_read (word ∷ words) zero = refl
unwrap_read (word ∷ words) (suc i) = unwrap_read words i

-- one more word
pub copied : (part words : List ℤ) (start k n : ℕ) (word : ℤ) → length part ≡ n → k < n
    → ((i : ℕ) → i < k → get_or part i (pos 0) ≡ get_or words (start + i) (pos 0)) → word ≡ get_or words (start + k) (pos 0)
    → (i : ℕ) → i < k + 1 → get_or (set part k word) i (pos 0) ≡ get_or words (start + i) (pos 0)
copied part words start k n word long inside same new i below =
    elim (cases_eq i k) [
      | inl last ↦ rw (last, get_or-set_same part k word (pos 0) (omega (arith, long, inside))) new
      | inr other ↦ get_or-set_other part k i word (pos 0) other ∙ same i (omega (arith, other))
    ]

-- the whole part
pub whole_part : (part words : List ℤ) (start k n : ℕ) → length part ≡ n → n ≤ k → start + n ≤ length words
    → ((i : ℕ) → i < k → get_or part i (pos 0) ≡ get_or words (start + i) (pos 0)) → part ≡ take n (drop start words)
whole_part part words start k n long all room same =
    ext_get_or (pos 0) part (take n (drop start words)) (omega (arith, long, length-take n (drop start words), length-drop start words))
    (λ i below.
    same i (omega (arith, long))
    ∙ sym (get_or-take n (drop start words) i (pos 0) (omega (arith, long)) ∙ get_or-drop start words i (pos 0)))

-- a word that was read, as code passes it on
pub read_word : (words : List ℤ) (i : ℕ) (found : Option ℤ) (word : ℤ) → found ≡ slice_get words i → word ≡ unwrap_or found (pos 0) → FitsSigned w16 word → to_z w16 (of_z w16 word) ≡ get_or words i (pos 0)
read_word words i found word e f fits = to_z-of_z w16 word fits ∙ f ∙ ap (λ (o : Option ℤ). unwrap_or o (pos 0)) e ∙ unwrap_read words i
