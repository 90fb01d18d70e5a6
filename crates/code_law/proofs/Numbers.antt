-- Numbers of a program fit the operands of its code.
use Rattle.std.proofs.Common.{ℕ, zero, suc, ◌≤◌, ◌≡◌, List, [], ◌∷◌, ◌++◌, pos, negsuc, sym, arith}
use Rattle.std.specs.Prelude.{neg_ℤ, ◌-ℤ◌}
use Rattle.std.proofs.Math.IntN.{+ℤ_idl}
use Rattle.std.specs.Int.{w16}
use Rattle.std.proofs.lemmas.Int.{to_z-of_z, fits_signed_from_abs}
use Rattle.pascal_tree.specs.Word.{Spot, AreWords}
use Rattle.code_law.specs.Suits.{IsHeld}

pub held : (n : ℕ) → n ≤ 32767 → IsHeld (pos n)
held n low = to_z-of_z w16 (pos n) (fits_signed_from_abs w16 (pos n) (omega (arith, low)))

pub held_below : (n : ℕ) → n ≤ 32767 → IsHeld (neg_ℤ (pos n))
held_below zero low = held zero (omega arith)
held_below (suc n) low = to_z-of_z w16 (negsuc n) (fits_signed_from_abs w16 (negsuc n) (omega (arith, low)))

pub below_zero : (n : ℕ) → neg_ℤ (pos n) ≡ pos 0 -ℤ pos n
below_zero n = sym (+ℤ_idl (neg_ℤ (pos n)))

-- words of parts
pub words_before : (a b : List Spot) → AreWords (a ++ b) → AreWords a
words_before [] b h = tt
words_before (w ∷ a) b h = (h.0, words_before a b h.1)

pub words_behind : (a b : List Spot) → AreWords (a ++ b) → AreWords b
words_behind [] b h = h
words_behind (w ∷ a) b h = words_behind a b h.1
