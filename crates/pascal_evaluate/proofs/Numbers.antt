-- Products and quotients of words, worked out in 32 bits.
use Rattle.std.proofs.Common.{◌≡◌, ℕ, zero, suc, ◌/◌, ◌≤◌, ℤ, pos, negsuc, neg_ℤ, ◌*ℤ◌, refl, ◌∙◌, ap, arith}
use Rattle.std.specs.Prelude.{unsigned_abs, int_div, FitsSigned}
use Rattle.std.specs.Int.{w16, w32}
use Rattle.std.proofs.Math.Nat.{div-le_self}
use Rattle.std.proofs.lemmas.Int.{to_z-of_z, quot_is, fits_signed_from_abs, fits_signed_mul}
use mir.Val.{to_z, of_z}

abs_neg : (n : ℕ) → unsigned_abs (neg_ℤ (pos n)) ≡ n
abs_neg zero = refl
abs_neg (suc n) = refl

abs_quotient : (a d : ℤ) → unsigned_abs (int_div a d) ≤ unsigned_abs a
abs_quotient (pos a) (pos b) = div-le_self a b
abs_quotient (pos a) (negsuc b) = omega (arith, abs_neg (a / suc b), div-le_self a (suc b))
abs_quotient (negsuc a) (pos b) = omega (arith, abs_neg (suc a / b), div-le_self (suc a) b)
abs_quotient (negsuc a) (negsuc b) = div-le_self (suc a) (suc b)

word_is_small : (z : ℤ) → FitsSigned w16 z → unsigned_abs z ≤ 32768
word_is_small (pos n) fits = omega (arith, fits.sfits)
word_is_small (negsuc n) fits = omega (arith, fits.sfits)

pub is_wide : (z : ℤ) → FitsSigned w16 z → FitsSigned w32 z
is_wide z fits = fits_signed_from_abs w32 z (omega (arith, word_is_small z fits))

-- a word that was widened
pub widened : (z x : ℤ) → FitsSigned w16 z → x ≡ to_z w16 (of_z w16 z) → to_z w32 (of_z w32 x) ≡ z
widened z x fits e = ap (λ v. to_z w32 (of_z w32 v)) (e ∙ to_z-of_z w16 z fits) ∙ to_z-of_z w32 z (is_wide z fits)

pub wide_quotient : (l r x y : ℤ) → FitsSigned w16 l → FitsSigned w16 r → x ≡ to_z w16 (of_z w16 l) → y ≡ to_z w16 (of_z w16 r)
    → to_z w32 (of_z w32 (int_div (to_z w32 (of_z w32 x)) (to_z w32 (of_z w32 y)))) ≡ int_div l r
wide_quotient l r x y fits_l fits_r e_l e_r =
    let left : x ≡ l = e_l ∙ to_z-of_z w16 l fits_l in
    let right : y ≡ r = e_r ∙ to_z-of_z w16 r fits_r in
    let small : FitsSigned w32 (int_div l r) = fits_signed_from_abs w32 (int_div l r) (omega (arith, abs_quotient l r, word_is_small l fits_l)) in
    rw (left, right) (quot_is w32 l r (is_wide l fits_l) (is_wide r fits_r) small)

pub wide_product : (l r x y : ℤ) → FitsSigned w16 l → FitsSigned w16 r → x ≡ to_z w16 (of_z w16 l) → y ≡ to_z w16 (of_z w16 r)
    → to_z w32 (of_z w32 (to_z w32 (of_z w32 x) *ℤ to_z w32 (of_z w32 y))) ≡ l *ℤ r
wide_product l r x y fits_l fits_r e_l e_r =
    let small : FitsSigned w32 (l *ℤ r) = fits_signed_mul w32 l r 32768 32768 (word_is_small l fits_l) (word_is_small r fits_r) (omega arith) in
    rw (widened l x fits_l e_l, widened r y fits_r e_r) (to_z-of_z w32 (l *ℤ r) small)
