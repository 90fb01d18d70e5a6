-- Indexes of an array, counted from its lower bound.
use Rattle.std.proofs.Common.{◌≡◌, ℕ, ◌+◌, ◌-◌, ◌<◌, ◌≤◌, true, ℤ, pos, negsuc, ◌+ℤ◌, ◌-ℤ◌, neg_ℤ, refl, sym, ◌∙◌, ap, arith}
use Rattle.std.specs.Prelude.{int_le, unsigned_abs}
use Rattle.std.proofs.Math.IntN.{+ℤ_assoc, +ℤ_comm, +ℤ-neg_ℤ_cancel, negsuc-eq}
use Rattle.std.proofs.lemmas.Bool.{leb-true}
use Rattle.pascal_mean.specs.Means.{Bounds}
use Rattle.pascal_mean.specs.Variables.{size_of}

pub next_index : (low : ℤ) (place : ℕ) → (low +ℤ pos place) +ℤ pos 1 ≡ low +ℤ pos (place + 1)
next_index low place = +ℤ_assoc low (pos place) (pos 1)

pos_same : (i j : ℕ) → pos i ≡ pos j → i ≡ j
pos_same i j e = cc

-- a number that lies so far above another
pub above : (low : ℤ) (k : ℕ) → (low +ℤ pos k) -ℤ low ≡ pos k
above low k = ap (λ z. z +ℤ neg_ℤ low) (+ℤ_comm low (pos k)) ∙ +ℤ-neg_ℤ_cancel (pos k) low

-- two places of one index are one
pub same_place : (low : ℤ) (i j : ℕ) → low +ℤ pos i ≡ low +ℤ pos j → i ≡ j
same_place low i j e = pos_same i j (sym (above low i) ∙ ap (λ z. z -ℤ low) e ∙ above low j)

-- ---- How far a number lies above one that is no greater
sum_of : (a k : ℕ) → pos a +ℤ pos k ≡ pos (a + k)
sum_of a k = refl

opposite : (x y : ℤ) → neg_ℤ x +ℤ (x +ℤ y) ≡ y
opposite x y = +ℤ_comm (neg_ℤ x) (x +ℤ y) ∙ ap (λ z. z +ℤ neg_ℤ x) (+ℤ_comm x y) ∙ +ℤ-neg_ℤ_cancel y x

from_below : (a k : ℕ) → negsuc a +ℤ pos (a + 1 + k) ≡ pos k
unfolding lib.IntN.one
from_below a k = ap (λ z. z +ℤ (pos (a + 1) +ℤ pos k)) (negsuc-eq a) ∙ opposite (pos (a + 1)) (pos k)

zero_above : (a : ℕ) → negsuc a +ℤ pos (a + 1) ≡ pos 0
zero_above a = let same : a + 1 ≡ a + 1 + 0 = omega arith in ap (λ n. negsuc a +ℤ pos n) same ∙ from_below a 0

both_below : (a k : ℕ) → negsuc (a + k) +ℤ pos k ≡ negsuc a
both_below a k =
    let x = pos (a + 1) in
    let sum : k + (a + 1) ≡ a + k + 1 = omega arith in
    let there : (negsuc (a + k) +ℤ pos k) +ℤ x ≡ pos 0 = +ℤ_assoc (negsuc (a + k)) (pos k) x ∙ ap (λ n. negsuc (a + k) +ℤ pos n) sum ∙ zero_above (a + k) in
    sym (+ℤ-neg_ℤ_cancel (negsuc (a + k) +ℤ pos k) x) ∙ ap (λ z. z +ℤ neg_ℤ x) (there ∙ sym (zero_above a)) ∙ +ℤ-neg_ℤ_cancel (negsuc a) x

pub record Above (low v : ℤ) : Type 0 where
  pub place : ℕ
  pub is : v ≡ low +ℤ pos place

pub how_far : (low v : ℤ) → int_le low v ≡ true → Above low v
how_far (pos a) (pos b) le =
    let order : a ≤ b = leb-true a b le in
    let whole : b ≡ a + (b - a) = omega (arith, order) in
    record { place = b - a; is = ap pos whole ∙ sym (sum_of a (b - a)) }
how_far (pos a) (negsuc b) le = cc
how_far (negsuc a) (pos b) le = record { place = a + 1 + b; is = sym (from_below a b) }
how_far (negsuc a) (negsuc b) le =
    let order : b ≤ a = leb-true b a le in
    let whole : a ≡ b + (a - b) = omega (arith, order) in
    record { place = a - b; is = sym (ap (λ n. negsuc n +ℤ pos (a - b)) whole ∙ both_below b (a - b)) }

-- ---- An index within its bounds
pub record Inside (bounds : Bounds) (v : ℤ) : Type 0 where
  pub place : ℕ
  pub is : v ≡ bounds.low +ℤ pos place
  pub low : place < size_of bounds

pub inside : (bounds : Bounds) (v : ℤ) → int_le bounds.low v ≡ true → int_le v bounds.high ≡ true → Inside bounds v
inside bounds v from to =
    let one = how_far bounds.low v from in
    let two = how_far v bounds.high to in
    let whole : bounds.high ≡ bounds.low +ℤ pos (one.place + two.place) =
    two.is ∙ ap (λ z. z +ℤ pos two.place) one.is ∙ +ℤ_assoc bounds.low (pos one.place) (pos two.place) in
    let size : size_of bounds ≡ one.place + two.place + 1 =
    ap (λ z. unsigned_abs (z -ℤ bounds.low) + 1) whole ∙ ap (λ z. unsigned_abs z + 1) (above bounds.low (one.place + two.place)) in
    record { place = one.place; is = one.is; low = omega (arith, size) }
