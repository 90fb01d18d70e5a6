-- The words of a program that runs lie within 16 bits, and so do the numbers that it writes.
use Rattle.std.proofs.Common.{◌≡◌, ℕ, zero, suc, ◌-◌, ◌<◌, ◌&&◌, Bool, true, false, cond, Option, Some, None, List, [], ◌∷◌, ◌++◌, take, drop, ℤ, pos, negsuc, refl, arith, leb, ltb}
use Rattle.std.specs.Prelude.{slice_get, slice_set, replicate, reverse, int_le, int_rem}
use Rattle.std.specs.Int.{w16, cast_signed}
use Rattle.std.specs.Int.Signed.{mag, mag_rem}
use Rattle.std.proofs.lemmas.Bool.{leb-true, ltb-true, and_parts}
use mathlib.Core.List.{reverse_aux}
use mir.Val.{sel}
use Rattle.solo_base.specs.Arithmetic.{fit, truth}

-- a number of 16 bits
abbrev pub IsWord : ℤ → Type 0
IsWord v = mag v < 65536

abbrev pub AreWords : List ℤ → Type 0
AreWords [] = Unit {0}
AreWords (v ∷ more) = IsWord v × AreWords more

abbrev pub MayBeWord : Option ℤ → Type 0
MayBeWord None = Unit {0}
MayBeWord (Some v) = IsWord v

-- ---- Numbers
may-if : (b : Bool) (v : ℤ) → (b ≡ true → IsWord v) → MayBeWord (cond b (Some v) None)
may-if true v is = is refl
may-if false v is = tt

in-range : (v : ℤ) → (int_le (negsuc 32767) v && int_le v (pos 32767)) ≡ true → IsWord v
in-range (pos n) test = let low = leb-true n 32767 test in omega (arith, low)
in-range (negsuc n) test = let low = leb-true n 32767 (and_parts (leb n 32767) true test).0 in omega (arith, low)

pub fit-word : (v : ℤ) → MayBeWord (fit v)
fit-word v = may-if (int_le (negsuc 32767) v && int_le v (pos 32767)) v (in-range v)

pub truth-word : (b : Bool) → IsWord (truth b)
truth-word true = omega arith
truth-word false = omega arith

pub rest-word : (v w : ℤ) → IsWord v → IsWord (int_rem v w)
rest-word v w is = let less = mag_rem v w in omega (arith, less, is)

pub unless-zero : (b : Bool) (o : Option ℤ) → MayBeWord o → MayBeWord (cond b None o)
unless-zero true o may = tt
unless-zero false o may = may

pub cast-word : (n : ℕ) → IsWord (cast_signed w16 n)
cast-word n = by (ltb n 32768) refl
  where
    by : (b : Bool) → ltb n 32768 ≡ b → IsWord (sel b (pos n) (negsuc (65536 - suc n)))
    by true is = let low = ltb-true n 32768 is in omega (arith, low)
    by false is = omega arith

-- ---- Lists of words
pub words-append : (vs ws : List ℤ) → AreWords vs → AreWords ws → AreWords (vs ++ ws)
words-append [] ws a b = b
words-append (v ∷ vs) ws a b = (a.0, words-append vs ws a.1 b)

pub words-take : (n : ℕ) (vs : List ℤ) → AreWords vs → AreWords (take n vs)
words-take zero vs a = tt
words-take (suc n) [] a = tt
words-take (suc n) (v ∷ vs) a = (a.0, words-take n vs a.1)

pub words-drop : (n : ℕ) (vs : List ℤ) → AreWords vs → AreWords (drop n vs)
words-drop zero vs a = a
words-drop (suc n) [] a = tt
words-drop (suc n) (v ∷ vs) a = words-drop n vs a.1

words-onto : (vs ws : List ℤ) → AreWords vs → AreWords ws → AreWords (reverse_aux vs ws)
words-onto [] ws a b = b
words-onto (v ∷ vs) ws a b = words-onto vs (v ∷ ws) a.1 (a.0, b)

pub words-reverse : (vs : List ℤ) → AreWords vs → AreWords (reverse vs)
words-reverse vs a = words-onto vs [] a tt

pub words-zeros : (n : ℕ) → AreWords (replicate n (pos 0))
words-zeros zero = tt
words-zeros (suc n) = (omega arith, words-zeros n)

pub words-get : (vs : List ℤ) (n : ℕ) → AreWords vs → MayBeWord (slice_get vs n)
words-get [] n a = tt
words-get (v ∷ vs) zero a = a.0
words-get (v ∷ vs) (suc n) a = words-get vs n a.1

pub words-set : (vs : List ℤ) (n : ℕ) (w : ℤ) → AreWords vs → IsWord w → AreWords (slice_set vs n w)
words-set [] n w a is = tt
words-set (v ∷ vs) zero w a is = (is, a.1)
words-set (v ∷ vs) (suc n) w a is = (a.0, words-set vs n w a.1 is)
