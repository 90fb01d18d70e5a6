-- The arithmetic of a program's words: numbers of 16 bits with a sign.
use Rattle.std.specs.Prelude.{ℕ, Bool, not, ◌&&◌, if◌then◌else◌, List, Option, Some, None, ℤ, pos, negsuc, ◌+ℤ◌, ◌-ℤ◌, ◌*ℤ◌, int_le, int_div, int_rem, unsigned_abs}
use Rattle.std.specs.Ordering.{int_eq}
use Rattle.std.specs.List.{list_all}

-- a number of 16 bits, or none
abbrev pub fit : ℤ → Option ℤ
fit z = if int_le (negsuc 32767) z && int_le z (pos 32767) then Some z else None

-- ADD: 32767 and 1 have no sum
abbrev pub sum : ℤ → ℤ → Option ℤ
sum l r = fit (l +ℤ r)

abbrev pub difference : ℤ → ℤ → Option ℤ
difference l r = fit (l -ℤ r)

abbrev pub product : ℤ → ℤ → Option ℤ
product l r = fit (l *ℤ r)

-- towards zero, and none by zero
abbrev pub quotient : ℤ → ℤ → Option ℤ
quotient l r = if int_eq r (pos 0) then None else fit (int_div l r)

-- with the sign of the dividend, and none by zero
abbrev pub remainder : ℤ → ℤ → Option ℤ
remainder l r = if int_eq r (pos 0) then None else Some (int_rem l r)

-- the word of a truth value: 1 or 0
abbrev pub truth : Bool → ℤ
truth b = if b then pos 1 else pos 0

-- a word stands for true unless it is 0
abbrev pub holds : ℤ → Bool
holds v = not (int_eq v (pos 0))

-- a word that is a byte
abbrev pub is_byte : ℤ → Bool
is_byte z = int_le (pos 0) z && int_le z (pos 255)

-- the byte that a word is, if it is one
abbrev pub byte_of : ℤ → Option ℕ
byte_of z = if is_byte z then Some (unsigned_abs z) else None

abbrev pub are_bytes : List ℤ → Bool
are_bytes words = list_all is_byte words
