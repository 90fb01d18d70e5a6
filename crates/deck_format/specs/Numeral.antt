-- The number that decimal digits write.
use Rattle.std.specs.Prelude.{ℕ, ◌+◌, ◌-◌, ◌*◌, Bool, ◌&&◌, nat_le, List, [], ◌∷◌, length, Option, Some, None, if◌then◌else◌}
use Rattle.std.specs.List.{list_all}
use Rattle.solo_base.specs.Ident.{is_digit}

-- the value of digits behind a number that was read
abbrev pub value_after : ℕ → List ℕ → ℕ
value_after number [] = number
value_after number (digit ∷ digits) = value_after (10 * number + (digit - 48)) digits

-- one to so many digits
abbrev pub is_numeral : ℕ → List ℕ → Bool
is_numeral digits word = nat_le 1 (length word) && nat_le (length word) digits && list_all is_digit word

-- the number that they write, where it lies within bounds: of at most seven digits from 1 to 1,000,000,
-- `0042` is 42, and `0`, `1000001` and `00000042` are none
abbrev pub number_within : ℕ → ℕ → ℕ → List ℕ → Option ℕ
number_within digits least most word =
    if is_numeral digits word && nat_le least (value_after 0 word) && nat_le (value_after 0 word) most
    then Some (value_after 0 word) else None
