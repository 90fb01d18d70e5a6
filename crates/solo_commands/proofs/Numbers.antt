-- A number that digits write lies within its bounds.
use Rattle.std.proofs.Common.{◌≡◌, ℕ, ◌≤◌, Bool, true, false, List, Option, Some, None, refl, sym}
use Rattle.std.specs.Prelude.{◌&&◌, nat_le, if◌then◌else◌}
use Rattle.std.proofs.lemmas.Bool.{leb-true}
use Rattle.deck_format.specs.Numeral.{is_numeral, number_within, value_after}

some_same : (a b : ℕ) → ◌≡◌ {A = Option ℕ} (Some a) (Some b) → a ≡ b
some_same a b e = cc

none_some : (a : ℕ) → ◌≡◌ {A = Option ℕ} None (Some a) → ⊥
none_some a e = cc

within-by : (digits low high : Bool) (value most number : ℕ) → high ≡ nat_le value most
    → ◌≡◌ {A = Option ℕ} (if digits && low && high then Some value else None) (Some number) → number ≤ most
within-by true true true value most number is e = rw (sym (some_same value number e)) (leb-true value most (sym is))
within-by true true false value most number is e = absurd (none_some number e)
within-by true false true value most number is e = absurd (none_some number e)
within-by true false false value most number is e = absurd (none_some number e)
within-by false low high value most number is e = absurd (none_some number e)

pub number_is_within : (digits least most : ℕ) (word : List ℕ) (number : ℕ) → number_within digits least most word ≡ Some number → number ≤ most
number_is_within digits least most word number e =
    within-by (is_numeral digits word) (nat_le least (value_after 0 word)) (nat_le (value_after 0 word) most) (value_after 0 word) most number refl e
