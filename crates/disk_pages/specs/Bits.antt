-- The bit map of the file area, as it stands in two of its pages.
use Rattle.std.specs.Prelude.{◌≡◌, ◌≢◌, ℕ, ◌-◌, ◌/◌, ◌%◌, ◌≤◌, Bool, List, slice_index, nat_lt, ◌==◌, if◌then◌else◌}
use Rattle.std.specs.Int.{bit_at}
use Rattle.solo_base.specs.declared.page.Page.{Page}

-- bit n mod 8 of byte n / 8, where bit 0 is the least: of the bytes 0 and 4 bit 10 alone is set
abbrev pub has_bit : List ℕ → ℕ → Bool
has_bit bytes n = bit_at (slice_index bytes (n / 8)) (n % 8) == 1

-- bit n is made this one, and all others stay
pub record SetsBit (n : ℕ) (on : Bool) (old new : List ℕ) : Type 0 where
  pub bit : has_bit new n ≡ on
  pub others : (m : ℕ) → m ≢ n → has_bit new m ≡ has_bit old m
  pub bytes : (k : ℕ) → k ≢ n / 8 → slice_index new k ≡ slice_index old k

-- whether the bit of page n is 1: those of the pages 0 to 4,095 stand in the first page of the map
abbrev pub is_marked : Page → Page → ℕ → Bool
is_marked low high n = if nat_lt n 4096 then has_bit low.0 n else has_bit high.0 (n - 4096)

-- the bytes behind those that have bits are 0
abbrev pub EndsInZeros : Page → Type 0
EndsInZeros high = (k : ℕ) → 24 ≤ k → slice_index high.0 k ≡ 0

-- the bit of page n is made this one, those of all other pages stay, and no byte behind the bits changes
pub record Marks (n : ℕ) (taken : Bool) (low high low' high' : Page) : Type 0 where
  pub marked : is_marked low' high' n ≡ taken
  pub others : (m : ℕ) → m ≢ n → is_marked low' high' m ≡ is_marked low high m
  pub rest : EndsInZeros high → EndsInZeros high'
