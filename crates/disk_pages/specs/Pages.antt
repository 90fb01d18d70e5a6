-- The pages of the file area that are taken, as a set of their numbers.
use Rattle.std.specs.Prelude.{◌≡◌, ℕ, suc, zero, ◌+◌, ◌<◌, ◌≤◌, Bool, true, false, ◌||◌, ◌&&◌, length, slice_index, nat_lt, if◌then◌else◌}
use Rattle.std.specs.Ordering.{nat_cmp}
use Rattle.std.specs.FinSet as set
use Rattle.solo_base.specs.declared.page.Page.{Page}
use Rattle.solo_base.specs.declared.page.TheConstants.{PAGE_LENGTH}
use Rattle.disk_pages.specs.Bits.{is_marked, EndsInZeros}

-- a set of pages, by their numbers
abbrev pub Pages : Type 0
Pages = set.FinSet nat_cmp

-- the least page that isn't taken
pub record IsLeastFree (taken : Pages) (n : ℕ) : Type 0 where
  pub within : n < 4288
  pub free : set.contains taken n ≡ false
  pub least : (m : ℕ) → m < n → set.contains taken m ≡ true

-- the numbers below a bound that pass a test
unfoldable pub passing_below : (ℕ → Bool) → ℕ → Pages
passing_below test zero = set.empty
passing_below test (suc n) = if test n then set.insert (passing_below test n) n else passing_below test n

-- the pages of the area whose bits are 1
unfoldable pub marked_pages : Page → Page → Pages
marked_pages low high = passing_below (is_marked low high) 4288

-- the pages that a bit map says to be taken: those whose bits are 1, and the first 18 whatever it says
abbrev pub IsReadFrom : Page → Page → Pages → Type 0
IsReadFrom low high taken = (n : ℕ) → set.contains taken n ≡ (nat_lt n 18 || (nat_lt n 4288 && is_marked low high n))

-- the bits of the first 18 pages are 1, and the bytes that have no bits are 0
pub record IsBitMap (low high : Page) : Type 0 where
  pub system : (n : ℕ) → n < 18 → is_marked low high n ≡ true
  pub zeros : EndsInZeros high

-- as many bytes as a page has
pub record IsPage (page : Page) : Type 0 where
  pub length : length page.0 ≡ PAGE_LENGTH
  pub bytes : (k : ℕ) → slice_index page.0 k < 256

-- what a map keeps: no page below `least` is free, and this many pages are free
pub record IsKept (low high : Page) (least free : ℕ) : Type 0 where
  pub system : 18 ≤ least
  pub within : least ≤ 4288
  pub taken : (n : ℕ) → n < least → is_marked low high n ≡ true
  pub zeros : EndsInZeros high
  pub count : free + set.len (marked_pages low high) ≡ 4288
