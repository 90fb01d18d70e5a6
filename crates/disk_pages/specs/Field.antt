-- A field of a page: a number of two bytes, or a name of twelve.
use Rattle.std.specs.Prelude.{◌≡◌, ℕ, ◌+◌, ◌<◌, ◌≤◌, List, length, slice_index}

-- the bytes before the field and those behind it stay, and how many there are
pub record ChangesOnly (at count : ℕ) (old new : List ℕ) : Type 0 where
  pub as_many : length new ≡ length old
  pub before : (k : ℕ) → k < at → slice_index new k ≡ slice_index old k
  pub behind : (k : ℕ) → at + count ≤ k → slice_index new k ≡ slice_index old k
