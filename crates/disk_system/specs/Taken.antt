-- Which pages a store takes.
use Rattle.std.specs.Prelude.{◌≡◌, ℕ, suc, zero, List}
use Rattle.disk_layout.specs.Taking.{TakesIndex, TakesNext}

-- so many new pages of a file, one after the other: each is the least that is free then, and so is the part
-- before every 250
abbrev pub TakesPages : List (List ℕ) → List (List ℕ) → List ℕ → ℕ → Type 0
TakesPages pages after name zero = after ≡ pages
TakesPages pages after name (suc k) =
    (between : List (List ℕ)) × TakesPages pages between name k × TakesNext between after name k

-- a new file of so many pages: its index page is taken first, and then they are
pub record TakesFile (pages after : List (List ℕ)) (name : List ℕ) (count : ℕ) : Type 0 where
  pub between : List (List ℕ)
  pub index : TakesIndex pages between name
  pub others : TakesPages between after name count
