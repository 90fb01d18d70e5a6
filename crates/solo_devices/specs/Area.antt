-- What reading and writing a page of an area does. An area may tell its pages, or tell nothing.
use Rattle.std.specs.Prelude.{◌≡◌, ◌≢◌, ℕ, ◌≤◌, List, length, slice_get, slice_set, Option, Some, None}
use Rattle.std.specs.List.{All}
use Rattle.solo_base.specs.declared.page.Page.{Page}
use Rattle.solo_base.specs.declared.page.TheConstants.{PAGE_LENGTH}
use Rattle.solo_devices.specs.Count.{Rose, last_count}
use Rattle.solo_devices.specs.declared.area.Moved.{Moved}
use Rattle.solo_devices.specs.declared.area.Moved.TheVariants.{Done, Failed}

-- a read that is done gives the page
abbrev pub ReadsOf : List (List ℕ) → ℕ → Moved → List ℕ → Type 0
ReadsOf pages n Done page = slice_get pages n ≡ Some page
ReadsOf pages n Failed page = Unit {0}

-- a read leaves the pages
pub record ReadsFrom (before now : Option (List (List ℕ))) (n : ℕ) (answer : Moved) (page : List ℕ) : Type 0 where
  pub told : (pages : List (List ℕ)) → before ≡ Some pages → ReadsOf pages n answer page
  pub left : now ≡ before

-- all pages but that of this number are as they were
pub record IsSameBut (n : ℕ) (pages after : List (List ℕ)) : Type 0 where
  pub as_many : length after ≡ length pages
  pub others : (k : ℕ) → k ≢ n → slice_get after k ≡ slice_get pages k

-- a write that is done makes the page what was written; one that failed may leave any bytes in it
abbrev pub WritesTo : List (List ℕ) → Option (List (List ℕ)) → ℕ → Moved → List ℕ → Type 0
WritesTo pages now n Done page = now ≡ Some (slice_set pages n page)
WritesTo pages now n Failed page = (after : List (List ℕ)) × (now ≡ Some after) × IsSameBut n pages after

pub record Writes (before now : Option (List (List ℕ))) (n : ℕ) (answer : Moved) (page : List ℕ) : Type 0 where
  pub told : (pages : List (List ℕ)) → before ≡ Some pages → WritesTo pages now n answer page
  pub untold : before ≡ None → now ≡ None

-- a failure is counted, and the count stands still at its last value
pub record CountsFaults (before now : ℕ) (answer : Moved) : Type 0 where
  pub later : before ≤ now
  pub stays : before ≤ last_count → now ≤ last_count
  pub failed : answer ≡ Failed → Rose before now

-- each of these pages has as many bytes as a page
abbrev pub AreWhole : List (List ℕ) → Type 0
AreWhole pages = All (λ page. length page ≡ PAGE_LENGTH) pages

-- an area that tells its pages tells as many as its size, and whole ones
abbrev pub HasSize : Option (List (List ℕ)) → ℕ → Type 0
HasSize pages size = (told : List (List ℕ)) → pages ≡ Some told → length told ≡ size

abbrev pub HasWholePages : Option (List (List ℕ)) → Type 0
HasWholePages pages = (told : List (List ℕ)) → pages ≡ Some told → AreWhole told

-- the bytes of a page
abbrev pub page_bytes : Page → List ℕ
page_bytes page = page.0
