-- A ring of places on an area, and the marks of the pages that lie there.
use Rattle.std.specs.Prelude.{ℕ, Bool, List, [], ◌∷◌, ◌++◌, length, drop, map, slice_index_or}
use Rattle.queue_var.specs.Circle.{place}

-- how many places there are, the place of the earliest page, and the marks of the pages, the earliest first
pub record Ring : Type 0 where
  pub capacity : ℕ
  pub first : ℕ
  pub marks : List Bool

abbrev pub empty_ring : ℕ → Ring
empty_ring capacity = record { capacity = capacity; first = 0; marks = [] }

-- the place behind the pages that the ring holds
abbrev pub next_place : Ring → ℕ
next_place ring = place ring.capacity ring.first (length ring.marks)

-- a page lies in the next place
abbrev pub with_page : Ring → Bool → Ring
with_page ring mark = record ring { marks = ring.marks ++ mark ∷ [] }

-- the place of the earliest page is given up
abbrev pub without_first : Ring → Ring
without_first ring = record ring { first = place ring.capacity ring.first 1; marks = drop 1 ring.marks }

-- what lies at these places
abbrev pub at_places : {X : Type 0} → X → List X → List ℕ → List X
at_places default items at = map (λ place. slice_index_or items place default) at
