-- The place of a name in a list, and how a map keeps it.
use Rattle.std.specs.Prelude.{◌≡◌, ℕ, Bool, nat_eq, List, Option, is_some}
use Rattle.std.specs.Ordering.{nat_cmp}
use Rattle.std.specs.List.{position_from}
use Rattle.std.specs.Cmp.Lexicographic.{pointwise, slice_cmp}
use Rattle.std.specs.BTreeMap.{BTreeMap, get}

-- the same characters
abbrev pub same : List ℕ → List ℕ → Bool
same name other = pointwise nat_eq name other

-- the place of a name in a list: of `B` in `A B` it is 1
abbrev pub place : List (List ℕ) → List ℕ → Option ℕ
place names name = position_from (same name) 0 names

-- whether a name stands in a list
abbrev pub has : List (List ℕ) → List ℕ → Bool
has names name = is_some (place names name)

-- the map has the place of each name in the list, and nothing else
abbrev pub HasPlaces : List (List ℕ) → BTreeMap (List ℕ) ℕ → Type 0
HasPlaces names places = (name : List ℕ) → get (slice_cmp nat_cmp) places name ≡ place names name
