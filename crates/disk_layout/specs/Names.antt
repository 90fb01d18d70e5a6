-- The names of the files in their order.
use Rattle.std.specs.Prelude.{◌≡◌, ◌≢◌, ℕ, ◌<◌, Bool, true, false, Option, Some, None, List, slice_index_or}
use Rattle.std.specs.Ordering.{nat_cmp, is_lt}
use Rattle.std.specs.Cmp.Lexicographic.{slice_cmp}
use Rattle.std.specs.FinMap as fin
use Rattle.disk_layout.specs.declared.entry.Entry.{Entry}
use Rattle.disk_layout.specs.Files.{File, Files}
use Rattle.disk_layout.specs.Layout.{blank_entry}

-- names in the order of their characters
abbrev pub comes_before : List ℕ → List ℕ → Bool
comes_before name other = is_lt (slice_cmp nat_cmp name other)

-- whether a name comes behind this one; any does where there is none
abbrev pub is_past : Option (List ℕ) → List ℕ → Bool
is_past None name = true
is_past (Some after) name = comes_before after name

-- the name that comes next among the files: the least of those behind, and none where there is none behind
abbrev pub IsNameAfter : Files → Option (List ℕ) → Option (List ℕ) → Type 0
IsNameAfter all after None =
    (name : List ℕ) (file : File) → fin.get all name ≡ Some file → is_past after name ≡ false
IsNameAfter all after (Some least) =
    ((file : File) × (fin.get all least ≡ Some file)) × (is_past after least ≡ true)
    × ((other : List ℕ) (file : File) → fin.get all other ≡ Some file → is_past after other ≡ true
    → comes_before other least ≡ false)

abbrev pub name_at : List Entry → ℕ → List ℕ
name_at entries p = (slice_index_or entries p blank_entry).name

abbrev pub IsUsed : List Entry → ℕ → Type 0
IsUsed entries p = (slice_index_or entries p blank_entry).kind ≢ 0

-- the place of the name that comes next among those of the first n entries
abbrev pub IsNextBelow : List Entry → Option (List ℕ) → ℕ → Option ℕ → Type 0
IsNextBelow entries after n None =
    (k : ℕ) → k < n → IsUsed entries k → is_past after (name_at entries k) ≡ false
IsNextBelow entries after n (Some p) =
    (p < n) × IsUsed entries p × (is_past after (name_at entries p) ≡ true)
    × ((k : ℕ) → k < n → IsUsed entries k → is_past after (name_at entries k) ≡ true
    → comes_before (name_at entries k) (name_at entries p) ≡ false)
