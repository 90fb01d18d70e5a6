-- What a file area keeps in memory, and how the pages are laid out.
use Rattle.std.specs.Prelude.{◌≡◌, ◌≢◌, ℕ, ◌+◌, ◌/◌, ◌%◌, ◌<◌, ◌≤◌, ◌||◌, nat_lt, false, Option, Some, is_some, List, [], length, slice_index, slice_index_or}
use Rattle.std.specs.FinSet as set
use Rattle.disk_pages.specs.Pages.{Pages}
use Rattle.disk_layout.specs.declared.entry.Entry.{Entry}
use Rattle.disk_layout.specs.Disk.{Disk, disk_of, page_at, entry_of, marked_of}
use Rattle.disk_layout.specs.Format.{IsAddress, EntryIsRight, part_count, count_in_part, label}

-- what a page serves: as the index page of the file at a place of the catalogue, as its part k, or as its
-- page j
pub data Use : Type 0 where
  Index : ℕ → Use
  Part : ℕ → ℕ → Use
  Page : ℕ → ℕ → Use

abbrev pub index_at : Disk → ℕ → ℕ
index_at d p = (d.entry p).address

abbrev pub length_at : Disk → ℕ → ℕ
length_at d p = d.number (index_at d p) 0

abbrev pub part_at : Disk → ℕ → ℕ → ℕ
part_at d p k = d.number (index_at d p) (k + 1)

abbrev pub page_number : Disk → ℕ → ℕ → ℕ
page_number d p j = d.number (part_at d p (j / 250)) (j % 250)

abbrev pub address_of : Disk → Use → ℕ
address_of d (Index p) = index_at d p
address_of d (Part p k) = part_at d p k
address_of d (Page p j) = page_number d p j

pub record HasFile (d : Disk) (p : ℕ) : Type 0 where
  pub inside : p < 240
  pub used : (d.entry p).kind ≢ 0

abbrev pub InUse : Disk → Use → Type 0
InUse d (Index p) = HasFile d p
InUse d (Part p k) = HasFile d p × (k < part_count (length_at d p))
InUse d (Page p j) = HasFile d p × (j < length_at d p)

-- each page that is taken serves for one thing, and each thing has its page
pub record Owns (d : Disk) (owner : ℕ → Option Use) : Type 0 where
  pub known : (u : Use) → InUse d u → owner (address_of d u) ≡ Some u
  pub only : (n : ℕ) (u : Use) → owner n ≡ Some u → InUse d u × (address_of d u ≡ n)
  pub free : (n : ℕ) (u : Use) → owner n ≡ Some u → IsAddress n
  pub marked : (n : ℕ) → n < 4288 → d.marked n ≡ (nat_lt n 18 || is_some (owner n))
  pub short : (p : ℕ) → HasFile d p → length_at d p ≤ 4000
  pub index_rest : (p k : ℕ) → HasFile d p → part_count (length_at d p) < k → k < 256
      → d.number (index_at d p) k ≡ 0
  pub part_rest : (p k j : ℕ) → HasFile d p → k < part_count (length_at d p)
      → count_in_part (length_at d p) k ≤ j → j < 256 → d.number (part_at d p k) j ≡ 0

-- no entry
abbrev pub blank_entry : Entry
blank_entry = record { name = []; kind = 0; address = 0; protection = 0; key = 0; searches = 0 }

-- the entries and the taken pages that are kept in memory are those of the pages, and no page breaks the
-- format
pub record IsLaidOut (kept : List Entry) (pages_taken : Pages) (pages : List (List ℕ)) : Type 0 where
  pub as_many : length pages ≡ 4288
  pub first : page_at pages 0 ≡ label
  pub places : length kept ≡ 240
  pub entries : (p : ℕ) → p < 240 → slice_index_or kept p blank_entry ≡ entry_of pages p
  pub right : (p : ℕ) → p < 240 → EntryIsRight (disk_of pages) p
  pub zeros : (k : ℕ) → 24 ≤ k → slice_index (page_at pages 17) k ≡ 0
  pub taken : (n : ℕ) → n < 4288 → marked_of pages n ≡ set.contains pages_taken n
  pub within : (n : ℕ) → 4288 ≤ n → set.contains pages_taken n ≡ false
  pub owner : ℕ → Option Use
  pub owns : Owns (disk_of pages) owner
