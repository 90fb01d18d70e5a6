-- Format 1 of the file area, which differs from format 2 in the label and in what an entry's address names:
-- a map page, with the addresses of the file's pages themselves.
use Rattle.std.specs.Prelude.{◌≡◌, ℕ, ◌+◌, ◌/◌, ◌<◌, ◌≤◌, ◌⊎◌, ◌↔◌, ◌==◌, IsTrue, List, ◌∷◌, ◌++◌, replicate, slice_index, codes}
use Rattle.disk_layout.specs.declared.entry.Entry.{Entry}
use Rattle.disk_layout.specs.Disk.{Disk, disk_of, page_at, number_of}
use Rattle.disk_layout.specs.Files.{File, Files, files_below, kind_of, named_as, pages_named}
use Rattle.disk_layout.specs.Format.{IsAddress, EntryIsRight, IsIndexPage, UsesNumber, NumbersAreRight}

-- a map page has as many addresses as its length says
abbrev pub all_of : ℕ → ℕ
all_of length = length

pub record IsMappedPage (d : Disk) (f : ℕ) : Type 0 where
  pub free : IsAddress f
  pub by : ℕ
  pub place : ℕ
  pub used : UsesNumber d 255 all_of by place f

abbrev pub Mark1IsRight : Disk → ℕ → Type 0
Mark1IsRight d m = IsTrue (d.marked m) ↔ ((m < 18) ⊎ IsIndexPage d m ⊎ IsMappedPage d m)

-- `SOLODISK`, the numbers 1 and 4,288, zeros
unfoldable pub label1 : List ℕ
label1 = codes "SOLODISK" ++ 0 ∷ 1 ∷ 16 ∷ 192 ∷ replicate 500 0

-- page n keeps format 1
pub record KeepsFormat1 (pages : List (List ℕ)) (n : ℕ) : Type 0 where
  pub first : n ≡ 0 → page_at pages 0 ≡ label1
  pub catalogue : (p : ℕ) → p < 240 → n ≡ 1 + p / 16 → EntryIsRight (disk_of pages) p
  pub bits : (m : ℕ) → m < 4288 → n ≡ 16 + m / 4096 → Mark1IsRight (disk_of pages) m
  pub zeros : n ≡ 17 → (k : ℕ) → 24 ≤ k → slice_index (page_at pages 17) k ≡ 0
  pub map : IsIndexPage (disk_of pages) n → NumbersAreRight (disk_of pages) 255 all_of n

abbrev pub IsSoloDisk1 : List (List ℕ) → Type 0
IsSoloDisk1 pages = (n : ℕ) → KeepsFormat1 pages n

-- the least page that breaks it
pub record IsBad1 (pages : List (List ℕ)) (n : ℕ) : Type 0 where
  pub breaks : KeepsFormat1 pages n → ⊥
  pub least : (lesser : ℕ) → lesser < n → KeepsFormat1 pages lesser

unfoldable pub file_at1 : List (List ℕ) → Entry → File
file_at1 pages e = record {
  kind = kind_of e.kind;
  protected = e.protection == 1;
  pages = pages_named pages (λ j. number_of pages e.address (j + 1)) (number_of pages e.address 0);
}

-- the files of an area whose pages keep format 1
abbrev pub files1 : List (List ℕ) → Files
files1 pages = files_below (named_as (file_at1 pages) pages) 240
