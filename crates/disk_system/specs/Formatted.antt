-- A file area without a file.
use Rattle.std.specs.Prelude.{◌≡◌, ℕ, ◌+◌, ◌<◌, ◌≤◌, ◌⊎◌, List, length, nat_lt, slice_index, Option, Some, None, Result, Ok, Err}
use Rattle.solo_base.specs.PageBytes.{zero_page}
use Rattle.disk_layout.specs.Disk.{page_at, marked_of}
use Rattle.disk_layout.specs.Format.{label}
use Rattle.disk_files.specs.declared.fault.FileFault.{FileFault}
use Rattle.disk_files.specs.declared.fault.FileFault.TheVariants.{DiskFault as AreaFails}
use Rattle.disk_files.specs.Answers.{Told}
use Rattle.disk_system.specs.declared.fault.DiskFault.{DiskFault}

-- the label, an empty catalogue and a bit map of the first 18 pages are written, and all other pages stay
pub record IsFormatted (pages after : List (List ℕ)) : Type 0 where
  pub as_many : length after ≡ length pages
  pub first : page_at after 0 ≡ label
  pub catalogue : (n : ℕ) → 1 ≤ n → n ≤ 15 → page_at after n ≡ zero_page
  pub marked : (n : ℕ) → n < 4288 → marked_of after n ≡ nat_lt n 18
  pub zeros : (k : ℕ) → 24 ≤ k → slice_index (page_at after 17) k ≡ 0
  pub others : (n : ℕ) → 18 ≤ n → page_at after n ≡ page_at pages n

-- so many pages of the catalogue are zeros, and all other pages stay
pub record IsCleared (pages : List (List ℕ)) (count : ℕ) (after : List (List ℕ)) : Type 0 where
  pub as_many : length after ≡ length pages
  pub cleared : (n : ℕ) → n < count → page_at after (1 + n) ≡ zero_page
  pub others : (n : ℕ) → (n < 1) ⊎ (count < n) → page_at after n ≡ page_at pages n

-- the pages of files stay
abbrev pub SameFilePages : List (List ℕ) → List (List ℕ) → Type 0
SameFilePages pages after = (n : ℕ) → 18 ≤ n → page_at after n ≡ page_at pages n

-- an area goes on telling its pages, of which those of files stay, or goes on telling nothing
pub record KeepsFilePages (before now : Option (List (List ℕ))) : Type 0 where
  pub told : (pages : List (List ℕ)) → before ≡ Some pages → Told now (SameFilePages pages)
  pub untold : before ≡ None → now ≡ None

-- the answer as the file area says it
abbrev pub failed : Result (Unit {0}) DiskFault → Result (Unit {0}) FileFault
failed (Ok x) = Ok tt
failed (Err fault) = Err AreaFails
