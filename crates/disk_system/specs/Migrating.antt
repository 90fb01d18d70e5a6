-- What migrate makes of an area of format 1.
use Rattle.std.specs.Prelude.{◌≡◌, ◌≢◌, ℕ, suc, zero, ◌+◌, ◌*◌, ◌<◌, ◌≤◌, ◌⊎◌, ◌==◌, if◌then◌else◌, true, false, Result, Ok, Err, List, length, slice_index}
use Rattle.std.specs.FinSet as set
use Rattle.solo_base.specs.PageBytes.{number_at}
use Rattle.disk_pages.specs.Pages.{Pages}
use Rattle.disk_layout.specs.declared.entry.Entry.{Entry}
use Rattle.disk_layout.specs.Disk.{disk_of, entry_of, marked_of, number_of, page_at}
use Rattle.disk_layout.specs.Format.{IsAddress, IsBad, IsSoloDisk, count_in_part, part_count}
use Rattle.disk_layout.specs.Format1.{IsBad1, IsSoloDisk1, files1}
use Rattle.disk_layout.specs.Files.{files, free_count, name_count, page_of}
use Rattle.disk_layout.specs.Judging.{IsBefore}
use Rattle.disk_layout.specs.Layout.{HasFile}
use Rattle.disk_layout.specs.Newer.{NeedsPart, map_at, mapped_at, new_part}
use Rattle.disk_files.specs.declared.fault.FileFault.{FileFault}
use Rattle.disk_files.specs.declared.fault.FileFault.TheVariants.{NoFile, Exists, Protected, CatalogFull, DiskFull, FileFull, PageRange}
use Rattle.disk_files.specs.declared.fault.FileFault.TheVariants.{DiskFault as AreaFails, NoMemory as OfNoMemory, NotSolo as OfNotSolo}
use Rattle.disk_system.specs.declared.migrating.Migrated.{Migrated}
use Rattle.disk_system.specs.declared.migrating.MigrateFault.{MigrateFault}
use Rattle.disk_system.specs.declared.migrating.MigrateFault.TheVariants.{NotSolo, NoRoom, DiskFault, NoMemory}

-- the first number of the label chooses the format
abbrev pub IsNewer : List (List ℕ) → Type 0
IsNewer pages = number_of pages 0 4 ≡ 2

-- how many pages the file of an entry has by its map page; no file has none
abbrev pub mapped_by : List (List ℕ) → Entry → ℕ
mapped_by pages entry = if entry.kind == 0 then 0 else number_of pages entry.address 0

-- the parts that the files at the first so many places of the catalogue need
unfoldable pub parts_below : List (List ℕ) → ℕ → ℕ
parts_below pages zero = 0
parts_below pages (suc p) = parts_below pages p + part_count (mapped_by pages (entry_of pages p))

abbrev pub parts_needed : List (List ℕ) → ℕ
parts_needed pages = parts_below pages 240

-- a page that isn't free when part k of the file at a place is taken: the area before had it taken, or it is
-- the part of a file at an earlier place, or an earlier part of this file
abbrev pub IsTakenBy : List (List ℕ) → List (List ℕ) → ℕ → ℕ → ℕ → Type 0
IsTakenBy pages after p k n =
    (marked_of pages n ≡ true)
    ⊎ ((other : ℕ) × (part : ℕ) × IsBefore other part p k × NeedsPart pages other part
    × (n ≡ new_part pages after other part))

-- part k of the file at a place is the least page that is free when it is taken
pub record TakesPart (pages after : List (List ℕ)) (p k : ℕ) : Type 0 where
  pub free : IsTakenBy pages after p k (new_part pages after p k) → ⊥
  pub least : (n : ℕ) → n < new_part pages after p k → IsTakenBy pages after p k n

-- The catalogue stays, and each page of a file stays where it is; each file's map page is its index page now.
-- The parts are taken in the order of the files' places, and of each file in the order of its pages.
pub record Migrates (pages after : List (List ℕ)) : Type 0 where
  pub solo : IsSoloDisk after
  pub files : files after ≡ files1 pages
  pub entries : (p : ℕ) → p < 240 → entry_of after p ≡ entry_of pages p
  pub addresses : (p j : ℕ) → HasFile (disk_of pages) p → j < mapped_at pages p
      → page_of (disk_of after) (map_at pages p) j ≡ number_of pages (map_at pages p) (j + 1)
  pub parts : (p k : ℕ) → NeedsPart pages p k → TakesPart pages after p k

-- why an area of format 2 is refused
abbrev pub RefusesNewer : List (List ℕ) → MigrateFault → Type 0
RefusesNewer pages fault =
    (fault ≡ DiskFault) ⊎ (fault ≡ NoMemory) ⊎ ((n : ℕ) × (fault ≡ NotSolo n) × IsBad pages n)

-- why an area of format 1 is refused
abbrev pub RefusesOlder : List (List ℕ) → MigrateFault → Type 0
RefusesOlder pages fault =
    (fault ≡ DiskFault) ⊎ (fault ≡ NoMemory) ⊎ ((n : ℕ) × (fault ≡ NotSolo n) × IsBad1 pages n)
    ⊎ ((fault ≡ NoRoom (parts_needed pages) (free_count pages)) × IsSoloDisk1 pages
    × (free_count pages < parts_needed pages))

-- an area of format 1 is one of format 2 now: no page broke format 1, and it had so many names, and room for
-- the parts
pub record MadeOf (pages : List (List ℕ)) (names : ℕ) : Type 0 where
  pub solo : IsSoloDisk1 pages
  pub room : parts_needed pages ≤ free_count pages
  pub counted : names ≡ name_count pages

-- what a fault of the area's files is to a migration
abbrev pub as_fault : FileFault → MigrateFault
as_fault (OfNotSolo page) = NotSolo page
as_fault OfNoMemory = NoMemory
as_fault Exists = DiskFault
as_fault Protected = DiskFault
as_fault CatalogFull = DiskFault
as_fault DiskFull = DiskFault
as_fault FileFull = DiskFault
as_fault NoFile = DiskFault
as_fault PageRange = DiskFault
as_fault AreaFails = DiskFault

-- the answer as far as the area gave it
abbrev pub migration : Result Migrated MigrateFault → Result (Unit {0}) FileFault
migration (Ok done) = Ok tt
migration (Err (NotSolo page)) = Err (OfNotSolo page)
migration (Err (NoRoom needed free)) = Ok tt
migration (Err DiskFault) = Err AreaFails
migration (Err NoMemory) = Err OfNoMemory

-- ---- On the way

-- the first k parts of a file of so many pages were written, at the numbers that stand in what its index page
-- is to be
pub record WritesParts (pages now : List (List ℕ)) (taken taken_now : Pages) (old index : List ℕ)
    (count k : ℕ) : Type 0 where
  pub as_many : length now ≡ length pages
  pub size : length index ≡ 512
  pub length : number_at index 0 ≡ count
  pub rest : (m : ℕ) → k < m → m < 256 → number_at index (2 * m) ≡ 0
  pub free : (m : ℕ) → m < k → IsAddress (number_at index (2 * (m + 1)))
  pub new : (m : ℕ) → m < k → set.contains taken (number_at index (2 * (m + 1))) ≡ false
  pub now_taken : (m : ℕ) → m < k → set.contains taken_now (number_at index (2 * (m + 1))) ≡ true
  pub apart : (m other : ℕ) → m < k → other < k
      → number_at index (2 * (m + 1)) ≡ number_at index (2 * (other + 1)) → m ≡ other
  pub numbers : (m j : ℕ) → m < k → j < count_in_part count m
      → number_of now (number_at index (2 * (m + 1))) j ≡ number_at old (2 * (250 * m + j + 1))
  pub part_rest : (m j : ℕ) → m < k → count_in_part count m ≤ j → j < 256
      → number_of now (number_at index (2 * (m + 1))) j ≡ 0
  pub others : (n : ℕ) → ((m : ℕ) → m < k → n ≢ number_at index (2 * (m + 1)))
      → page_at now n ≡ page_at pages n
  pub kept : (n : ℕ) → set.contains taken n ≡ true → set.contains taken_now n ≡ true
  pub only : (n : ℕ) → set.contains taken_now n ≡ true
      → (set.contains taken n ≡ true) ⊎ ((m : ℕ) × (m < k) × (n ≡ number_at index (2 * (m + 1))))
  pub least : (m n : ℕ) → m < k → n < number_at index (2 * (m + 1))
      → (set.contains taken n ≡ true) ⊎ ((other : ℕ) × (other < m) × (n ≡ number_at index (2 * (other + 1))))
  pub many : set.len taken_now ≡ set.len taken + k

-- the file with this index page, which was its map page, has its parts
pub record AddsParts (pages after : List (List ℕ)) (taken taken_then : Pages) (i count : ℕ) : Type 0 where
  pub index : List ℕ
  pub parts : List (List ℕ)
  pub wrote : WritesParts pages parts taken taken_then (page_at pages i) index count (part_count count)
  pub is : page_at after i ≡ index
  pub as_many : length after ≡ length pages
  pub others : (n : ℕ) → n ≢ i → page_at after n ≡ page_at parts n

-- how many parts files of so many pages need, for the first so many of them
unfoldable pub parts_for : List ℕ → ℕ → ℕ
parts_for lengths zero = 0
parts_for lengths (suc p) = parts_for lengths p + part_count (slice_index lengths p)

-- how many pages the files at the first so many places have; 0 where there is none
abbrev pub LengthsRead : List (List ℕ) → ℕ → List ℕ → Type 0
LengthsRead pages n lengths =
    (p : ℕ) → p < n → slice_index lengths p ≡ mapped_by pages (entry_of pages p)

-- the files at the first n places have their parts
pub record Moving (pages now : List (List ℕ)) (taken : Pages) (n : ℕ) : Type 0 where
  pub as_many : length now ≡ length pages
  pub lengths : (p : ℕ) → p < n → HasFile (disk_of pages) p
      → number_of now (map_at pages p) 0 ≡ mapped_at pages p
  pub index_rest : (p k : ℕ) → p < n → HasFile (disk_of pages) p → part_count (mapped_at pages p) < k
      → k < 256 → number_of now (map_at pages p) k ≡ 0
  pub numbers : (p k j : ℕ) → p < n → NeedsPart pages p k → j < count_in_part (mapped_at pages p) k
      → number_of now (new_part pages now p k) j ≡ number_of pages (map_at pages p) (250 * k + j + 1)
  pub part_rest : (p k j : ℕ) → p < n → NeedsPart pages p k → count_in_part (mapped_at pages p) k ≤ j
      → j < 256 → number_of now (new_part pages now p k) j ≡ 0
  pub free : (p k : ℕ) → p < n → NeedsPart pages p k → IsAddress (new_part pages now p k)
  pub new : (p k : ℕ) → p < n → NeedsPart pages p k → marked_of pages (new_part pages now p k) ≡ false
  pub now_taken : (p k : ℕ) → p < n → NeedsPart pages p k → set.contains taken (new_part pages now p k) ≡ true
  pub apart : (p k other part : ℕ) → p < n → other < n → NeedsPart pages p k → NeedsPart pages other part
      → new_part pages now p k ≡ new_part pages now other part → (p ≡ other) × (k ≡ part)
  pub others : (m : ℕ) → ((p : ℕ) → p < n → HasFile (disk_of pages) p → m ≢ map_at pages p)
      → ((p k : ℕ) → p < n → NeedsPart pages p k → m ≢ new_part pages now p k)
      → page_at now m ≡ page_at pages m
  pub kept : (m : ℕ) → m < 4288 → marked_of pages m ≡ true → set.contains taken m ≡ true
  pub only : (m : ℕ) → m < 4288 → set.contains taken m ≡ true → (marked_of pages m ≡ true)
      ⊎ ((p : ℕ) × (k : ℕ) × (p < n) × NeedsPart pages p k × (m ≡ new_part pages now p k))
  pub least : (p k : ℕ) → p < n → NeedsPart pages p k → (m : ℕ) → m < new_part pages now p k
      → IsTakenBy pages now p k m
