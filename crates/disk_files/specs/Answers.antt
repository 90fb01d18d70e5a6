-- What the calls of a file area answer, and what they leave.
use Rattle.std.specs.Prelude.{◌-◌, ◌≡◌, ℕ, ◌%◌, ◌<◌, ◌≤◌, ◌⊎◌, ◌==◌, ◌||◌, nat_lt, nat_le, Bool, true, false, Option, Some, None, Result, Ok, Err, List, length, slice_index_or, if◌then◌else◌}
use Rattle.solo_devices.specs.Count.{Rose, last_count}
use Rattle.solo_devices.specs.Area.{HasSize}
use Rattle.std.specs.FinSet as set
use Rattle.std.specs.Coded.{Coded, coded_ℕ}
use Rattle.disk_pages.specs.Pages.{Pages}
use Rattle.disk_layout.specs.declared.entry.Entry.{Entry}
use Rattle.disk_files.specs.declared.fault.FileFault.{FileFault}
use Rattle.disk_files.specs.declared.fault.FileFault.TheVariants.{Exists, CatalogFull, NotSolo, NoMemory, NoFile, Protected, DiskFull, FileFull, PageRange, DiskFault}
use Rattle.disk_files.specs.declared.fault.FileInfo.{FileInfo}
use Rattle.disk_layout.specs.Format.{IsSoloDisk, IsBad}
use Rattle.disk_layout.specs.Format1.{IsBad1, IsSoloDisk1}
use Rattle.disk_layout.specs.Disk.{disk_of, entry_of, marked_of, number_of}
use Rattle.disk_layout.specs.Files.{File, Files, files, free_count, page_of}
use Rattle.disk_layout.specs.Layout.{IsLaidOut, blank_entry}
use Rattle.disk_layout.specs.Judging.{IsKeptEntry}
use Rattle.disk_layout.specs.Names.{IsUsed, name_at}
use Rattle.disk_layout.specs.Writing.{PutsEntry}

-- the area, the catalogue and the taken pages as they are kept in memory, and whether they are the area's
pub record FileTable (A : Type 0) : Type 0 where
  pub area : A
  pub entries : List Entry
  pub taken : Pages
  pub sound : Bool

abbrev pub pages_code : Coded Pages
pages_code = set.code coded_ℕ

-- ---- Answers

-- a call answers so, unless the area failed
abbrev pub Answers : {T : Type 0} → Result T FileFault → Result T FileFault → Type 0
Answers result expected = (result ≡ Err DiskFault) ⊎ (result ≡ expected)

-- the count of faults never falls nor passes its last value, and a call fails only where it rose
pub record FaultsOnly {T : Type 0} (before now : ℕ) (result : Result T FileFault) : Type 0 where
  pub later : before ≤ now
  pub stays : before ≤ last_count → now ≤ last_count
  pub cause : result ≡ Err DiskFault → Rose before now

-- the area tells a Solo disk with these files, and with so many free pages
pub record Holds (now : Option (List (List ℕ))) (all : Files) (unused : ℕ) : Type 0 where
  pub pages : List (List ℕ)
  pub told : now ≡ Some pages
  pub solo : IsSoloDisk pages
  pub files : files pages ≡ all
  pub free : free_count pages ≡ unused

-- the area tells pages of which this holds
abbrev pub Told : Option (List (List ℕ)) → (List (List ℕ) → Type 0) → Type 0
Told now Holding = (after : List (List ℕ)) × (now ≡ Some after) × Holding after

-- a mount is refused where the area failed, where memory lacks, or by the least page that breaks the format
abbrev pub RefusesMount : List (List ℕ) → FileFault → Type 0
RefusesMount pages fault =
    (fault ≡ DiskFault) ⊎ (fault ≡ NoMemory) ⊎ ((n : ℕ) × (fault ≡ NotSolo n) × IsBad pages n)

-- the same in format 1
abbrev pub RefusesOlder : List (List ℕ) → FileFault → Type 0
RefusesOlder pages fault =
    (fault ≡ DiskFault) ⊎ (fault ≡ NoMemory) ⊎ ((n : ℕ) × (fault ≡ NotSolo n) × IsBad1 pages n)

-- whatever the area tells
abbrev pub MayRefuseMount : FileFault → Type 0
MayRefuseMount fault = (fault ≡ DiskFault) ⊎ (fault ≡ NoMemory) ⊎ ((n : ℕ) × (fault ≡ NotSolo n))

-- whether the files are as the area has them after this answer
abbrev pub stays_sound : {T : Type 0} → Result T FileFault → Bool
stays_sound (Err DiskFault) = false
stays_sound result = true

-- the table after a call that leaves all pages
abbrev pub after_reading : {A T : Type 0} → FileTable A → A → Result T FileFault → FileTable A
after_reading table area result = record table { area = area; sound = stays_sound result }

abbrev pub info_of : File → FileInfo
info_of file = record { kind = file.kind; protected = file.protected; pages = length file.pages }

abbrev pub lookup_answer : Option File → Result FileInfo FileFault
lookup_answer None = Err NoFile
lookup_answer (Some file) = Ok (info_of file)

abbrev pub read_answer_of : ℕ → ℕ → Result (Unit {0}) FileFault
read_answer_of length n = if n == 0 || nat_lt length n then Err PageRange else Ok tt

-- the pages of a file have the numbers from 1 on
abbrev pub read_answer : Option File → ℕ → Result (Unit {0}) FileFault
read_answer None n = Err NoFile
read_answer (Some file) n = read_answer_of (length file.pages) n

-- page n of the file with this index page is found where it has one, unless the area failed
abbrev pub IsFound : List (List ℕ) → ℕ → ℕ → Result ℕ FileFault → Type 0
IsFound pages index n (Ok f) =
    (read_answer_of (number_of pages index 0) n ≡ Ok tt) × (n - 1 < number_of pages index 0)
    × (f ≡ page_of (disk_of pages) index (n - 1))
IsFound pages index n (Err fault) =
    (fault ≡ DiskFault) ⊎ ((fault ≡ PageRange) × (read_answer_of (number_of pages index 0) n ≡ Err PageRange))

-- the answer where the file may not be protected
abbrev pub unprotected : File → Result (Unit {0}) FileFault → Result (Unit {0}) FileFault
unprotected file answer = if file.protected then Err Protected else answer

abbrev pub replace_answer : Option File → ℕ → Result (Unit {0}) FileFault
replace_answer None n = Err NoFile
replace_answer (Some file) n = unprotected file (read_answer_of (length file.pages) n)

-- the answer of a create, where there are so many names and so many pages are free
abbrev pub create_answer : Option File → ℕ → ℕ → Result (Unit {0}) FileFault
create_answer (Some file) names unused = Err Exists
create_answer None names unused =
    if nat_le 240 names then Err CatalogFull else if unused == 0 then Err DiskFull else Ok tt

abbrev pub protect_answer : Option File → Result (Unit {0}) FileFault
protect_answer None = Err NoFile
protect_answer (Some file) = Ok tt

-- how many pages an append to so many takes: every 250 pages take a part page besides
abbrev pub pages_needed : ℕ → ℕ
pages_needed count = if count % 250 == 0 then 2 else 1

abbrev pub append_answer_of : ℕ → ℕ → Result (Unit {0}) FileFault
append_answer_of count free =
    if nat_le 4000 count then Err FileFull else if nat_lt free (pages_needed count) then Err DiskFull else Ok
    tt

-- the answer of an append, where so many pages are free
abbrev pub append_answer : Option File → ℕ → Result (Unit {0}) FileFault
append_answer None free = Err NoFile
append_answer (Some file) free = unprotected file (append_answer_of (length file.pages) free)

abbrev pub delete_answer : Option File → Result (Unit {0}) FileFault
delete_answer None = Err NoFile
delete_answer (Some file) = unprotected file (Ok tt)

-- the answer of a rename, by the files of the old and of the new name
abbrev pub rename_answer : Option File → Option File → Result (Unit {0}) FileFault
rename_answer None other = Err NoFile
rename_answer (Some file) (Some other) = Err Exists
rename_answer (Some file) None = unprotected file (Ok tt)

-- the name stands in the catalogue that is kept, and no entry of it is protected
pub record StandsOpen (kept : List Entry) (name : List ℕ) : Type 0 where
  pub place : ℕ
  pub inside : place < 240
  pub used : IsUsed kept place
  pub named : name_at kept place ≡ name
  pub unprotected : (p : ℕ) → p < 240 → IsUsed kept p → name_at kept p ≡ name
      → (slice_index_or kept p blank_entry).protection ≡ 0

-- ---- What changes in the catalogue

-- the entries and the taken pages that are kept in memory stay
pub record KeepsTable {A : Type 0} (old new : FileTable A) : Type 0 where
  pub entries : new.entries ≡ old.entries
  pub taken : new.taken ≡ old.taken

-- a file of this name stands at the place p
pub record StandsAt (kept : List Entry) (p : ℕ) (name : List ℕ) : Type 0 where
  pub used : IsUsed kept p
  pub named : name_at kept p ≡ name

-- an entry of this name stands at the place p then, and all others are as they were but for their search
-- lengths
pub record PutsFile (kept kept_now : List Entry) (p : ℕ) (name : List ℕ) : Type 0 where
  pub new : Entry
  pub named : new.name ≡ name
  pub put : PutsEntry kept kept_now p new

-- ---- What a file area keeps of its area

-- an area goes on telling as many pages as its size, or none
pub record Stays (before : Option (List (List ℕ))) (size : ℕ) (now : Option (List (List ℕ)))
    (now_size : ℕ) : Type 0 where
  pub has_size : HasSize before size → HasSize now now_size
  pub untold : before ≡ None → now ≡ None

-- The entries that are kept are a catalogue's, whatever the area tells. Where it tells its pages, and while
-- no call failed, the entries and the taken pages are those of the pages.
pub record IsFileArea (told : Option (List (List ℕ))) (size : ℕ) (kept : List Entry) (taken : Pages)
    (sound : Bool) : Type 0 where
  pub whole : size ≡ 4288
  pub has_size : HasSize told size
  pub places : length kept ≡ 240
  pub entries : (p : ℕ) → p < 240 → IsKeptEntry (slice_index_or kept p blank_entry)
  pub laid : sound ≡ true → (pages : List (List ℕ)) → told ≡ Some pages → IsLaidOut kept taken pages

-- the area tells pages that are laid out as these entries and taken pages say, and that have these files
pub record LaidNow (now : Option (List (List ℕ))) (kept : List Entry) (taken : Pages)
    (all : Files) : Type 0 where
  pub pages : List (List ℕ)
  pub told : now ≡ Some pages
  pub laid : IsLaidOut kept taken pages
  pub files : files pages ≡ all

-- ---- Format 1

-- the entries and the taken pages are those of pages that break no format 1
pub record IsOlderRead (kept : List Entry) (pages_taken : Pages) (pages : List (List ℕ)) : Type 0 where
  pub solo : IsSoloDisk1 pages
  pub as_many : length pages ≡ 4288
  pub places : length kept ≡ 240
  pub entries : (p : ℕ) → p < 240 → slice_index_or kept p blank_entry ≡ entry_of pages p
  pub taken : (n : ℕ) → n < 4288 → marked_of pages n ≡ set.contains pages_taken n
  pub within : (n : ℕ) → 4288 ≤ n → set.contains pages_taken n ≡ false
