-- What is found of the pages while they are judged in ascending order.
use Rattle.std.specs.Prelude.{◌≡◌, ◌≢◌, ℕ, ◌+◌, ◌*◌, ◌<◌, ◌≤◌, ◌⊎◌, ◌==◌, ◌&&◌, Bool, true, false, not, min, Option, Some, None, List, length, replicate, take, drop, slice_index, slice_index_or, nat_lt, if◌then◌else◌}
use Rattle.solo_base.specs.PageBytes.{number_at}
use Rattle.disk_layout.specs.declared.entry.Entry.{Entry}
use Rattle.disk_layout.specs.Disk.{Disk, entry_in}
use Rattle.disk_layout.specs.Format.{IsAddress, IsEmptyEntry, IsFullEntry, IsIndexPage, IndexIsRight, NumbersAreRight, UsesNumber, UsesPart, IsPartPage, UsesPage, IsFirstUse, PartIsRight, file_length, count_in_part, count_below, has_key}
use Rattle.disk_layout.specs.Format1.{all_of}
use Rattle.disk_layout.specs.Layout.{blank_entry}

-- ---- The least that breaks a rule

-- the least number below a bound that breaks a rule, or none
abbrev pub JudgedBelow : (ℕ → Type 0) → ℕ → Option ℕ → Type 0
JudgedBelow Keeps n None = (k : ℕ) → k < n → Keeps k
JudgedBelow Keeps n (Some bad) = (bad < n) × (Keeps bad → ⊥) × ((k : ℕ) → k < bad → Keeps k)

abbrev pub noted_bad : Option ℕ → ℕ → Bool → Option ℕ
noted_bad (Some bad) n right = Some bad
noted_bad None n true = None
noted_bad None n false = Some n

-- the least of both
abbrev pub earlier : Option ℕ → Option ℕ → Option ℕ
earlier None other = other
earlier (Some bad) None = Some bad
earlier (Some bad) (Some other) = Some (min bad other)

-- ---- The catalogue

-- an entry that is kept in memory: of no file, or of one
abbrev pub IsKeptEntry : Entry → Type 0
IsKeptEntry entry = (entry.kind ≡ 0) ⊎ IsFullEntry entry (replicate 10 0)

-- what an entry has to keep by itself and beside the entries at earlier places
pub record EntryStands (d : Disk) (p : ℕ) : Type 0 where
  pub whole : IsEmptyEntry (d.entry p) (d.spare p) ⊎ IsFullEntry (d.entry p) (d.spare p)
  pub name : (earlier : ℕ) → earlier < p → IsFullEntry (d.entry earlier) (d.spare earlier)
      → (d.entry p).name ≢ (d.entry earlier).name
  pub address : (earlier : ℕ) → earlier < p → IsFullEntry (d.entry earlier) (d.spare earlier)
      → (d.entry p).address ≢ (d.entry earlier).address

abbrev pub SearchesAreRight : Disk → ℕ → Type 0
SearchesAreRight d p = (d.entry p).searches ≡ count_below (has_key d p) 240

-- the entries at the places below a bound are those of the disk
abbrev pub EntriesRead : Disk → ℕ → List Entry → Type 0
EntriesRead d p entries = (k : ℕ) → k < p → slice_index_or entries k blank_entry ≡ d.entry k

-- the entry at a place stands in the 32 bytes of a page from this one on
pub record HasEntry (d : Disk) (p : ℕ) (bytes : List ℕ) (at : ℕ) : Type 0 where
  pub entry : d.entry p ≡ entry_in bytes at
  pub spare : d.spare p ≡ take 10 (drop (at + 18) bytes)

-- where nothing was wrong, each entry that was read may be kept
abbrev pub KeptBelow : ℕ → List Entry → Option ℕ → Type 0
KeptBelow p entries bad = bad ≡ None → (k : ℕ) → k < p → IsKeptEntry (slice_index_or entries k blank_entry)

-- no entry in use at a place below the bound has the name or the address of this one
abbrev pub IsAlone : List Entry → ℕ → Entry → Type 0
IsAlone entries p entry = (k : ℕ) → k < p → (slice_index_or entries k blank_entry).kind ≢ 0
    → ((slice_index_or entries k blank_entry).name ≢ entry.name)
    × ((slice_index_or entries k blank_entry).address ≢ entry.address)

-- whether this entry in use has the key
abbrev pub uses_key : ℕ → Entry → Bool
uses_key key entry = not (entry.kind == 0) && entry.key == key

-- ---- Index pages and part pages

abbrev pub IndexKeeps : Disk → ℕ → Type 0
IndexKeeps d i = IsIndexPage d i → IndexIsRight d i

abbrev pub PartKeeps : Disk → ℕ → Type 0
PartKeeps d q =
    (by place : ℕ) → IsPartPage d q → IsFirstUse d q by place
    → PartIsRight d q (count_in_part (file_length d by) place)

-- a lesser page, or an earlier place in the page
abbrev pub IsBefore : ℕ → ℕ → ℕ → ℕ → Type 0
IsBefore by place i k = (by < i) ⊎ ((by ≡ i) × (place < k))

-- the first use of a page, by an index page before this place
pub record NotedPart (d : Disk) (i k q noted : ℕ) : Type 0 where
  pub by : ℕ
  pub place : ℕ
  pub before : IsBefore by place i k
  pub first : IsFirstUse d q by place
  pub count : noted ≡ count_in_part (file_length d by) place

-- by page: 255 for an index page, for a part how many of its numbers are in use, and 0 for any other; the
-- parts are those that were met before this place
pub record Roles (d : Disk) (i k : ℕ) (roles : List ℕ) : Type 0 where
  pub size : length roles ≡ 4288
  pub address : (n : ℕ) → slice_index roles n ≢ 0 → IsAddress n
  pub index : (n : ℕ) → IsIndexPage d n → slice_index roles n ≡ 255
  pub is_index : (n : ℕ) → slice_index roles n ≡ 255 → IsIndexPage d n
  pub part : (n : ℕ) → slice_index roles n ≢ 0 → slice_index roles n ≢ 255
      → NotedPart d i k n (slice_index roles n)
  pub met : (by place n : ℕ) → IsBefore by place i k → UsesPart d by place n → IsAddress n
      → slice_index roles n ≢ 0

-- the numbers of a page
abbrev pub HasNumbers : Disk → ℕ → List ℕ → Type 0
HasNumbers d i bytes = (k : ℕ) → k < 256 → d.number i k ≡ number_at bytes (2 * k)

-- The same while the part pages are judged: 251 for a page of a file that was met in a part page before this
-- place.
pub record FileRoles (d : Disk) (q j : ℕ) (roles : List ℕ) : Type 0 where
  pub size : length roles ≡ 4288
  pub address : (n : ℕ) → slice_index roles n ≢ 0 → IsAddress n
  pub index : (n : ℕ) → IsIndexPage d n → slice_index roles n ≡ 255
  pub is_index : (n : ℕ) → slice_index roles n ≡ 255 → IsIndexPage d n
  pub part : (n by place : ℕ) → IsPartPage d n → IsFirstUse d n by place
      → slice_index roles n ≡ count_in_part (file_length d by) place
  pub first_use : (n : ℕ) → IsPartPage d n → ((by : ℕ) × (place : ℕ) × IsFirstUse d n by place)
  pub noted_part : (n : ℕ) → IsPartPage d n → slice_index roles n ≢ 0
  pub is_part : (n : ℕ) → slice_index roles n ≢ 0 → slice_index roles n ≤ 250 → IsPartPage d n
  pub few : (n : ℕ) → slice_index roles n ≢ 255 → slice_index roles n ≤ 251
  pub page : (n : ℕ) → slice_index roles n ≡ 251
      → ((lesser : ℕ) × (other : ℕ) × IsBefore lesser other q j × UsesPage d lesser other n)
  pub met : (lesser other n : ℕ) → IsBefore lesser other q j → UsesPage d lesser other n → IsAddress n
      → slice_index roles n ≢ 0

-- ---- Map pages of format 1

abbrev pub UsesMapped : Disk → ℕ → ℕ → ℕ → Type 0
UsesMapped d i k n = UsesNumber d 255 all_of i k n

abbrev pub MapKeeps : Disk → ℕ → Type 0
MapKeeps d i = IsIndexPage d i → NumbersAreRight d 255 all_of i

-- by page: 255 for a map page, 251 for a page of a file, and 0 for any other; the pages of files are those
-- that were met before this place
pub record MapRoles (d : Disk) (i k : ℕ) (roles : List ℕ) : Type 0 where
  pub size : length roles ≡ 4288
  pub address : (n : ℕ) → slice_index roles n ≢ 0 → IsAddress n
  pub index : (n : ℕ) → IsIndexPage d n → slice_index roles n ≡ 255
  pub is_index : (n : ℕ) → slice_index roles n ≡ 255 → IsIndexPage d n
  pub page : (n : ℕ) → slice_index roles n ≢ 0 → slice_index roles n ≢ 255
      → ((by : ℕ) × (place : ℕ) × IsBefore by place i k × UsesMapped d by place n)
  pub met : (by place n : ℕ) → IsBefore by place i k → UsesMapped d by place n → IsAddress n
      → slice_index roles n ≢ 0

-- ---- The whole area

-- the least page that breaks the format, where the label and the catalogue keep it: by the first bit that is
-- wrong, whether the bytes behind the bits are zeros, and the first page of a file's that is wrong
abbrev pub least_page : Option ℕ → Bool → Option ℕ → Option ℕ
least_page (Some bit) zeros bad_page = if nat_lt bit 4096 then Some 16 else Some 17
least_page None true bad_page = bad_page
least_page None false bad_page = Some 17
