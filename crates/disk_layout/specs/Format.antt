-- The format of the file area, page by page, and the least page that breaks it.
use Rattle.std.specs.Prelude.{◌≡◌, ◌≢◌, ℕ, suc, zero, ◌+◌, ◌-◌, ◌*◌, ◌/◌, ◌%◌, ◌<◌, ◌≤◌, ◌⊎◌, ◌↔◌, ◌==◌, ◌&&◌, not, Bool, IsTrue, min, List, [], ◌∷◌, ◌++◌, replicate, slice_index, codes, cond, if◌then◌else◌}
use Rattle.solo_base.specs.Ident.{IsIdent}
use Rattle.disk_layout.specs.declared.entry.Entry.{Entry}
use Rattle.disk_layout.specs.Disk.{Disk, disk_of, page_at}

-- ---- The catalogue

-- blanks don't count
unfoldable pub key_from : ℕ → List ℕ → ℕ
key_from key [] = key
key_from key (code ∷ rest) = key_from (if code == 32 then key else (key * code) % 240 + 1) rest

abbrev pub key_of : List ℕ → ℕ
key_of name = key_from 1 name

-- the pages that a file may have
pub record IsAddress (n : ℕ) : Type 0 where
  pub file_page : 18 ≤ n
  pub within : n < 4288

pub record IsEmptyEntry (e : Entry) (spare_bytes : List ℕ) : Type 0 where
  pub name : e.name ≡ replicate 12 0
  pub kind : e.kind ≡ 0
  pub address : e.address ≡ 0
  pub protection : e.protection ≡ 0
  pub key : e.key ≡ 0
  pub spare : spare_bytes ≡ replicate 10 0

pub record IsFullEntry (e : Entry) (spare_bytes : List ℕ) : Type 0 where
  pub name : IsIdent e.name
  pub some_kind : 1 ≤ e.kind
  pub kind : e.kind ≤ 4
  pub address : IsAddress e.address
  pub protection : e.protection ≤ 1
  pub key : e.key ≡ key_of e.name
  pub spare : spare_bytes ≡ replicate 10 0

-- how many numbers below a bound pass a test
unfoldable pub count_below : (ℕ → Bool) → ℕ → ℕ
count_below test zero = 0
count_below test (suc n) = cond (test n) 1 0 + count_below test n

-- the name at this place has its key from the place p on
abbrev pub has_key : Disk → ℕ → ℕ → Bool
has_key d p other = not ((d.entry other).kind == 0) && (d.entry other).key == p + 1

-- what an entry has to keep
pub record EntryIsRight (d : Disk) (p : ℕ) : Type 0 where
  pub whole : IsEmptyEntry (d.entry p) (d.spare p) ⊎ IsFullEntry (d.entry p) (d.spare p)
  pub name : (earlier : ℕ) → earlier < p → IsFullEntry (d.entry earlier) (d.spare earlier)
      → (d.entry p).name ≢ (d.entry earlier).name
  pub address : (earlier : ℕ) → earlier < p → IsFullEntry (d.entry earlier) (d.spare earlier)
      → (d.entry p).address ≢ (d.entry earlier).address
  pub searches : (d.entry p).searches ≡ count_below (has_key d p) 240

-- ---- Index pages, part pages, and the pages of files

pub record IsIndexPage (d : Disk) (i : ℕ) : Type 0 where
  pub free : IsAddress i
  pub place : ℕ
  pub inside : place < 240
  pub used : (d.entry place).kind ≢ 0
  pub named : (d.entry place).address ≡ i

-- a length over 4,000 counts as 4,000
abbrev pub file_length : Disk → ℕ → ℕ
file_length d i = min (d.number i 0) 4000

-- the parts that so many pages take
abbrev pub part_count : ℕ → ℕ
part_count pages = (pages + 249) / 250

-- What an index page has in common with a page of addresses in format 1: its first number is a length, at
-- most the limit, and so many of the numbers behind it are in use as that length needs.
pub record UsesNumber (d : Disk) (limit : ℕ) (needed : ℕ → ℕ) (i k n : ℕ) : Type 0 where
  pub index : IsIndexPage d i
  pub below : k < needed (min (d.number i 0) limit)
  pub is : d.number i (k + 1) ≡ n

pub record NumbersAreRight (d : Disk) (limit : ℕ) (needed : ℕ → ℕ) (i : ℕ) : Type 0 where
  pub length : d.number i 0 ≤ limit
  pub free : (k : ℕ) → k < needed (min (d.number i 0) limit) → IsAddress (d.number i (k + 1))
  pub once : (k other : ℕ) → k < needed (min (d.number i 0) limit) → other < needed (min (d.number i 0) limit)
      → d.number i (k + 1) ≡ d.number i (other + 1) → k ≡ other
  pub no_index : (k : ℕ) → k < needed (min (d.number i 0) limit) → IsIndexPage d (d.number i (k + 1)) → ⊥
  pub no_lesser : (k lesser place : ℕ) → k < needed (min (d.number i 0) limit) → lesser < i
      → UsesNumber d limit needed lesser place (d.number i (k + 1)) → ⊥
  pub rest : (k : ℕ) → needed (min (d.number i 0) limit) < k → k < 256 → d.number i k ≡ 0

-- part k of the index page i is the page q
abbrev pub UsesPart : Disk → ℕ → ℕ → ℕ → Type 0
UsesPart d i k q = UsesNumber d 4000 part_count i k q

abbrev pub IndexIsRight : Disk → ℕ → Type 0
IndexIsRight d i = NumbersAreRight d 4000 part_count i

pub record IsPartPage (d : Disk) (q : ℕ) : Type 0 where
  pub free : IsAddress q
  pub by : ℕ
  pub part : ℕ
  pub used : UsesPart d by part q
  pub other : IsIndexPage d q → ⊥

-- the least index page that uses the part page, and its first use there
pub record IsFirstUse (d : Disk) (q i k : ℕ) : Type 0 where
  pub used : UsesPart d i k q
  pub least : (by part : ℕ) → UsesPart d by part q → (i < by) ⊎ ((i ≡ by) × (k ≤ part))

-- the pages of part k of so many
abbrev pub count_in_part : ℕ → ℕ → ℕ
count_in_part pages k = min 250 (pages - 250 * k)

-- page j of the part page q is the page f
pub record UsesPage (d : Disk) (q j f : ℕ) : Type 0 where
  pub part : IsPartPage d q
  pub by : ℕ
  pub place : ℕ
  pub first : IsFirstUse d q by place
  pub below : j < count_in_part (file_length d by) place
  pub is : d.number q j ≡ f

pub record IsFilePage (d : Disk) (f : ℕ) : Type 0 where
  pub free : IsAddress f
  pub by : ℕ
  pub place : ℕ
  pub used : UsesPage d by place f

-- a part page with so many numbers in use
pub record PartIsRight (d : Disk) (q count : ℕ) : Type 0 where
  pub free : (j : ℕ) → j < count → IsAddress (d.number q j)
  pub once : (j other : ℕ) → j < count → other < count → d.number q j ≡ d.number q other → j ≡ other
  pub no_index : (j : ℕ) → j < count → IsIndexPage d (d.number q j) → ⊥
  pub no_part : (j : ℕ) → j < count → IsPartPage d (d.number q j) → ⊥
  pub no_lesser : (j lesser other : ℕ) → j < count → lesser < q → UsesPage d lesser other (d.number q j) → ⊥
  pub rest : (j : ℕ) → count ≤ j → j < 256 → d.number q j ≡ 0

-- the bit of page m is 1 exactly where the page is taken
abbrev pub MarkIsRight : Disk → ℕ → Type 0
MarkIsRight d m = IsTrue (d.marked m) ↔ ((m < 18) ⊎ IsIndexPage d m ⊎ IsPartPage d m ⊎ IsFilePage d m)

-- ---- The whole

-- `SOLODISK`, the numbers 2 and 4,288, zeros
unfoldable pub label : List ℕ
label = codes "SOLODISK" ++ 0 ∷ 2 ∷ 16 ∷ 192 ∷ replicate 500 0

-- page n keeps the format
pub record KeepsFormat (pages : List (List ℕ)) (n : ℕ) : Type 0 where
  pub first : n ≡ 0 → page_at pages 0 ≡ label
  pub catalogue : (p : ℕ) → p < 240 → n ≡ 1 + p / 16 → EntryIsRight (disk_of pages) p
  pub bits : (m : ℕ) → m < 4288 → n ≡ 16 + m / 4096 → MarkIsRight (disk_of pages) m
  pub zeros : n ≡ 17 → (k : ℕ) → 24 ≤ k → slice_index (page_at pages 17) k ≡ 0
  pub index : IsIndexPage (disk_of pages) n → IndexIsRight (disk_of pages) n
  pub part : (by place : ℕ) → IsPartPage (disk_of pages) n → IsFirstUse (disk_of pages) n by place
      → PartIsRight (disk_of pages) n (count_in_part (file_length (disk_of pages) by) place)

-- no page breaks the format
abbrev pub IsSoloDisk : List (List ℕ) → Type 0
IsSoloDisk pages = (n : ℕ) → KeepsFormat pages n

-- the least page that breaks it
pub record IsBad (pages : List (List ℕ)) (n : ℕ) : Type 0 where
  pub breaks : KeepsFormat pages n → ⊥
  pub least : (lesser : ℕ) → lesser < n → KeepsFormat pages lesser
