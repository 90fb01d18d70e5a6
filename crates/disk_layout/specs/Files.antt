-- The files of a disk: a finite map from names to kind, protection and pages.
use Rattle.std.specs.Prelude.{slice_set, ◌-◌, ℕ, suc, zero, ◌+◌, ◌/◌, ◌%◌, ◌<◌, ◌≤◌, ◌==◌, Bool, not, Option, Some, None, List, [], ◌∷◌, ◌++◌, if◌then◌else◌}
use Rattle.std.specs.Ordering.{nat_cmp}
use Rattle.std.specs.Cmp.Lexicographic.{slice_cmp}
use Rattle.std.specs.FinMap as fin
use Rattle.disk_layout.specs.declared.entry.Entry.{Entry}
use Rattle.disk_layout.specs.declared.kind.FileKind.{FileKind}
use Rattle.disk_layout.specs.declared.kind.FileKind.TheVariants.{Scratch, Ascii, SeqCode, ConCode}
use Rattle.disk_layout.specs.Disk.{Disk, disk_of, entry_of, page_at, number_of, marked_of}
use Rattle.disk_layout.specs.Format.{IsAddress, part_count, count_below}

-- the kind that an entry names by a number from 1 to 4
abbrev pub kind_of : ℕ → FileKind
kind_of number =
    if number == 2 then Ascii else if number == 3 then SeqCode else if number == 4 then ConCode else Scratch

pub record File : Type 0 where
  pub kind : FileKind
  pub protected : Bool
  pub pages : List (List ℕ)

-- names in the order of their characters
abbrev pub Files : Type 0
Files = fin.FinMap (slice_cmp nat_cmp) File

-- what the pages with these addresses hold, for so many of them
unfoldable pub pages_named : List (List ℕ) → (ℕ → ℕ) → ℕ → List (List ℕ)
pages_named pages address zero = []
pages_named pages address (suc j) = pages_named pages address j ++ page_at pages (address j) ∷ []

-- the page of the area that has page j, from 0, of the file with this index page
abbrev pub page_of : Disk → ℕ → ℕ → ℕ
page_of d i j = d.number (d.number i (j / 250 + 1)) (j % 250)

abbrev pub first_pages : List (List ℕ) → ℕ → ℕ → List (List ℕ)
first_pages pages i n = pages_named pages (page_of (disk_of pages) i) n

unfoldable pub file_at : List (List ℕ) → Entry → File
file_at pages e = record {
  kind = kind_of e.kind;
  protected = e.protection == 1;
  pages = first_pages pages e.address ((disk_of pages).number e.address 0);
}

abbrev pub with_file : Option (List ℕ × File) → Files → Files
with_file None files = files
with_file (Some named) files = fin.insert files named.0 named.1

-- the file at each place below a bound that has one
unfoldable pub files_below : (ℕ → Option (List ℕ × File)) → ℕ → Files
files_below at zero = fin.empty
files_below at (suc p) = with_file (at p) (files_below at p)

-- the file at a place of the catalogue, by what is read of it from its entry
unfoldable pub named_as : (Entry → File) → List (List ℕ) → ℕ → Option (List ℕ × File)
named_as read pages p = let e = (disk_of pages).entry p in if e.kind == 0 then None else Some (e.name, read e)

abbrev pub named_at : List (List ℕ) → ℕ → Option (List ℕ × File)
named_at pages p = named_as (file_at pages) pages p

-- the files of an area whose pages break no format
abbrev pub files : List (List ℕ) → Files
files pages = files_below (named_at pages) 240

-- how many pages of the area are free: those whose bits are 0
abbrev pub free_count : List (List ℕ) → ℕ
free_count pages = count_below (λ n. not (marked_of pages n)) 4288

-- how many names the catalogue has
abbrev pub name_count : List (List ℕ) → ℕ
name_count pages = count_below (λ p. not ((entry_of pages p).kind == 0)) 240

-- a file with one page more
abbrev pub with_page : File → List ℕ → File
with_page file page = record file { pages = file.pages ++ page ∷ [] }

-- a file whose page n, from 1, is another
abbrev pub with_page_at : File → ℕ → List ℕ → File
with_page_at file n page = record file { pages = slice_set file.pages (n - 1) page }

abbrev pub with_protection : File → Bool → File
with_protection file on = record file { protected = on }

-- the pages of the file with this index page can be reached
pub record HasPages (told : List (List ℕ)) (i : ℕ) : Type 0 where
  pub index : IsAddress i
  pub length : number_of told i 0 ≤ 4000
  pub parts : (k : ℕ) → k < part_count (number_of told i 0) → IsAddress (number_of told i (k + 1))
  pub pages : (j : ℕ) → j < number_of told i 0 → IsAddress (page_of (disk_of told) i j)
