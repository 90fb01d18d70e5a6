-- What is read from the told pages of a file area: the entries of its catalogue, the numbers of its pages,
-- its bits.
use Rattle.std.specs.Prelude.{ℕ, ◌+◌, ◌*◌, ◌/◌, ◌%◌, Bool, List, take, drop, slice_index_or, []}
use Rattle.solo_base.specs.declared.page.Page.{Page}
use Rattle.disk_pages.specs.Bits.{is_marked}
use Rattle.solo_base.specs.PageBytes.{number_at}
use Rattle.disk_layout.specs.declared.entry.Entry.{Entry}

abbrev pub page_at : List (List ℕ) → ℕ → List ℕ
page_at pages n = slice_index_or pages n []

-- the entry in the 32 bytes from this one on
unfoldable pub entry_in : List ℕ → ℕ → Entry
entry_in bytes at = record {
  name = take 12 (drop at bytes);
  kind = number_at bytes (at + 12);
  address = number_at bytes (at + 14);
  protection = number_at bytes (at + 16);
  key = number_at bytes (at + 28);
  searches = number_at bytes (at + 30);
}

-- pages 1 to 15 have 16 entries each, at the places 0 to 239
abbrev pub entry_page : ℕ → ℕ
entry_page p = 1 + p / 16

abbrev pub entry_byte : ℕ → ℕ
entry_byte p = 32 * (p % 16)

-- what is read: the entry at a place and its spare bytes, number k of a page, and the bit of a page
pub record Disk : Type 0 where
  pub entry : ℕ → Entry
  pub spare : ℕ → List ℕ
  pub number : ℕ → ℕ → ℕ
  pub marked : ℕ → Bool

unfoldable pub number_of : List (List ℕ) → ℕ → ℕ → ℕ
number_of pages n k = number_at (page_at pages n) (2 * k)

unfoldable pub entry_of : List (List ℕ) → ℕ → Entry
entry_of pages p = entry_in (page_at pages (entry_page p)) (entry_byte p)

unfoldable pub spare_of : List (List ℕ) → ℕ → List ℕ
spare_of pages p = take 10 (drop (entry_byte p + 18) (page_at pages (entry_page p)))

abbrev pub as_page : List ℕ → Page
as_page bytes = record { 0 = bytes }

unfoldable pub marked_of : List (List ℕ) → ℕ → Bool
marked_of pages n = is_marked (as_page (page_at pages 16)) (as_page (page_at pages 17)) n

abbrev pub disk_of : List (List ℕ) → Disk
disk_of pages =
    record {
      entry =
          entry_of pages;
      spare = spare_of pages;
      number = number_of pages;
      marked = marked_of pages;
    }
