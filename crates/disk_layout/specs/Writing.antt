-- What the writes of an entry of the catalogue change.
use Rattle.std.specs.Prelude.{◌≡◌, ◌≢◌, ℕ, ◌+◌, ◌-◌, ◌<◌, ◌≤◌, ◌⊎◌, ◌==◌, List, length, take, drop, replicate, cond, slice_index, slice_index_or}
use Rattle.std.specs.FinSet as set
use Rattle.disk_pages.specs.Pages.{Pages}
use Rattle.disk_layout.specs.Format.{key_of}
use Rattle.disk_layout.specs.Layout.{blank_entry}
use Rattle.disk_layout.specs.declared.entry.Entry.{Entry}
use Rattle.disk_layout.specs.Disk.{entry_in, entry_of, spare_of, entry_page, page_at, marked_of}

-- the 32 bytes from this one on hold the entry, with the spare bytes as they were, and all other entries stay
pub record WritesEntry (at : ℕ) (entry : Entry) (old new : List ℕ) : Type 0 where
  pub as_many : length new ≡ length old
  pub is : entry_in new at ≡ entry
  pub spare : take 10 (drop (at + 18) new) ≡ take 10 (drop (at + 18) old)
  pub others : (other : ℕ) → (other + 32 ≤ at) ⊎ (at + 32 ≤ other) → entry_in new other ≡ entry_in old other
  pub other_spare : (other : ℕ) → (other + 32 ≤ at) ⊎ (at + 32 ≤ other)
      → take 10 (drop (other + 18) new) ≡ take 10 (drop (other + 18) old)

-- the entry at a place becomes this one, and nothing else changes
pub record EntryWritten (pages after : List (List ℕ)) (p : ℕ) (entry : Entry) : Type 0 where
  pub as_many : length after ≡ length pages
  pub is : entry_of after p ≡ entry
  pub entries : (k : ℕ) → k < 240 → k ≢ p → entry_of after k ≡ entry_of pages k
  pub spares : (k : ℕ) → k < 240 → spare_of after k ≡ spare_of pages k
  pub others : (n : ℕ) → n ≢ entry_page p → page_at after n ≡ page_at pages n

-- the entries in memory after a name was put into the place p: the entry is there, and the search length at
-- the place of its key is one more
pub record PutsName (kept kept_now : List Entry) (p : ℕ) (new : Entry) : Type 0 where
  pub places : length kept_now ≡ length kept
  pub here : slice_index_or kept_now p blank_entry
      ≡ record new { searches = (slice_index_or kept_now p blank_entry).searches }
  pub beside : (k : ℕ) → k < 240 → k ≢ p
      → slice_index_or kept_now k blank_entry ≡ record (slice_index_or kept k blank_entry) {
        searches =
            (slice_index_or kept_now k blank_entry).searches;
      }
  pub searches : (k : ℕ) → k < 240
      → (slice_index_or kept_now k blank_entry).searches
      ≡ (slice_index_or kept k blank_entry).searches + cond (new.key == k + 1) 1 0

-- the same but for the search lengths, of which nothing is said
pub record PutsEntry (kept kept_now : List Entry) (p : ℕ) (new : Entry) : Type 0 where
  pub here : slice_index_or kept_now p blank_entry
      ≡ record new { searches = (slice_index_or kept_now p blank_entry).searches }
  pub beside : (k : ℕ) → k ≢ p
      → slice_index_or kept_now k blank_entry ≡ record (slice_index_or kept k blank_entry) {
        searches =
            (slice_index_or kept_now k blank_entry).searches;
      }

-- the entry of no file, at a place with this search length
abbrev pub unnamed : ℕ → Entry
unnamed searches =
    record { name = replicate 12 0; kind = 0; address = 0; protection = 0; key = 0; searches = searches }

-- the entries in memory after the name at the place p was cleared: no file is there, and the search length at
-- the place of its key is one less
pub record ClearsName (kept kept_now : List Entry) (p : ℕ) : Type 0 where
  pub places : length kept_now ≡ length kept
  pub here : slice_index_or kept_now p blank_entry ≡ unnamed (slice_index_or kept_now p blank_entry).searches
  pub beside : (k : ℕ) → k < 240 → k ≢ p
      → slice_index_or kept_now k blank_entry ≡ record (slice_index_or kept k blank_entry) {
        searches =
            (slice_index_or kept_now k blank_entry).searches;
      }
  pub searches : (k : ℕ) → k < 240
      → (slice_index_or kept k blank_entry).searches
      ≡ (slice_index_or kept_now k blank_entry).searches
      + cond ((slice_index_or kept p blank_entry).key == k + 1) 1 0

-- the pages after writes to the catalogue and the bit map: the entries and the bits are those in memory
pub record CatalogueWrites (pages after : List (List ℕ)) (kept : List Entry) (taken : Pages) : Type 0 where
  pub as_many : length after ≡ length pages
  pub first : page_at after 0 ≡ page_at pages 0
  pub entries : (k : ℕ) → k < 240 → slice_index_or kept k blank_entry ≡ entry_of after k
  pub spares : (k : ℕ) → k < 240 → spare_of after k ≡ spare_of pages k
  pub others : (n : ℕ) → 18 ≤ n → page_at after n ≡ page_at pages n
  pub marked : (n : ℕ) → n < 4288 → marked_of after n ≡ set.contains taken n
  pub zeros : (k : ℕ) → 24 ≤ k → slice_index (page_at after 17) k ≡ 0

-- the pages after a file was created with this index page: the entries and the bits are those in memory
pub record CreateWrites (pages after : List (List ℕ)) (kept : List Entry) (taken : Pages)
    (index : ℕ) : Type 0 where
  pub as_many : length after ≡ length pages
  pub first : page_at after 0 ≡ page_at pages 0
  pub entries : (k : ℕ) → k < 240 → slice_index_or kept k blank_entry ≡ entry_of after k
  pub spares : (k : ℕ) → k < 240 → spare_of after k ≡ spare_of pages k
  pub blank : page_at after index ≡ replicate 512 0
  pub others : (n : ℕ) → 18 ≤ n → n ≢ index → page_at after n ≡ page_at pages n
  pub marked : (n : ℕ) → n < 4288 → marked_of after n ≡ set.contains taken n
  pub zeros : (k : ℕ) → 24 ≤ k → slice_index (page_at after 17) k ≡ 0

-- the first place without a file from one place on, and then from the first place on
pub record IsFirstEmpty (entries : List Entry) (from p : ℕ) : Type 0 where
  pub empty : (slice_index_or entries p blank_entry).kind ≡ 0
  pub behind : from ≤ p → (k : ℕ) → from ≤ k → k < p → (slice_index_or entries k blank_entry).kind ≢ 0
  pub round : p < from → (k : ℕ) → k < length entries → (k < p) ⊎ (from ≤ k)
      → (slice_index_or entries k blank_entry).kind ≢ 0

-- the entries in memory after the file at the place p was renamed: its name is cleared, and then the new one
-- is put into the first empty place from that of its key on
pub record IsRenamed (kept kept_now : List Entry) (p : ℕ) (name : List ℕ) : Type 0 where
  pub between : List Entry
  pub cleared : ClearsName kept between p
  pub to : ℕ
  pub first : IsFirstEmpty between (key_of name - 1) to
  pub put : PutsName between kept_now to
      (record (slice_index_or kept p blank_entry) { name = name; key = key_of name })
