-- What an area of format 1 becomes in format 2: each map page is the index page of its file, with new parts.
use Rattle.std.specs.Prelude.{◌≡◌, ◌≢◌, ℕ, ◌+◌, ◌*◌, ◌<◌, ◌≤◌, ◌⊎◌, ◌↔◌, true, false, List, length, slice_index}
use Rattle.disk_layout.specs.Disk.{disk_of, entry_of, marked_of, number_of, page_at, spare_of}
use Rattle.disk_layout.specs.Format.{IsAddress, count_in_part, label, part_count}
use Rattle.disk_layout.specs.Layout.{HasFile}

-- the map page of the file at a place, and how many pages the file has
abbrev pub map_at : List (List ℕ) → ℕ → ℕ
map_at pages p = (entry_of pages p).address

abbrev pub mapped_at : List (List ℕ) → ℕ → ℕ
mapped_at pages p = number_of pages (map_at pages p) 0

-- part k of the file at a place is there
pub record NeedsPart (pages : List (List ℕ)) (p k : ℕ) : Type 0 where
  pub file : HasFile (disk_of pages) p
  pub below : k < part_count (mapped_at pages p)

-- the page that became part k of the file at a place
abbrev pub new_part : List (List ℕ) → List (List ℕ) → ℕ → ℕ → ℕ
new_part pages after p k = number_of after (map_at pages p) (k + 1)

pub record MadeNewer (pages after : List (List ℕ)) : Type 0 where
  pub as_many : length after ≡ length pages
  pub first : page_at after 0 ≡ label
  pub entries : (p : ℕ) → p < 240 → entry_of after p ≡ entry_of pages p
  pub spares : (p : ℕ) → p < 240 → spare_of after p ≡ spare_of pages p
  pub lengths : (p : ℕ) → HasFile (disk_of pages) p → number_of after (map_at pages p) 0 ≡ mapped_at pages p
  pub index_rest : (p k : ℕ) → HasFile (disk_of pages) p → part_count (mapped_at pages p) < k → k < 256
      → number_of after (map_at pages p) k ≡ 0
  pub numbers : (p k j : ℕ) → NeedsPart pages p k → j < count_in_part (mapped_at pages p) k
      → number_of after (new_part pages after p k) j ≡ number_of pages (map_at pages p) (250 * k + j + 1)
  pub part_rest : (p k j : ℕ) → NeedsPart pages p k → count_in_part (mapped_at pages p) k ≤ j → j < 256
      → number_of after (new_part pages after p k) j ≡ 0
  pub free : (p k : ℕ) → NeedsPart pages p k → IsAddress (new_part pages after p k)
  pub new : (p k : ℕ) → NeedsPart pages p k → marked_of pages (new_part pages after p k) ≡ false
  pub apart : (p k other part : ℕ) → NeedsPart pages p k → NeedsPart pages other part
      → new_part pages after p k ≡ new_part pages after other part → (p ≡ other) × (k ≡ part)
  pub others : (n : ℕ) → 18 ≤ n → ((p : ℕ) → HasFile (disk_of pages) p → n ≢ map_at pages p)
      → ((p k : ℕ) → NeedsPart pages p k → n ≢ new_part pages after p k) → page_at after n ≡ page_at pages n
  pub marked : (n : ℕ) → n < 4288 → (marked_of after n ≡ true)
      ↔ ((marked_of pages n ≡ true)
      ⊎ ((p : ℕ) × (k : ℕ) × NeedsPart pages p k × (n ≡ new_part pages after p k)))
  pub zeros : (k : ℕ) → 24 ≤ k → slice_index (page_at after 17) k ≡ 0
