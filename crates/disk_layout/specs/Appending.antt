-- What an append writes.
use Rattle.std.specs.Prelude.{◌≡◌, ◌≢◌, ℕ, ◌+◌, ◌*◌, ◌/◌, ◌%◌, ◌<◌, ◌≤◌, true, List, length, replicate, slice_index}
use Rattle.std.specs.FinSet as set
use Rattle.disk_pages.specs.Pages.{Pages, IsLeastFree}
use Rattle.solo_base.specs.PageBytes.{number_at}
use Rattle.disk_layout.specs.Format.{IsAddress}
use Rattle.disk_layout.specs.Disk.{page_at, number_of, marked_of}

-- the bit map becomes that of these taken pages, and all other pages stay
pub record SavesMap (pages after : List (List ℕ)) (taken : Pages) : Type 0 where
  pub as_many : length after ≡ length pages
  pub others : (n : ℕ) → n ≢ 16 → n ≢ 17 → page_at after n ≡ page_at pages n
  pub marked : (n : ℕ) → n < 4288 → marked_of after n ≡ set.contains taken n
  pub zeros : (k : ℕ) → 24 ≤ k → slice_index (page_at after 17) k ≡ 0

-- the page f comes into the place `length` of the file with the index page i, whose bytes were those of
-- `index`, in the part page q, whose bytes are to be those of `part` besides
pub record AppendWrites (pages after : List (List ℕ)) (taken : Pages) (i q f count : ℕ)
    (old_index old_part page : List ℕ) : Type 0 where
  pub as_many : length after ≡ length pages
  pub file : page_at after f ≡ page
  pub named : number_of after q (count % 250) ≡ f
  pub part_kept : (j : ℕ) → j ≢ count % 250 → number_of after q j ≡ number_at old_part (2 * j)
  pub length : number_of after i 0 ≡ count + 1
  pub index : number_of after i (count / 250 + 1) ≡ q
  pub index_kept : (k : ℕ) → k ≢ 0 → k ≢ count / 250 + 1 → number_of after i k ≡ number_at old_index (2 * k)
  pub others : (n : ℕ) → n ≢ f → n ≢ q → n ≢ i → n ≢ 16 → n ≢ 17 → page_at after n ≡ page_at pages n
  pub marked : (n : ℕ) → n < 4288 → marked_of after n ≡ set.contains taken n
  pub zeros : (k : ℕ) → 24 ≤ k → slice_index (page_at after 17) k ≡ 0

-- the part page that the new page comes into: a new one, or the file's last
pub data PartFor (pages : List (List ℕ)) (taken : Pages) (i count : ℕ) (q : ℕ) (part : List ℕ)
    (with_part : Pages) : Type 0 where
  Fresh : count % 250 ≡ 0 → IsLeastFree taken q → with_part ≡ set.insert taken q → part ≡ replicate 512 0
      → PartFor pages taken i count q part with_part
  There : count % 250 ≢ 0 → q ≡ number_of pages i (count / 250 + 1) → with_part ≡ taken
      → part ≡ page_at pages q → PartFor pages taken i count q part with_part

-- An append to a file with so many pages: the least free page becomes its next, and where a new part begins
-- the one before becomes the part.
pub record Appends (pages after : List (List ℕ)) (taken taken_then : Pages) (i count : ℕ)
    (old_index page : List ℕ) : Type 0 where
  pub part_page : ℕ
  pub file_page : ℕ
  pub with_part : Pages
  pub part : List ℕ
  pub part_free : IsAddress part_page
  pub file_free : IsAddress file_page
  pub part_for : PartFor pages taken i count part_page part with_part
  pub least : IsLeastFree with_part file_page
  pub taken_is : taken_then ≡ set.insert with_part file_page
  pub writes : AppendWrites pages after taken_then i part_page file_page count old_index part page

-- the file with this index page, whose pages are taken, can be appended to
pub record MayGrow (pages : List (List ℕ)) (taken : Pages) (i : ℕ) : Type 0 where
  pub as_many : length pages ≡ 4288
  pub index : IsAddress i
  pub index_taken : set.contains taken i ≡ true
  pub part : number_of pages i 0 % 250 ≢ 0 → IsAddress (number_of pages i (number_of pages i 0 / 250 + 1))
  pub part_taken : number_of pages i 0 % 250 ≢ 0
      → set.contains taken (number_of pages i (number_of pages i 0 / 250 + 1)) ≡ true
  pub apart : number_of pages i 0 % 250 ≢ 0 → i ≢ number_of pages i (number_of pages i 0 / 250 + 1)
