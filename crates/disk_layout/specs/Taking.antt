-- Which pages a call takes, by the bits of the pages before and after it.
use Rattle.std.specs.Prelude.{◌≡◌, ◌≢◌, ℕ, ◌+◌, ◌/◌, ◌%◌, ◌<◌, ◌||◌, ◌==◌, Bool, true, false, List}
use Rattle.disk_layout.specs.Disk.{disk_of, entry_of, marked_of, number_of}
use Rattle.disk_layout.specs.Files.{page_of}

-- the page n is taken, the least whose bit is 0, and all other bits stay
pub record TakesLeast (before now : ℕ → Bool) (n : ℕ) : Type 0 where
  pub within : n < 4288
  pub free : before n ≡ false
  pub least : (m : ℕ) → m < n → before m ≡ true
  pub marked : (m : ℕ) → m < 4288 → now m ≡ ((m == n) || before m)

-- the file of this name has this index page
pub record HasIndex (pages : List (List ℕ)) (name : List ℕ) (index : ℕ) : Type 0 where
  pub place : ℕ
  pub inside : place < 240
  pub used : (entry_of pages place).kind ≢ 0
  pub named : (entry_of pages place).name ≡ name
  pub address : (entry_of pages place).address ≡ index

-- a new file's index page
pub record TakesIndex (pages after : List (List ℕ)) (name : List ℕ) : Type 0 where
  pub index : ℕ
  pub indexed : HasIndex after name index
  pub taken : TakesLeast (marked_of pages) (marked_of after) index

-- A new page of a file with so many: every 250 pages the part for it is taken first, and then the page
-- itself.
pub record TakesNext (pages after : List (List ℕ)) (name : List ℕ) (count : ℕ) : Type 0 where
  pub index : ℕ
  pub indexed : HasIndex after name index
  pub between : ℕ → Bool
  pub part : count % 250 ≡ 0 → TakesLeast (marked_of pages) between (number_of after index (count / 250 + 1))
  pub same_part : count % 250 ≢ 0 → (m : ℕ) → m < 4288 → between m ≡ marked_of pages m
  pub page : TakesLeast between (marked_of after) (page_of (disk_of after) index count)
