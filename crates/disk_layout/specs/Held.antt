-- How many pages of the area the files hold.
use Rattle.std.specs.Prelude.{ℕ, ◌+◌, List, [], ◌∷◌, length}
use Rattle.std.specs.FinMap as fin
use Rattle.disk_layout.specs.Deleting.{pages_held}
use Rattle.disk_layout.specs.Files.{File, Files}

-- a file holds its pages, a part for every 250 of them, and its index page
abbrev pub held_by : File → ℕ
held_by file = pages_held (length file.pages)

abbrev pub held_in : List (List ℕ × File) → ℕ
held_in [] = 0
held_in (named ∷ others) = held_by named.1 + held_in others

-- what all files hold: an empty one holds 1 page, and one of 251 pages holds 254
abbrev pub held_by_all : Files → ℕ
held_by_all all = held_in (fin.entries all)

-- of the area's 4,288 pages the first 18 are no file's
abbrev pub pages_of_files : ℕ
pages_of_files = 4270
