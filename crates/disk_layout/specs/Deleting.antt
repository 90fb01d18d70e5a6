-- The taken pages without those of a file.
use Rattle.std.specs.Prelude.{ℕ, suc, zero, ◌+◌}
use Rattle.std.specs.FinSet as set
use Rattle.disk_pages.specs.Pages.{Pages}
use Rattle.disk_layout.specs.Disk.{Disk}
use Rattle.disk_layout.specs.Format.{part_count, count_in_part}

-- without the first so many of these pages
unfoldable pub given_back : Pages → (ℕ → ℕ) → ℕ → Pages
given_back taken address zero = taken
given_back taken address (suc j) = set.remove (given_back taken address j) (address j)

-- without a part page, and so many of the pages that it names
abbrev pub without_part : Pages → Disk → ℕ → ℕ → Pages
without_part taken d q count = set.remove (given_back taken (d.number q) count) q

-- without the first k parts of the file with this index page
unfoldable pub without_parts : Pages → Disk → ℕ → ℕ → Pages
without_parts taken d i zero = taken
without_parts taken d i (suc k) = without_part (without_parts taken d i k) d (d.number i (k + 1))
    (count_in_part (d.number i 0) k)

abbrev pub without_file : Pages → Disk → ℕ → Pages
without_file taken d i = set.remove (without_parts taken d i (part_count (d.number i 0))) i

-- how many pages a file of so many takes: these, a part for every 250, and its index page
abbrev pub pages_held : ℕ → ℕ
pages_held count = count + part_count count + 1
