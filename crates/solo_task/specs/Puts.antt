-- When a program's PUT is refused.
use Rattle.std.specs.Prelude.{◌≡◌, ◌⊎◌, ◌↔◌, ◌<◌, ◌≤◌, ◌+◌, ℕ, true, List, length, None, ℤ, pos, negsuc}
use Rattle.disk_layout.specs.Files.{File}
use Rattle.disk_files.specs.Answers.{pages_needed}
use Rattle.program_task.specs.OpenFiles.{put_in}

-- it is no page of a file with so many, and not the next behind them
abbrev pub HasNoPage : ℤ → ℕ → Type 0
HasNoPage (pos p) count = (p ≡ 0) ⊎ (count + 1 < p)
HasNoPage (negsuc p) count = Unit {0}

-- the file is full, or too few pages are free for one page more
abbrev pub LacksRoom : ℕ → ℕ → Type 0
LacksRoom unused count = (4000 ≤ count) ⊎ (unused < pages_needed count)

abbrev pub IsRefused : ℕ → File → ℤ → Type 0
IsRefused unused file p =
    (file.protected ≡ true) ⊎ HasNoPage p (length file.pages)
    ⊎ ((p ≡ pos (length file.pages + 1)) × LacksRoom unused (length file.pages))

-- A page is put, unless the file is protected, it has no such page, or there is no room behind its last one.
abbrev pub PutsAreRefusedSo : Type 0
PutsAreRefusedSo =
    (unused : ℕ) (file : File) (p : ℤ) (page : List ℕ)
    → (put_in unused file p page ≡ None) ↔ IsRefused unused file p
