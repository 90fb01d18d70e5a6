-- Lines that a command prints, up to the next page that is full.
use Rattle.std.specs.Prelude.{◌≡◌, ℕ, suc, false, List, [], drop, Option, None, Some}
use Rattle.solo_base.specs.declared.page.Page.{Page}
use Rattle.disk_layout.specs.Files.{Files}
use Rattle.exchange_law.specs.Pages.{page_with, ArePage}
use Rattle.program_task.specs.Task.{Gives, prints_all}
use Rattle.solo_task.specs.Answers.{Doing}
use Rattle.solo_task.specs.Needs.{PageNeeded, EndNeeded, Idle, GoesOn, comes_to, needs}
use Rattle.solo_work.specs.declared.paper.Paper.{Paper}
use Rattle.solo_work.specs.Paper.{IsHand}

-- the lines from a place on are printed, and then it is answered
abbrev pub prints_then : List (List ℕ) → ℕ → List (List ℕ) → Doing
prints_then lines next answers = prints_all (drop next lines) (Gives answers)

-- all are printed, and these are in hand
pub record PrintsAll (lines : List (List ℕ)) (next pages : ℕ) (hand : List (List ℕ)) (now : Paper)
    : Type 0 where
  pub last : List (List ℕ)
  pub is : (all : Files) (answers : List (List ℕ)) → comes_to hand all (prints_then lines next answers)
      ≡ needs (EndNeeded last answers) all Idle
  pub hand_is : IsHand now pages last

-- a page is full, and what is left is printed behind it
pub record PrintsPage (lines : List (List ℕ)) (next pages : ℕ) (hand : List (List ℕ)) (page : Page)
    (next_now : ℕ) (now : Paper) : Type 0 where
  pub full : List (List ℕ)
  pub begun : List (List ℕ)
  pub is : (all : Files) (answers : List (List ℕ)) → comes_to hand all (prints_then lines next answers)
      ≡ needs (PageNeeded full) all (GoesOn begun (prints_then lines next_now answers))
  pub page_is : page ≡ page_with pages false full
  pub fits : ArePage false full
  pub hand_is : IsHand now (suc pages) begun

abbrev pub PrintsOn : List (List ℕ) → ℕ → ℕ → List (List ℕ) → Option Page → ℕ → Paper → Type 0
PrintsOn lines next pages hand None next_now now = PrintsAll lines next pages hand now
PrintsOn lines next pages hand (Some page) next_now now = PrintsPage lines next pages hand page next_now now
