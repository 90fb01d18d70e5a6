-- The page in hand of a command.
use Rattle.std.specs.Prelude.{◌≡◌, ◌≤◌, ◌%◌, ◌^◌, ℕ, zero, suc, Bool, true, false, List, [], ◌∷◌, ◌++◌, map, Option, None, Some}
use Rattle.std.specs.List.{AllByRecursion}
use Rattle.solo_base.specs.Line.{IsLine}
use Rattle.solo_base.specs.declared.item.Item.TheVariants.{Line}
use Rattle.solo_base.specs.declared.page.Page.{Page}
use Rattle.page_codec.specs.Items.{items_bytes}
use Rattle.page_codec.specs.declared.form.TheConstants.{CONTENT_ROOM}
use Rattle.exchange_law.specs.Pages.{bytes_of, page_with, ArePage}
use Rattle.solo_task.specs.Needs.{fits_behind}
use Rattle.solo_work.specs.declared.paper.Paper.{Paper}

-- a command has printed a line where it has put a page, or a line is in hand
abbrev pub has_printed : ℕ → List (List ℕ) → Bool
has_printed zero [] = false
has_printed pages hand = true

-- the command has put so many pages, and these lines are in hand
pub record IsHand (p : Paper) (pages : ℕ) (hand : List (List ℕ)) : Type 0 where
  pub place : p.packer.place ≡ pages % 2 ^ 16
  pub content : p.packer.content ≡ items_bytes (map Line hand)
  pub printed : p.printed ≡ has_printed pages hand
  pub lines : AllByRecursion IsLine hand
  pub fits : bytes_of hand ≤ CONTENT_ROOM

-- a line is printed: it has room behind those in hand, or the page in hand is full, and the line begins the
-- next one
abbrev pub AddsLine : ℕ → List (List ℕ) → List ℕ → Option Page → Paper → Type 0
AddsLine pages hand line None now = (fits_behind hand line ≡ true) × IsHand now pages (hand ++ line ∷ [])
AddsLine pages hand line (Some page) now =
    (fits_behind hand line ≡ false) × (page ≡ page_with pages false hand) × ArePage false hand
    × IsHand now (suc pages) (line ∷ [])
