-- What the buffers of an exchange hand over, and the streams that the pages in them are.
use Rattle.std.specs.Prelude.{◌≡◌, ℕ, suc, Bool, true, false, List, [], ◌∷◌, ◌++◌}
use Rattle.solo_base.specs.declared.page.Page.{Page}
use Rattle.solo_base.specs.declared.system_call.Arg.{Arg}
use Rattle.solo_base.specs.declared.system_call.Arg.TheVariants as arg
use Rattle.exchange_law.specs.Pages.{is_last, page_with, ArePage, page_gives, items_read, lines_of}

pub data Parcel : Type 0 where
  OfArg : Arg → Parcel
  OfPage : Page → Parcel

-- Nil dismisses who serves: it is the last of the orders, as a page may be the last of its stream.
abbrev pub is_nil : Arg → Bool
is_nil arg.Nil = true
is_nil other = false

abbrev pub mark : Parcel → Bool
mark (OfArg a) = is_nil a
mark (OfPage page) = is_last page

-- ---- streams: behind a last page a new one begins
abbrev pub count_behind : Bool → ℕ → ℕ
count_behind true n = 0
count_behind false n = suc n

-- the lines of pages that are taken in order, behind so many of the first stream
abbrev pub stream_lines : ℕ → List Parcel → List (List ℕ)
stream_lines n [] = []
stream_lines n (OfPage page ∷ rest) =
    lines_of (items_read (page_gives n page)) ++ stream_lines (count_behind (is_last page) n) rest
stream_lines n (OfArg a ∷ rest) = stream_lines n rest

-- how many pages of the last stream are behind them
abbrev pub count_after : ℕ → List Parcel → ℕ
count_after n [] = n
count_after n (OfPage page ∷ rest) = count_after (count_behind (is_last page) n) rest
count_after n (OfArg a ∷ rest) = count_after n rest

-- It has the number that its place says, is the last or isn't, and has lines that fill it.
pub record IsNumbered (n : ℕ) (last : Bool) (page : Page) : Type 0 where
  pub lines : List (List ℕ)
  pub is : page ≡ page_with n last lines
  pub are : ArePage last lines

-- Each page is so.
abbrev pub AreNumbered : ℕ → List Parcel → Type 0
AreNumbered n [] = Unit {0}
AreNumbered n (OfPage page ∷ rest) =
    IsNumbered n (is_last page) page × AreNumbered (count_behind (is_last page) n) rest
AreNumbered n (OfArg a ∷ rest) = AreNumbered n rest
