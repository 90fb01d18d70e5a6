-- Lines on pages: how many a page takes, what a page gives that comes behind so many, and the pages of lines.
use Rattle.std.specs.Prelude.{◌≡◌, ◌≤◌, ℕ, zero, suc, ◌%◌, ◌^◌, ◌==◌, not, Bool, true, false, if◌then◌else◌, List, [], ◌∷◌, ◌++◌, length, map, nat_le, Option, None, Some, slice_index, Result, Ok, Err}
use Rattle.solo_base.specs.declared.item.Item.{Item}
use Rattle.solo_base.specs.declared.item.Item.TheVariants.{Line, Spoiled}
use Rattle.solo_base.specs.declared.page.Page.{Page}
use Rattle.solo_base.specs.declared.outcome.Cause.{Cause}
use Rattle.solo_base.specs.declared.outcome.Cause.TheVariants as cause
use Rattle.page_codec.specs.declared.form.TheConstants.{CONTENT_ROOM, LEAST_FULL}
use Rattle.page_codec.specs.declared.judge.BadPage.{BadPage}
use Rattle.page_codec.specs.Form.{page_of}
use Rattle.page_codec.specs.Items.{items_bytes, AreItems}
use Rattle.page_codec.specs.Reading.{PageContent, page_read}

-- whether a page is the last of its stream
abbrev pub is_last : Page → Bool
is_last page = not (slice_index page.0 2 == 0)

-- how many bytes lines take on a page
abbrev pub bytes_of : List (List ℕ) → ℕ
bytes_of lines = length (items_bytes (map Line lines))

-- whether a line has room behind those in hand
abbrev pub has_room_for : List (List ℕ) → List ℕ → Bool
has_room_for hand line = nat_le (bytes_of (hand ++ line ∷ [])) CONTENT_ROOM

-- the page with these lines, behind so many of its stream
abbrev pub page_with : ℕ → Bool → List (List ℕ) → Page
page_with pages last lines = page_of (pages % 2 ^ 16) last (items_bytes (map Line lines))

-- Lines that are a page: where it isn't the last, with no room for a line more.
pub record ArePage (last : Bool) (lines : List (List ℕ)) : Type 0 where
  pub valid : AreItems (map Line lines)
  pub fits : bytes_of lines ≤ CONTENT_ROOM
  pub full : last ≡ false → LEAST_FULL ≤ bytes_of lines

-- the pages of lines, behind so many of their stream and with these in hand: the last one may be empty
abbrev pub pages_of : ℕ → List (List ℕ) → List (List ℕ) → List Page
pages_of n hand [] = page_with n true hand ∷ []
pages_of n hand (line ∷ rest) =
    if has_room_for hand line then pages_of n (hand ++ line ∷ []) rest
    else page_with n false hand ∷ pages_of (suc n) (line ∷ []) rest

-- the last page behind so many, where it printed a line
abbrev pub last_page : ℕ → List (List ℕ) → Option Page
last_page zero [] = None
last_page pages printed = Some (page_with pages true printed)

-- ---- a page that is taken
-- what a page gives that comes behind so many
abbrev pub page_gives : ℕ → Page → Result PageContent BadPage
page_gives pages page = page_read (pages % 2 ^ 16) (is_last page) page

abbrev pub items_read : Result PageContent BadPage → List Item
items_read (Ok content) = content.items
items_read (Err bad) = []

abbrev pub damage : Result PageContent BadPage → Option Cause
damage (Ok content) = None
damage (Err bad) = Some (cause.Damaged bad.expected bad.found bad.at)

-- a spoiled item is passed over
abbrev pub lines_of : List Item → List (List ℕ)
lines_of [] = []
lines_of (Line line ∷ rest) = line ∷ lines_of rest
lines_of (Spoiled ∷ rest) = lines_of rest
