-- Reading a page from left to right.
use Rattle.std.specs.Prelude.{ℕ, zero, suc, ◌+◌, Bool, false, ◌&&◌, ◌||◌, not, List, [], ◌∷◌, length, take, drop, slice_index, Option, Some, None, Result, Ok, Err, nat_le, ◌==◌, if◌then◌else◌}
use Rattle.std.specs.List.{list_all}
use Rattle.solo_base.specs.Line.{is_printable}
use Rattle.solo_base.specs.declared.item.Item.{Item}
use Rattle.solo_base.specs.declared.item.Item.TheVariants.{Line, Spoiled}
use Rattle.solo_base.specs.declared.page.Page.{Page}
use Rattle.page_codec.specs.declared.form.TheConstants.{HEADER_LENGTH, CONTENT_ROOM, LEAST_FULL}
use Rattle.page_codec.specs.declared.judge.BadPage.{BadPage}
use Rattle.page_codec.specs.Form.{mark}
use Rattle.solo_base.specs.PageBytes.{number_at}
use Rattle.page_codec.specs.Places.{content_length, content_of}

-- the first byte of an item, with what follows it, begins a whole item
abbrev pub begins_item : ℕ → List ℕ → Bool
begins_item first rest =
    first == 255 || (nat_le first 132 && nat_le first (length rest) && list_all is_printable (take first rest))

-- how many bytes of an item follow its first
abbrev pub characters : ℕ → ℕ
characters first = if first == 255 then 0 else first

abbrev pub item_at : ℕ → List ℕ → Item
item_at first rest = if first == 255 then Spoiled else Line (take first rest)

-- the items of the bytes, after some bytes that are passed over
abbrev pub items_after : ℕ → List ℕ → List Item
items_after passed [] = []
items_after (suc passed) (byte ∷ rest) = items_after passed rest
items_after zero (byte ∷ rest) = item_at byte rest ∷ items_after (characters byte) rest

-- the first of these items is a line that begins with this character
abbrev pub begins_with : ℕ → List Item → Bool
begins_with character [] = false
begins_with character (Spoiled ∷ more) = false
begins_with character (Line [] ∷ more) = false
begins_with character (Line (first ∷ line) ∷ more) = first == character

-- the place of the first that isn't a whole item, of bytes from a place on
abbrev pub bad_item_after : ℕ → ℕ → List ℕ → Option ℕ
bad_item_after at passed [] = None
bad_item_after at (suc passed) (byte ∷ rest) = bad_item_after (at + 1) passed rest
bad_item_after at zero (byte ∷ rest) =
    if begins_item byte rest then bad_item_after (at + 1) (characters byte) rest else Some at

-- the place of the first byte that isn't 0, of bytes from a place on
abbrev pub first_other_than_zero : ℕ → List ℕ → Option ℕ
first_other_than_zero at [] = None
first_other_than_zero at (byte ∷ rest) = if byte == 0 then first_other_than_zero (at + 1) rest else Some at

abbrev pub or_else : Option ℕ → Option ℕ → Option ℕ
or_else None other = other
or_else (Some at) other = Some at

abbrev pub has_length : Bool → ℕ → Bool
has_length last length = nat_le length CONTENT_ROOM && (last || nat_le LEAST_FULL length)

-- the first place that is wrong behind the header, in a page with so many bytes of items
abbrev pub bad_body : ℕ → List ℕ → Option ℕ
bad_body length bytes =
    or_else (bad_item_after HEADER_LENGTH 0 (take length (drop HEADER_LENGTH bytes)))
    (first_other_than_zero (HEADER_LENGTH + length) (drop (HEADER_LENGTH + length) bytes))

-- the first place that is wrong
abbrev pub bad_place : ℕ → Bool → List ℕ → Option ℕ
bad_place expected last bytes =
    if not (number_at bytes 0 == expected) then Some 0
    else if not (slice_index bytes 2 == mark last) then Some 2
    else if not (slice_index bytes 3 == 0) then Some 3
    else if not (has_length last (content_length bytes)) then Some 4
    else bad_body (content_length bytes) bytes

-- the items of a page, and whether it is the last
pub record PageContent : Type 0 where
  pub items : List Item
  pub last : Bool

-- the items that are left of a page that was read
abbrev pub items_left : Option PageContent → List Item
items_left None = []
items_left (Some content) = content.items

abbrev pub content_or_bad : ℕ → Bool → List ℕ → Option ℕ → Result PageContent BadPage
content_or_bad expected last bytes None = Ok (record { items = items_after 0 (content_of bytes); last = last })
content_or_bad expected last bytes (Some at) = Err (record { expected = expected; found = number_at bytes 0; at = at })

-- what a page gives where one with this number and this mark is expected
abbrev pub page_read : ℕ → Bool → Page → Result PageContent BadPage
page_read expected last page = content_or_bad expected last page.0 (bad_place expected last page.0)
