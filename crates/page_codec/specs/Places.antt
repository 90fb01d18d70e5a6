-- What can be wrong with a page, and where: the places are those of its bytes.
use Rattle.std.specs.Prelude.{◌≡◌, ◌≢◌, ℕ, ◌+◌, ◌≤◌, ◌<◌, Bool, List, [], ◌++◌, length, take, drop, slice_index}
use Rattle.solo_base.specs.declared.item.Item.{Item}
use Rattle.solo_base.specs.PageBytes.{number_at}
use Rattle.page_codec.specs.declared.form.TheConstants.{HEADER_LENGTH, CONTENT_ROOM, LEAST_FULL}
use Rattle.page_codec.specs.Items.{item_bytes, items_bytes, IsItem, AreItems}
use Rattle.page_codec.specs.Form.{mark}

-- the length of the content, as bytes 4 and 5 give it
abbrev pub content_length : List ℕ → ℕ
content_length bytes = number_at bytes 4

abbrev pub content_of : List ℕ → List ℕ
content_of bytes = take (content_length bytes) (drop HEADER_LENGTH bytes)

-- A byte of the content begins an item that isn't one: there are items before it, and none is at
-- the front of what is left.
pub record IsBadItem (content : List ℕ) (at : ℕ) : Type 0 where
  pub before : List Item
  pub left : List ℕ
  pub valid : AreItems before
  pub cut : content ≡ items_bytes before ++ left
  pub place : at ≡ HEADER_LENGTH + length (items_bytes before)
  pub some : left ≢ []
  pub none_begins : (item : Item) (more : List ℕ) → IsItem item → left ≡ item_bytes item ++ more → ⊥

-- this place is wrong, where the page with this number and this mark is expected
pub data IsWrong (expected : ℕ) (last : Bool) (bytes : List ℕ) (at : ℕ) : Type 0 where
  other_number : at ≡ 0 → number_at bytes 0 ≢ expected → IsWrong expected last bytes at
  other_mark : at ≡ 2 → slice_index bytes 2 ≢ mark last → IsWrong expected last bytes at
  not_zero : at ≡ 3 → slice_index bytes 3 ≢ 0 → IsWrong expected last bytes at
  too_long : at ≡ 4 → CONTENT_ROOM < content_length bytes → IsWrong expected last bytes at
  not_full : at ≡ 4 → slice_index bytes 2 ≡ 0 → content_length bytes < LEAST_FULL
      → IsWrong expected last bytes at
  bad_item : IsBadItem (content_of bytes) at → IsWrong expected last bytes at
  not_blank : HEADER_LENGTH + content_length bytes ≤ at → at < length bytes → slice_index bytes at ≢ 0
      → IsWrong expected last bytes at

-- the least place that is wrong
pub record IsLeastWrong (expected : ℕ) (last : Bool) (bytes : List ℕ) (at : ℕ) : Type 0 where
  pub wrong : IsWrong expected last bytes at
  pub least : (before : ℕ) → before < at → IsWrong expected last bytes before → ⊥
