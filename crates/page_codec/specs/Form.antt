-- The form of a spool page.
use Rattle.std.specs.Prelude.{◌≡◌, ℕ, ◌-◌, ◌≤◌, Bool, true, false, List, ◌∷◌, ◌++◌, length, replicate}
use Rattle.solo_base.specs.declared.item.Item.{Item}
use Rattle.solo_base.specs.declared.page.Page.{Page}
use Rattle.solo_base.specs.PageBytes.{number_bytes}
use Rattle.page_codec.specs.declared.form.TheConstants.{CONTENT_ROOM, LEAST_FULL}
use Rattle.page_codec.specs.Items.{items_bytes, AreItems}

-- byte 2: 1 for the last page
abbrev pub mark : Bool → ℕ
mark true = 1
mark false = 0

-- its place in the stream modulo 65,536, its mark, 0, the length of its content, the content, zeros
abbrev pub page_bytes : ℕ → Bool → List ℕ → List ℕ
page_bytes place last content =
    number_bytes place ++ mark last ∷ 0 ∷ number_bytes (length content)
    ++ content ++ replicate (CONTENT_ROOM - length content) 0

abbrev pub page_of : ℕ → Bool → List ℕ → Page
page_of place last content = record { 0 = page_bytes place last content }

-- this page stands at this place of a stream, is the last one or isn't, and holds these items
pub record IsPage (place : ℕ) (last : Bool) (items : List Item) (page : Page) : Type 0 where
  pub valid : AreItems items
  pub fits : length (items_bytes items) ≤ CONTENT_ROOM
  -- a page that isn't the last was too full for one item more
  pub full : last ≡ false → LEAST_FULL ≤ length (items_bytes items)
  pub spelled : page ≡ page_of place last (items_bytes items)
