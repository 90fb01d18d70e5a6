-- Streams of pages, and the history of an unpacker.
use Rattle.std.specs.Prelude.{◌≡◌, ℕ, ◌+◌, ◌%◌, ◌^◌, Bool, true, false, List, [], ◌∷◌, ◌++◌, length, Result, Ok, Err}
use Rattle.solo_base.specs.declared.item.Item.{Item}
use Rattle.solo_base.specs.declared.page.Page.{Page}
use Rattle.page_codec.specs.declared.judge.BadPage.{BadPage}
use Rattle.page_codec.specs.Form.{IsPage}
use Rattle.page_codec.specs.Reading.{PageContent}

-- Pages from a place of a stream on hold these items: each is in the form with its place, and the
-- last of them, and no other, is marked as the last.
abbrev pub IsStream : ℕ → List Page → List Item → Type 0
IsStream place [] items = ⊥
IsStream place (page ∷ []) items = IsPage place true items page
IsStream place (page ∷ next ∷ rest) items =
    (front : List Item) × (left : List Item) × (items ≡ front ++ left) × IsPage place false front page
    × IsStream (place + 1) (next ∷ rest) left

-- an unpacker, as its callers see it: the number of the page that it expects, and whether the last
-- page was taken
pub record Awaited : Type 0 where
  pub place : ℕ
  pub ended : Bool

abbrev pub at_the_first : Awaited
at_the_first = record { place = 0; ended = false }

-- what it awaits after a page that was handed in with this mark: the next one, where it took this one
abbrev pub awaited_after : Awaited → Bool → Result PageContent BadPage → Awaited
awaited_after awaited last (Ok content) = record { place = (awaited.place + 1) % 2 ^ 16; ended = last }
awaited_after awaited last (Err bad) = awaited

-- what can still come: the rest of the stream, or after the last page nothing
abbrev pub ContinuesFrom : ℕ → Bool → List Page → List Item → Type 0
ContinuesFrom place false pages items = IsStream place pages items
ContinuesFrom place true pages items = (pages ≡ []) × (items ≡ [])

abbrev pub Continues : Awaited → List Page → List Item → Type 0
Continues awaited pages items = ContinuesFrom awaited.place awaited.ended pages items

-- The history of an unpacker: it took these pages and gave these items. However the stream goes on,
-- its items are those that were given and those that can still come.
pub record HasTaken (awaited : Awaited) (pages : List Page) (items : List Item) : Type 0 where
  pub place : awaited.place ≡ length pages % 2 ^ 16
  pub goes_on : (more : List Page) (rest : List Item) → Continues awaited more rest
      → IsStream 0 (pages ++ more) (items ++ rest)
  pub nothing_else : (more : List Page) (all : List Item) → IsStream 0 (pages ++ more) all
      → (rest : List Item) × (all ≡ items ++ rest) × Continues awaited more rest
