-- What the work on jobs was told, and what came of it.
use Rattle.std.specs.Prelude.{◌≡◌, ℕ, Bool, true, false, List, [], ◌∷◌, ◌++◌, length, drop, Option, Some, None}
use Rattle.solo_base.specs.declared.item.Item.{Item}
use Rattle.solo_base.specs.declared.page.Page.{Page}
use Rattle.page_codec.specs.Packing.{PageInHand}
use Rattle.page_codec.specs.Pushes.{hand_behind, PushesUpTo}
use Rattle.page_codec.specs.Reading.{PageContent}
use Rattle.batch_procs.specs.Jobs.{Jobs}

-- the items of the pages that it was fed, and whether the last page was among them; what the first of the
-- files that these name were loaded as; the lines that were pushed; and whether all lines of the items so far
-- were pushed
pub record JobTold (L : Type 0) : Type 0 where
  pub items : List Item
  pub ended : Bool
  pub loads : List L
  pub pushed : List (List ℕ)
  pub rests : Bool

abbrev pub nothing_told : {L : Type 0} → JobTold L
nothing_told = record { items = []; ended = false; loads = []; pushed = []; rests = true }

-- with the items of the next page
abbrev pub with_page : {L : Type 0} → JobTold L → PageContent → JobTold L
with_page told content =
    record told { items = told.items ++ content.items; ended = content.last; rests = false }

-- with what was found of the file that is wanted first
abbrev pub with_found : {L : Type 0} → JobTold L → L → JobTold L
with_found told load = record told { loads = told.loads ++ load ∷ [] }

-- nothing is left to be pushed where no push gave a page
abbrev pub rests_behind : Option Page → Bool
rests_behind None = true
rests_behind (Some page) = false

-- with lines that were pushed, up to one that gave a page, or all
abbrev pub with_lines : {L : Type 0} → JobTold L → List (List ℕ) → Option Page → JobTold L
with_lines told lines page = record told { pushed = told.pushed ++ lines; rests = rests_behind page }

-- the files of its jobs that aren't loaded yet
abbrev pub wanted : {L : Type 0} → Jobs L → JobTold L → List (List ℕ)
wanted J told = drop (length told.loads) (J.named told.items)

-- the file that is wanted first
abbrev pub first_of : List (List ℕ) → Option (List ℕ)
first_of [] = None
first_of (file ∷ later) = Some file

-- The next lines are pushed until a push gives a page, which goes out. Where none does, all lines of the
-- items so far are pushed.
pub record PushesLines {L : Type 0} (J : Jobs L) (now : JobTold L → Type 0) (told : JobTold L)
    (hand : PageInHand) (page : Option Page) (hand_then : PageInHand) : Type 0 where
  pub lines : List (List ℕ)
  pub pushes : PushesUpTo hand lines page
  pub in_hand : hand_then ≡ hand_behind hand lines
  pub left : List (List ℕ)
  pub next : J.lines told.items told.loads told.ended ≡ (told.pushed ++ lines) ++ left
  pub all : page ≡ None → left ≡ []
  pub keeps : now (with_lines told lines page)
