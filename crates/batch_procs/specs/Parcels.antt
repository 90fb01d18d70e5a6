-- What processes hand over.
use Rattle.std.specs.Prelude.{◌≡◌, ℕ, Bool, true, false, not, ◌==◌, ◌||◌, List, [], ◌∷◌, slice_index}
use Rattle.solo_base.specs.declared.item.Feed.{Feed}
use Rattle.solo_base.specs.declared.item.Feed.TheVariants as feed
use Rattle.solo_base.specs.declared.page.Page.{Page}

-- What a process takes or puts: what a line buffer hands over, a page with its mark, a line that is printed,
-- or what a file is loaded as.
pub data Parcel (L : Type 0) : Type 0 where
  OfFeed : Feed → Parcel L
  OfPage : Page → Bool → Parcel L
  OfLine : List ℕ → Parcel L
  OfLoad : L → Parcel L

-- the mark of a last page: its byte 2 isn't 0
abbrev pub mark : Page → Bool
mark page = not (slice_index page.0 2 == 0)

-- whether what a line buffer hands over is the end
abbrev pub is_the_end : Feed → Bool
is_the_end (feed.Item item) = false
is_the_end feed.End = true

-- whether it is the last of its stream
abbrev pub is_last : {L : Type 0} → Parcel L → Bool
is_last (OfFeed f) = is_the_end f
is_last (OfPage page last) = last
is_last (OfLine line) = false
is_last (OfLoad load) = false

-- whether the last is among them
abbrev pub is_ended : {L : Type 0} → List (Parcel L) → Bool
is_ended [] = false
is_ended (parcel ∷ rest) = is_last parcel || is_ended rest

-- the pages among them
abbrev pub pages : {L : Type 0} → List (Parcel L) → List Page
pages [] = []
pages (OfPage page last ∷ rest) = page ∷ pages rest
pages (OfFeed f ∷ rest) = pages rest
pages (OfLine line ∷ rest) = pages rest
pages (OfLoad load ∷ rest) = pages rest

-- the loads among them
abbrev pub loads : {L : Type 0} → List (Parcel L) → List L
loads [] = []
loads (OfLoad load ∷ rest) = load ∷ loads rest
loads (OfFeed f ∷ rest) = loads rest
loads (OfPage page last ∷ rest) = loads rest
loads (OfLine line ∷ rest) = loads rest

-- those that a buffer, or the deck, handed over: all but the loads
abbrev pub handed : {L : Type 0} → List (Parcel L) → List (Parcel L)
handed [] = []
handed (OfLoad load ∷ rest) = handed rest
handed (OfFeed f ∷ rest) = OfFeed f ∷ handed rest
handed (OfPage page last ∷ rest) = OfPage page last ∷ handed rest
handed (OfLine line ∷ rest) = OfLine line ∷ handed rest

-- ---- kinds
abbrev pub IsAFeed : {L : Type 0} → Parcel L → Type 0
IsAFeed (OfFeed f) = Unit {0}
IsAFeed (OfPage page last) = ⊥
IsAFeed (OfLine line) = ⊥
IsAFeed (OfLoad load) = ⊥

-- a page with its mark
abbrev pub IsAPage : {L : Type 0} → Parcel L → Type 0
IsAPage (OfFeed f) = ⊥
IsAPage (OfPage page last) = Unit {0}
IsAPage (OfLine line) = ⊥
IsAPage (OfLoad load) = ⊥

-- a line that is printed
abbrev pub IsALine : {L : Type 0} → Parcel L → Type 0
IsALine (OfFeed f) = ⊥
IsALine (OfPage page last) = ⊥
IsALine (OfLine line) = Unit {0}
IsALine (OfLoad load) = ⊥

-- a page carries its own mark, and a load is never put
abbrev pub IsMarked : {L : Type 0} → Parcel L → Type 0
IsMarked (OfFeed f) = Unit {0}
IsMarked (OfPage page last) = mark page ≡ last
IsMarked (OfLine line) = Unit {0}
IsMarked (OfLoad load) = ⊥

-- ---- lists of them
-- nothing comes behind the last
abbrev pub NothingBehind : {L : Type 0} → List (Parcel L) → Type 0
NothingBehind [] = Unit {0}
NothingBehind (parcel ∷ rest) = (is_last parcel ≡ true → rest ≡ []) × NothingBehind rest
