-- The list functions of the five processes: from all that one took to all that it should put.
use Rattle.std.specs.Prelude.{ℕ, ◌+◌, ◌%◌, ◌^◌, Bool, true, false, List, [], ◌∷◌, ◌++◌, length, drop, map, option_to_list, Result, Ok, Err}
use Rattle.solo_base.specs.declared.item.Item.{Item}
use Rattle.solo_base.specs.declared.item.Item.TheVariants.{Line, Spoiled}
use Rattle.solo_base.specs.declared.item.Feed.{Feed}
use Rattle.solo_base.specs.declared.item.Feed.TheVariants as feed
use Rattle.solo_base.specs.declared.page.Page.{Page}
use Rattle.page_codec.specs.declared.judge.BadPage.{BadPage}
use Rattle.page_codec.specs.Form.{page_of}
use Rattle.page_codec.specs.Packing.{PageInHand, first_page, page_given, hand_after}
use Rattle.page_codec.specs.Reading.{PageContent, page_read}
use Rattle.batch_procs.specs.Jobs.{Jobs}
use Rattle.batch_procs.specs.Parcels.{Parcel, OfFeed, OfPage, OfLine, OfLoad, loads}

-- ---- parcels and what they hold
-- the feeds among them
abbrev pub feeds : {L : Type 0} → List (Parcel L) → List Feed
feeds [] = []
feeds (OfFeed f ∷ rest) = f ∷ feeds rest
feeds (OfPage page last ∷ rest) = feeds rest
feeds (OfLine line ∷ rest) = feeds rest
feeds (OfLoad load ∷ rest) = feeds rest

-- each as a parcel
abbrev pub as_parcels : {L : Type 0} → List Feed → List (Parcel L)
as_parcels [] = []
as_parcels (f ∷ rest) = OfFeed f ∷ as_parcels rest

-- each as a printed line
abbrev pub as_lines : {L : Type 0} → List (List ℕ) → List (Parcel L)
as_lines [] = []
as_lines (line ∷ rest) = OfLine line ∷ as_lines rest

-- each page with this mark
abbrev pub marked : {L : Type 0} → Bool → List Page → List (Parcel L)
marked last [] = []
marked last (page ∷ rest) = OfPage page last ∷ marked last rest

-- ---- a stream of feeds: its items up to the end
abbrev pub has_end : List Feed → Bool
has_end [] = false
has_end (feed.Item item ∷ rest) = has_end rest
has_end (feed.End ∷ rest) = true

-- the items before the end
abbrev pub items : List Feed → List Item
items [] = []
items (feed.Item item ∷ rest) = item ∷ items rest
items (feed.End ∷ rest) = []

-- the end, where it has come
abbrev pub end_if : Bool → List Feed
end_if true = feed.End ∷ []
end_if false = []

-- these items, and the end behind them where it has come
abbrev pub stream : List Item → Bool → List Feed
stream [] ended = end_if ended
stream (item ∷ rest) ended = feed.Item item ∷ stream rest ended

-- ---- packing: a page goes out when an item has no room on it, and the last at the end
abbrev pub packed : {L : Type 0} → PageInHand → List Feed → List (Parcel L)
packed hand [] = []
packed hand (feed.Item item ∷ rest) =
    marked false (option_to_list (page_given hand item)) ++ packed (hand_after hand item) rest
packed hand (feed.End ∷ rest) = OfPage (page_of hand.place true hand.content) true ∷ []

-- ---- unpacking: the items of each page, and the end behind the last; nothing from a damaged page on
abbrev pub items_then : List Item → List Feed → List Feed
items_then [] rest = rest
items_then (item ∷ items) rest = feed.Item item ∷ items_then items rest

-- behind the last page comes the end, and behind another what follows
abbrev pub behind : Bool → List Feed → List Feed
behind true rest = feed.End ∷ []
behind false rest = rest

-- by what the page gave
abbrev pub unpacked_by : Result PageContent BadPage → Bool → List Feed → List Feed
unpacked_by (Ok content) last rest = items_then content.items (behind last rest)
unpacked_by (Err bad) last rest = []

-- of the pages from this place of their stream on; loads are passed over
abbrev pub unpacked : {L : Type 0} → ℕ → List (Parcel L) → List Feed
unpacked place [] = []
unpacked place (OfPage page last ∷ rest) =
    unpacked_by (page_read place last page) last (unpacked ((place + 1) % 2 ^ 16) rest)
unpacked place (OfLoad load ∷ rest) = unpacked place rest
unpacked place (OfFeed f ∷ rest) = []
unpacked place (OfLine line ∷ rest) = []

-- ---- what becomes of the items
-- up to the end and with it
abbrev pub until_end : List Feed → List Feed
until_end all = stream (items all) (has_end all)

-- the lines up to the end; a spoiled item is passed over
abbrev pub lines_of : List Item → List (List ℕ)
lines_of [] = []
lines_of (Line line ∷ rest) = line ∷ lines_of rest
lines_of (Spoiled ∷ rest) = lines_of rest

-- these lines as items, and the end behind them where it has come
abbrev pub lines_stream : List (List ℕ) → Bool → List Feed
lines_stream lines ended = stream (map Line lines) ended

-- ---- the five
abbrev pub card_sends : {L : Type 0} → List (Parcel L) → List (Parcel L)
card_sends taken = as_parcels (until_end (feeds taken))

-- the cards in pages
abbrev pub input_sends : {L : Type 0} → List (Parcel L) → List (Parcel L)
input_sends taken = packed first_page (feeds taken)

-- the lines so far of the items of its pages, up to the first job of a file that isn't loaded yet
abbrev pub job_lines : {L : Type 0} → Jobs L → List Feed → List L → List Feed
job_lines J all found =
    lines_stream (J.lines (items all) found (has_end all)) (J.whole (items all) found (has_end all))

-- of pages of cards and loads, pages of the lines of their jobs
abbrev pub job_sends : {L : Type 0} → Jobs L → List (Parcel L) → List (Parcel L)
job_sends J taken = packed first_page (job_lines J (unpacked 0 taken) (loads taken))

-- the files of its jobs that aren't loaded yet
abbrev pub job_wants : {L : Type 0} → Jobs L → List (Parcel L) → List (List ℕ)
job_wants J taken = drop (length (loads taken)) (J.named (items (unpacked 0 taken)))

-- the lines up to the end and with it
abbrev pub output_lines : List Feed → List Feed
output_lines all = lines_stream (lines_of (items all)) (has_end all)

-- the lines of the pages, and the end
abbrev pub output_sends : {L : Type 0} → List (Parcel L) → List (Parcel L)
output_sends taken = as_parcels (output_lines (unpacked 0 taken))

-- the lines up to the end, printed
abbrev pub printer_sends : {L : Type 0} → List (Parcel L) → List (Parcel L)
printer_sends taken = as_lines (lines_of (items (feeds taken)))
