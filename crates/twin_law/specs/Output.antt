-- 5 output: whole streams in turn, one from each side, up to the stream behind one without items.
use Rattle.std.specs.Prelude.{ℕ, ◌+◌, ◌%◌, ◌^◌, Bool, true, false, not, ◌&&◌, ◌||◌, List, [], ◌∷◌, Option, None, Result, Ok, Err}
use Rattle.solo_base.specs.declared.item.Item.{Item}
use Rattle.solo_base.specs.declared.item.Item.TheVariants.{Line}
use Rattle.solo_base.specs.declared.page.Page.{Page}
use Rattle.solo_base.specs.declared.outcome.Cause.{Cause}
use Rattle.page_codec.specs.declared.judge.BadPage.{BadPage}
use Rattle.page_codec.specs.Reading.{PageContent, page_read}
use Rattle.batch_procs.specs.declared.actions.Reply.{Reply}
use Rattle.batch_procs.specs.Sends.{lines_of}
use Rattle.solo_base.specs.declared.item.Feed.TheVariants as feed
use Rattle.batch_procs.specs.declared.actions.Reply.TheVariants as reply
use Rattle.twin_law.specs.Process.{Aim, PutsFeed, TakesPage, Finishes, Process}
use Rattle.twin_law.specs.Sides.{Twin, A, other, from_job}
use Rattle.twin_law.specs.Job.{damage}

-- the side in turn, how many pages of its stream came, whether one of them had an item, and whether a stream
-- without items came before
pub record Turn : Type 0 where
  pub side : Twin
  pub pages : ℕ
  pub some : Bool
  pub ended : Bool

pub data OutputPlace : Type 0 where
  TakesLines : Turn → OutputPlace
  -- this line and these of a page, before the turn goes on, or before the end
  PutsLine : List ℕ → List (List ℕ) → Turn → Bool → OutputPlace
  PutsOver : OutputPlace
  HasGathered : OutputPlace

abbrev pub output_aims : OutputPlace → Aim
output_aims (TakesLines t) = TakesPage (from_job t.side)
output_aims (PutsLine line later t over) = PutsFeed 6 (feed.Item (Line line))
output_aims PutsOver = PutsFeed 6 feed.End
output_aims HasGathered = Finishes

abbrev pub puts_line : List (List ℕ) → Turn → Bool → OutputPlace
puts_line [] t true = PutsOver
puts_line [] t false = TakesLines t
puts_line (line ∷ later) t over = PutsLine line later t over

abbrev pub is_some : {T : Type 0} → List T → Bool
is_some [] = false
is_some (x ∷ rest) = true

-- the turn behind a page with these items, the last of its stream or not
abbrev pub turn_behind : Turn → Bool → List Item → Turn
turn_behind t false items = record t { pages = t.pages + 1; some = t.some || is_some items }
turn_behind t true items =
    record { side = other t.side; pages = 0; some = false; ended = t.ended || not (t.some || is_some items) }

-- The stream behind one without items is the last of all. A damaged page leaves it where it is.
abbrev pub behind_lines : Turn → Result PageContent BadPage → OutputPlace
behind_lines t (Err bad) = TakesLines t
behind_lines t (Ok content) =
    puts_line (lines_of content.items) (turn_behind t content.last content.items) (content.last && t.ended)

-- the page that is taken next, read at its place in the stream
abbrev pub page_in_turn : Turn → Page → Bool → Result PageContent BadPage
page_in_turn t page last = page_read (t.pages % 2 ^ 16) last page

abbrev pub output_behind : {L : Type 0} → OutputPlace → Reply L → OutputPlace
output_behind (TakesLines t) (reply.Page page last) = behind_lines t (page_in_turn t page last)
output_behind (PutsLine line later t over) reply.Done = puts_line later t over
output_behind PutsOver reply.Done = HasGathered
output_behind at r = at

abbrev pub output_finds : {L : Type 0} → OutputPlace → Reply L → Option Cause
output_finds (TakesLines t) (reply.Page page last) = damage (page_in_turn t page last)
output_finds at r = None

abbrev pub first_turn : Turn
first_turn = record { side = A; pages = 0; some = false; ended = false }

abbrev pub output : {L : Type 0} → Process L
output = record {
  Place = OutputPlace;
  start = TakesLines first_turn;
  aims = output_aims;
  behind = output_behind;
  finds = output_finds;
  works = false;
  buffers = 4 ∷ 5 ∷ 6 ∷ [];
  spools = 4 ∷ 5 ∷ [];
}
