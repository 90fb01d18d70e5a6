-- 3 and 4 job: stream by stream. Behind each page of a stream it loads the files that the page names, and
-- packs the lines so far; its lines are a stream of their own.
use Rattle.std.specs.Prelude.{ℕ, ◌+◌, ◌%◌, ◌^◌, Bool, true, false, List, [], ◌∷◌, ◌++◌, length, drop, Option, None, Some, Result, Ok, Err}
use Rattle.solo_base.specs.declared.item.Item.{Item}
use Rattle.solo_base.specs.declared.item.Item.TheVariants.{Line}
use Rattle.solo_base.specs.declared.page.Page.{Page}
use Rattle.solo_base.specs.declared.outcome.Cause.{Cause}
use Rattle.page_codec.specs.declared.judge.BadPage.{BadPage}
use Rattle.page_codec.specs.Packing.{PageInHand, first_page, page_given, hand_after}
use Rattle.page_codec.specs.Reading.{PageContent, page_read}
use Rattle.batch_procs.specs.declared.actions.Reply.{Reply}
use Rattle.batch_procs.specs.Jobs.{Jobs}
use Rattle.solo_base.specs.declared.outcome.Cause.TheVariants as cause
use Rattle.batch_procs.specs.declared.actions.Reply.TheVariants as reply
use Rattle.twin_law.specs.Process.{Aim, PutsPage, TakesPage, Loads, Works, Finishes, Process}
use Rattle.twin_law.specs.Sides.{Twin, to_job, from_job}
use Rattle.twin_law.specs.Input.{last_of, empty_page}

-- the stream under way: how many pages came, their items, what the first of the files that these name were
-- loaded as, how many of its lines are packed, and the page of lines in hand
pub record Stream (L : Type 0) : Type 0 where
  pub pages : ℕ
  pub items : List Item
  pub loads : List L
  pub packed : ℕ
  pub hand : PageInHand

abbrev pub no_stream : {L : Type 0} → Stream L
no_stream = record { pages = 0; items = []; loads = []; packed = 0; hand = first_page }

-- each with whether the last page of the stream was taken
pub data JobPlace (L : Type 0) : Type 0 where
  TakesItems : Stream L → JobPlace L
  LoadsFile : List ℕ → Stream L → Bool → JobPlace L
  Toils : Stream L → Bool → JobPlace L
  -- a full page of lines; behind it there is more work
  PutsLines : Page → Stream L → Bool → JobPlace L
  -- the last page of lines, and whether the stream had an item
  PutsLastLines : Page → Bool → JobPlace L
  HasWorked : JobPlace L

abbrev pub job_aims : {L : Type 0} → Twin → JobPlace L → Aim
job_aims side (TakesItems s) = TakesPage (to_job side)
job_aims side (LoadsFile file s last) = Loads file
job_aims side (Toils s last) = Works
job_aims side (PutsLines page s last) = PutsPage (from_job side) page
job_aims side (PutsLastLines page some) = PutsPage (from_job side) page
job_aims side HasWorked = Finishes

-- ---- a page of items
-- the files of its jobs that aren't loaded yet
abbrev pub wanted : {L : Type 0} → Jobs L → Stream L → List (List ℕ)
wanted J s = drop (length s.loads) (J.named s.items)

-- the file that is wanted first is loaded, and behind all of them the work is done
abbrev pub toils : {L : Type 0} → List (List ℕ) → Stream L → Bool → JobPlace L
toils [] s last = Toils s last
toils (file ∷ later) s last = LoadsFile file s last

abbrev pub behind_items : {L : Type 0} → Jobs L → List Item → Stream L → Bool → JobPlace L
behind_items J [] s true = PutsLastLines empty_page false
behind_items J items s last = toils (wanted J s) s last

abbrev pub with_page : {L : Type 0} → Stream L → List Item → Stream L
with_page s items = record s { pages = s.pages + 1; items = s.items ++ items }

-- A damaged page leaves it where it is. A stream without items needs no work.
abbrev pub behind_page : {L : Type 0} → Jobs L → Stream L → Result PageContent BadPage → JobPlace L
behind_page J s (Err bad) = TakesItems s
behind_page J s (Ok content) =
    behind_items J (s.items ++ content.items) (with_page s content.items) content.last

-- the page that is taken next, read at its place in the stream
abbrev pub page_taken : {L : Type 0} → Stream L → Page → Bool → Result PageContent BadPage
page_taken s page last = page_read (s.pages % 2 ^ 16) last page

abbrev pub with_load : {L : Type 0} → Stream L → L → Stream L
with_load s load = record s { loads = s.loads ++ load ∷ [] }

abbrev pub behind_load : {L : Type 0} → Jobs L → Stream L → Bool → JobPlace L
behind_load J s last = toils (wanted J s) s last

-- ---- the work: the next lines are packed until one completes a page, or all of them
pub record Packed : Type 0 where
  pub page : Option Page
  pub packed : ℕ
  pub hand : PageInHand

-- behind a line that gives this page, or none
abbrev pub packed_on : Option Page → PageInHand → ℕ → Packed → Packed
packed_on None hand n behind = behind
packed_on (Some page) hand n behind = record { page = Some page; packed = n; hand = hand }

-- so many lines are packed, and these are ahead
abbrev pub packs_lines : PageInHand → ℕ → List (List ℕ) → Packed
packs_lines hand n [] = record { page = None; packed = n; hand = hand }
packs_lines hand n (line ∷ rest) =
    packed_on (page_given hand (Line line)) (hand_after hand (Line line)) (n + 1)
    (packs_lines (hand_after hand (Line line)) (n + 1) rest)

abbrev pub with_packed : {L : Type 0} → Stream L → ℕ → PageInHand → Stream L
with_packed s n hand = record s { packed = n; hand = hand }

-- behind all lines so far the next page is taken, and behind the last page the last page of lines is put
abbrev pub rests : {L : Type 0} → Stream L → Bool → JobPlace L
rests s true = PutsLastLines (last_of s.hand) true
rests s false = TakesItems s

abbrev pub behind_packed : {L : Type 0} → Stream L → Bool → Option Page → JobPlace L
behind_packed s last None = rests s last
behind_packed s last (Some page) = PutsLines page s last

-- the lines so far that aren't packed yet
abbrev pub lines_ahead : {L : Type 0} → Jobs L → Stream L → Bool → List (List ℕ)
lines_ahead J s last = drop s.packed (J.lines s.items s.loads last)

abbrev pub behind_work : {L : Type 0} → Stream L → Bool → Packed → JobPlace L
behind_work s last p = behind_packed (with_packed s p.packed p.hand) last p.page

-- behind the last page of a stream without items all work is done
abbrev pub next_stream : {L : Type 0} → Bool → JobPlace L
next_stream true = TakesItems no_stream
next_stream false = HasWorked

abbrev pub job_behind : {L : Type 0} → Jobs L → JobPlace L → Reply L → JobPlace L
job_behind J (TakesItems s) (reply.Page page last) = behind_page J s (page_taken s page last)
job_behind J (LoadsFile file s last) (reply.Loaded load) = behind_load J (with_load s load) last
job_behind J (Toils s last) reply.Done =
    behind_work s last (packs_lines s.hand s.packed (lines_ahead J s last))
job_behind J (PutsLines page s last) reply.Done = Toils s last
job_behind J (PutsLastLines page some) reply.Done = next_stream some
job_behind J at r = at

-- ---- a page that isn't the one that was expected
abbrev pub damage : Result PageContent BadPage → Option Cause
damage (Ok content) = None
damage (Err bad) = Some (cause.Damaged bad.expected bad.found bad.at)

abbrev pub job_finds : {L : Type 0} → JobPlace L → Reply L → Option Cause
job_finds (TakesItems s) (reply.Page page last) = damage (page_taken s page last)
job_finds at r = None

abbrev pub job : {L : Type 0} → Jobs L → Twin → Process L
job {L} J side = record {
  Place = JobPlace L;
  start = TakesItems no_stream;
  aims = job_aims side;
  behind = job_behind J;
  finds = job_finds;
  works = true;
  buffers = to_job side ∷ from_job side ∷ [];
  spools = to_job side ∷ from_job side ∷ [];
}
