-- A process calls at the six buffers alone, and stops each of its own once.
use Rattle.std.proofs.Common.{◌≡◌, ℕ, List, Option, None, Some, refl, subst, lit≤}
use Rattle.std.specs.List.{AllByRecursion}
use Rattle.network_law.specs.Acts.{At, Visit}
use Rattle.network_law.specs.Network.{IsOne}
use Rattle.solo_base.specs.declared.outcome.Side.{Side}
use Rattle.solo_base.specs.declared.outcome.Outcome.{Outcome}
use Rattle.batch_procs.specs.Jobs.{Jobs}
use Rattle.solo_base.specs.declared.outcome.Outcome.TheVariants as outcome
use Rattle.twin_law.specs.Process.{Action, PutFeed, TakeFeed, AwaitRoom, AwaitItem, Request, PutPage, TakePage, Load, Release, Stop, Ended, Entry, Aim, Reads, PutsFeed, TakesFeed, PutsPage, TakesPage, Loads, Works, Prints, Finishes, place, aim, caused, has_ended, newest, begins, moves, working, closes, Closing, closing_by, closing, next_by, next_action}
use Rattle.twin_law.specs.Sides.{Twin, A, B, other, to_job, from_job}
use Rattle.twin_law.specs.Ends.{CardPlace, ReadsCard, PutsCard, PutsEnd, HasPut, card_aims, PrinterPlace, TakesLine, PrintsLine, HasPrinted, printer_aims}
use Rattle.twin_law.specs.Input.{InputPlace, Takes, PutsFull, PutsLast, PutsEmptyA, PutsEmptyB, HasDealt, input_aims}
use Rattle.twin_law.specs.Job.{JobPlace, TakesItems, LoadsFile, Toils, PutsLines, PutsLastLines, HasWorked, job_aims}
use Rattle.twin_law.specs.Output.{OutputPlace, TakesLines, PutsLine, PutsOver, HasGathered, output_aims}
use Rattle.twin_law.specs.Table.{process}
use Rattle.twin_law.specs.Twin.{call, twin, IsBuffer}
use Rattle.twin_law.proofs.Lawful.{Closes, closes-down, each-process, unless-some}

-- ---- where one aims
abbrev Numbered : Aim → Type 0
Numbered (PutsFeed b f) = IsBuffer b
Numbered (TakesFeed b) = IsBuffer b
Numbered (PutsPage b page) = IsBuffer b
Numbered (TakesPage b) = IsBuffer b
Numbered m = Unit {0}

one : IsBuffer 1
one = (lit≤ tt, lit≤ tt)

six : IsBuffer 6
six = (lit≤ tt, lit≤ tt)

to-one : (side : Twin) → IsBuffer (to_job side)
to-one A = (lit≤ tt, lit≤ tt)
to-one B = (lit≤ tt, lit≤ tt)

from-one : (side : Twin) → IsBuffer (from_job side)
from-one A = (lit≤ tt, lit≤ tt)
from-one B = (lit≤ tt, lit≤ tt)

card-numbered : (x : CardPlace) → Numbered (card_aims x)
card-numbered ReadsCard = tt
card-numbered (PutsCard item) = one
card-numbered PutsEnd = one
card-numbered HasPut = tt

input-numbered : (x : InputPlace) → Numbered (input_aims x)
input-numbered (Takes side inside hand) = one
input-numbered (PutsFull side inside page hand) = to-one side
input-numbered (PutsLast side page opener) = to-one side
input-numbered (PutsEmptyA side) = to-one A
input-numbered (PutsEmptyB side) = to-one B
input-numbered HasDealt = tt

job-numbered : {L : Type 0} (side : Twin) (x : JobPlace L) → Numbered (job_aims side x)
job-numbered side (TakesItems s) = to-one side
job-numbered side (LoadsFile file s last) = tt
job-numbered side (Toils s last) = tt
job-numbered side (PutsLines page s last) = from-one side
job-numbered side (PutsLastLines page some) = from-one side
job-numbered side HasWorked = tt

output-numbered : (x : OutputPlace) → Numbered (output_aims x)
output-numbered (TakesLines t) = from-one t.side
output-numbered (PutsLine line later t over) = six
output-numbered PutsOver = six
output-numbered HasGathered = tt

printer-numbered : (x : PrinterPlace) → Numbered (printer_aims x)
printer-numbered TakesLine = six
printer-numbered (PrintsLine line) = tt
printer-numbered HasPrinted = tt

-- ---- what it does
abbrev AtBuffer : Action → Type 0
AtBuffer (PutFeed b f) = IsBuffer b
AtBuffer (TakeFeed b) = IsBuffer b
AtBuffer (AwaitRoom b) = IsBuffer b
AtBuffer (AwaitItem b) = IsBuffer b
AtBuffer (PutPage b page) = IsBuffer b
AtBuffer (TakePage b) = IsBuffer b
AtBuffer (Stop b) = IsBuffer b
AtBuffer a = Unit {0}

begins-at : (m : Aim) → Numbered m → AtBuffer (begins m)
begins-at Reads is = tt
begins-at (PutsFeed b f) is = is
begins-at (TakesFeed b) is = is
begins-at (PutsPage b page) is = is
begins-at (TakesPage b) is = is
begins-at (Loads file) is = tt
begins-at Works is = tt
begins-at (Prints line) is = tt
begins-at Finishes is = tt

moves-at : (m : Aim) → Numbered m → AtBuffer (moves m)
moves-at (PutsPage b page) is = is
moves-at (TakesPage b) is = is
moves-at (Loads file) is = tt
moves-at m is = tt

working-at : (n : Option Action) (m : Aim) → Numbered m → AtBuffer (working n m)
working-at (Some (AwaitRoom b)) m is = tt
working-at (Some (AwaitItem b)) m is = tt
working-at (Some Request) m is = moves-at m is
working-at (Some (PutPage b page)) m is = tt
working-at (Some (TakePage b)) m is = tt
working-at (Some (Load file)) m is = tt
working-at n m is = begins-at m is

closes-at : {L : Type 0} (h : List (Entry L)) (a : Action) → Closes IsBuffer h a → AtBuffer a
closes-at h (Stop c) is = is.0.is
closes-at h (Ended how) is = tt
closes-at h Release is = tt
closes-at h a is = absurd is

call-at : (p : ℕ) (a : Action) (b : ℕ) (side : Side) (visit : Visit) → AtBuffer a → call p a ≡ At b side visit → IsBuffer b
call-at p (PutFeed c f) b side visit is e = (let same : c ≡ b = cc in subst IsBuffer same is)
call-at p (TakeFeed c) b side visit is e = (let same : c ≡ b = cc in subst IsBuffer same is)
call-at p (AwaitRoom c) b side visit is e = (let same : c ≡ b = cc in subst IsBuffer same is)
call-at p (AwaitItem c) b side visit is e = (let same : c ≡ b = cc in subst IsBuffer same is)
call-at p (PutPage c page) b side visit is e = (let same : c ≡ b = cc in subst IsBuffer same is)
call-at p (TakePage c) b side visit is e = (let same : c ≡ b = cc in subst IsBuffer same is)
call-at p (Stop c) b side visit is e = (let same : c ≡ b = cc in subst IsBuffer same is)
call-at p a b side visit is e = absurd cc

module _ {L : Type 0} (J : Jobs L) where
  abbrev NumberedAt : ℕ → Type 0
  NumberedAt p = (x : (process J p).Place) → Numbered ((process J p).aims x)

  numbered-at : (p : ℕ) → IsOne (twin J) p → NumberedAt p
  numbered-at p is = each-process J NumberedAt p is card-numbered input-numbered (job-numbered A) (job-numbered B) output-numbered printer-numbered

  abbrev BothNumbered : ℕ → Type 0
  BothNumbered p = AllByRecursion IsBuffer (process J p).buffers × AllByRecursion IsBuffer (process J p).spools

  both-numbered : (p : ℕ) → IsOne (twin J) p → BothNumbered p
  both-numbered p is =
      each-process J BothNumbered p is ((one, tt), tt) ((one, (to-one A, (to-one B, tt))), (to-one A, (to-one B, tt)))
      ((to-one A, (from-one A, tt)), (to-one A, (from-one A, tt))) ((to-one B, (from-one B, tt)), (to-one B, (from-one B, tt)))
      ((from-one A, (from-one B, (six, tt))), (from-one A, (from-one B, tt))) ((six, tt), tt)

  stops-numbered : (p : ℕ) (cause : Option Outcome) (m : Aim) (c : Closing) → IsOne (twin J) p → closing_by (process J p) cause m ≡ Some c → AllByRecursion IsBuffer c.stops
  stops-numbered p (Some how) m c is e =
      subst (λ (c : Closing). AllByRecursion IsBuffer c.stops) (let same : record { stops = (process J p).buffers; how = how } ≡ c = cc in same) (both-numbered p is).0
  stops-numbered p None Finishes c is e =
      subst (λ (c : Closing). AllByRecursion IsBuffer c.stops) (let same : record { stops = (process J p).spools; how = outcome.Done } ≡ c = cc in same) (both-numbered p is).1
  stops-numbered p None other c is e = absurd cc

  next-by-at : (p : ℕ) (h : List (Entry L)) (c : Option Closing) → IsOne (twin J) p → closing (process J p) h ≡ c → AtBuffer (next_by (process J p) c h)
  next-by-at p h None is e = working-at (newest h) (aim (process J p) h) (numbered-at p is (place (process J p) h))
  next-by-at p h (Some c) is e =
      closes-at h (closes c.stops c.how h) (closes-down c.stops IsBuffer c.how h (stops-numbered p (caused (process J p) h) (aim (process J p) h) c is e))

  pub calls-at : (p : ℕ) (h : List (Entry L)) (a : Action) (b : ℕ) (side : Side) (visit : Visit) → IsOne (twin J) p → next_action (process J p) h ≡ Some a
      → call p a ≡ At b side visit → IsBuffer b
  calls-at p h a b side visit is next e =
      call-at p a b side visit
      (subst AtBuffer (unless-some (has_ended h) (next_by (process J p) (closing (process J p) h) h) a next).1 (next-by-at p h (closing (process J p) h) is refl)) e
