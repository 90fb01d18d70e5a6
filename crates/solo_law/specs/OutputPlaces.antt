-- The output process: it waits for an order, prints the lines of each page up to the last, and reports.
use Rattle.std.specs.Prelude.{ℕ, ◌+◌, Bool, true, false, List, [], ◌∷◌, Option, None}
use Rattle.solo_base.specs.declared.system_call.Arg.{Arg}
use Rattle.solo_base.specs.declared.system_call.Arg.TheVariants as arg
use Rattle.solo_base.specs.declared.outcome.Outcome.TheVariants as outcome
use Rattle.solo_base.specs.declared.outcome.Cause.{Cause}
use Rattle.exchange_law.specs.Pages.{is_last, page_gives, items_read, lines_of, damage}
use Rattle.place_law.specs.Process.{Process}
use Rattle.solo_law.specs.Actions.{Action, Reply}
use Rattle.solo_law.specs.Actions as act
use Rattle.solo_law.specs.Buffers.{call}

pub data OutputPlace : Type 0 where
  AwaitsPrinting : OutputPlace
  -- of a stream of which it took so many pages
  TakesPage : ℕ → OutputPlace
  -- this line and these behind it, of the last page or of another one; so many pages were taken
  PrintsLine : List ℕ → List (List ℕ) → Bool → ℕ → OutputPlace
  ReportsPrinted : OutputPlace
  IsDone : OutputPlace

abbrev pub output_does : OutputPlace → Action
output_does AwaitsPrinting = act.TakeArg 4
output_does (TakesPage pages) = act.TakePage 5
output_does (PrintsLine line later last pages) = act.Print line
output_does ReportsPrinted = act.PutArg 6 (arg.Bool true)
output_does IsDone = act.Ended outcome.Done

abbrev pub behind_page : Bool → ℕ → OutputPlace
behind_page true pages = ReportsPrinted
behind_page false pages = TakesPage pages

abbrev pub prints : List (List ℕ) → Bool → ℕ → OutputPlace
prints [] last pages = behind_page last pages
prints (line ∷ later) last pages = PrintsLine line later last pages

abbrev pub behind_printing : Arg → OutputPlace
behind_printing arg.Nil = IsDone
behind_printing other = TakesPage 0

abbrev pub output_behind : OutputPlace → Reply → OutputPlace
output_behind AwaitsPrinting (act.OfArg a) = behind_printing a
output_behind (TakesPage pages) (act.OfPage page) =
    prints (lines_of (items_read (page_gives pages page))) (is_last page) (pages + 1)
output_behind (PrintsLine line later last pages) act.Done = prints later last pages
output_behind ReportsPrinted act.Done = AwaitsPrinting
output_behind at reply = at

-- a page out of form
abbrev pub output_finds : OutputPlace → Reply → Option Cause
output_finds (TakesPage pages) (act.OfPage page) = damage (page_gives pages page)
output_finds at reply = None

abbrev pub output : Process Action Reply
output = record {
  Place = OutputPlace;
  start = AwaitsPrinting;
  does = output_does;
  behind = output_behind;
  finds = output_finds;
  may_lack = false;
  calls = call 3;
  buffers = 4 ∷ 5 ∷ 6 ∷ [];
}
