-- The job process: it accepts a line, and meets the needs of its command in order.
use Rattle.std.specs.Prelude.{ℕ, zero, suc, ◌+◌, Bool, true, false, List, [], ◌∷◌, ◌++◌, Option, None, codes}
use Rattle.solo_base.specs.Blanks.{trimmed}
use Rattle.solo_base.specs.Ident.{padded}
use Rattle.solo_base.specs.declared.item.Item.{Item}
use Rattle.solo_base.specs.declared.item.Item.TheVariants.{Line, Spoiled}
use Rattle.solo_base.specs.declared.item.Feed.TheVariants as feed
use Rattle.solo_base.specs.declared.page.Page.{Page}
use Rattle.solo_base.specs.declared.system_call.Arg.{Arg}
use Rattle.solo_base.specs.declared.system_call.Arg.TheVariants as arg
use Rattle.solo_base.specs.declared.outcome.Outcome.TheVariants as outcome
use Rattle.solo_base.specs.declared.outcome.Cause.{Cause}
use Rattle.solo_devices.specs.declared.card_read.CardRead.{CardRead}
use Rattle.solo_devices.specs.declared.card_read.CardRead.TheVariants as read
use Rattle.exchange_law.specs.Pages.{is_last, page_with, page_gives, items_read, lines_of, damage}
use Rattle.place_law.specs.Process.{Process}
use Rattle.solo_law.specs.Work.{Given, OfLine, OfCards, OfTyped, OfNothing, Work, Need, CardsNeeded, LineNeeded, DisplayNeeded, PageNeeded, EndNeeded}
use Rattle.solo_law.specs.Actions.{Action, Reply}
use Rattle.solo_law.specs.Actions as act
use Rattle.solo_law.specs.Buffers.{call}

-- the orders that go to the input and to the output process
abbrev pub cards_order : Arg
cards_order = arg.Id (padded (codes "CARDS"))

abbrev pub printer_order : Arg
printer_order = arg.Id (padded (codes "PRINTER"))

-- what comes behind a page: the command goes on, or it ends with these answers
pub data Behind : Type 0 where
  GoesOn : Behind
  EndsWith : List (List ℕ) → Behind

pub data JobPlace : Type 0 where
  Listens : JobPlace
  -- a piece of work is to be done
  Toils : Work → JobPlace
  -- a card file: it is ordered, its pages are taken, so many so far with these items, and then the report;
  -- the command has put so many pages
  OrdersCards : ℕ → JobPlace
  TakesCards : ℕ → List Item → ℕ → JobPlace
  TakesReport : List Item → ℕ → JobPlace
  -- a line more, of a program
  Accepts : ℕ → JobPlace
  -- this line is displayed
  Displays : List ℕ → ℕ → JobPlace
  -- a page is put, the first of a command behind an order
  OrdersPrinter : Page → Behind → JobPlace
  PutsPage : Page → Behind → ℕ → JobPlace
  -- the report, with these answers behind it
  TakesPrinted : List (List ℕ) → JobPlace
  -- this line and these behind it answer the command
  AnswersLine : List ℕ → List (List ℕ) → JobPlace
  -- the end of what is typed
  DismissesInput : JobPlace
  DismissesOutput : JobPlace
  HasLeft : JobPlace

abbrev pub job_does : JobPlace → Action
job_does Listens = act.Accept
job_does (Toils work) = act.Works work
job_does (OrdersCards pages) = act.PutArg 1 cards_order
job_does (TakesCards taken items pages) = act.TakePage 2
job_does (TakesReport items pages) = act.TakeArg 3
job_does (Accepts pages) = act.Accept
job_does (Displays line pages) = act.Display line
job_does (OrdersPrinter page behind) = act.PutArg 4 printer_order
job_does (PutsPage page behind pages) = act.PutPage 5 page
job_does (TakesPrinted answers) = act.TakeArg 6
job_does (AnswersLine line later) = act.Display line
job_does DismissesInput = act.PutArg 1 arg.Nil
job_does DismissesOutput = act.PutArg 4 arg.Nil
job_does HasLeft = act.Ended outcome.Done

abbrev pub works : Given → ℕ → JobPlace
works given pages = Toils (record { given = given; pages = pages })

abbrev pub answers : List (List ℕ) → JobPlace
answers [] = Listens
answers (line ∷ later) = AnswersLine line later

-- ---- what a need asks for
-- the first page of a command goes behind an order
abbrev pub puts_page : ℕ → Page → Behind → JobPlace
puts_page zero page behind = OrdersPrinter page behind
puts_page (suc pages) page behind = PutsPage page behind (suc pages)

-- the last page is put where a line was printed
abbrev pub ends : ℕ → List (List ℕ) → List (List ℕ) → JobPlace
ends zero [] lines = answers lines
ends pages printed lines = puts_page pages (page_with pages true printed) (EndsWith lines)

abbrev pub meets : ℕ → Need → JobPlace
meets pages CardsNeeded = OrdersCards pages
meets pages LineNeeded = Accepts pages
meets pages (DisplayNeeded line) = Displays line pages
meets pages (PageNeeded printed) = puts_page pages (page_with pages false printed) GoesOn
meets pages (EndNeeded printed lines) = ends pages printed lines

-- ---- behind each answer
-- a blank line is passed over
abbrev pub begins_with : List ℕ → List ℕ → JobPlace
begins_with [] line = Listens
begins_with (code ∷ more) line = works (OfLine (Line line)) 0

abbrev pub behind_typed : CardRead → JobPlace
behind_typed (read.Card line) = begins_with (trimmed line) line
behind_typed read.Spoiled = works (OfLine Spoiled) 0
behind_typed read.End = DismissesInput
behind_typed other = Listens

abbrev pub behind_accepted : ℕ → CardRead → JobPlace
behind_accepted pages (read.Card line) = works (OfTyped (feed.Item (Line line))) pages
behind_accepted pages read.Spoiled = works (OfTyped (feed.Item Spoiled)) pages
behind_accepted pages read.End = works (OfTyped feed.End) pages
behind_accepted pages other = Accepts pages

abbrev pub behind_cards : Bool → ℕ → List Item → ℕ → JobPlace
behind_cards true taken items pages = TakesReport items pages
behind_cards false taken items pages = TakesCards taken items pages

-- the card file of these items, by the report: TRUE where no card is spoiled
abbrev pub file_of : List Item → Arg → Given
file_of items (arg.Bool true) = OfCards (lines_of items) false
file_of items other = OfCards (lines_of items) true

abbrev pub behind_put : Behind → ℕ → JobPlace
behind_put GoesOn pages = works OfNothing pages
behind_put (EndsWith lines) pages = TakesPrinted lines

abbrev pub job_behind : JobPlace → Reply → JobPlace
job_behind Listens (act.OfCard answer) = behind_typed answer
job_behind (Toils work) (act.Found need) = meets work.pages need
job_behind (OrdersCards pages) act.Done = TakesCards 0 [] pages
job_behind (TakesCards taken items pages) (act.OfPage page) =
    behind_cards (is_last page) (taken + 1) (items ++ items_read (page_gives taken page)) pages
job_behind (TakesReport items pages) (act.OfArg report) = works (file_of items report) pages
job_behind (Accepts pages) (act.OfCard answer) = behind_accepted pages answer
job_behind (Displays line pages) act.Done = works OfNothing pages
job_behind (OrdersPrinter page behind) act.Done = PutsPage page behind 0
job_behind (PutsPage page behind pages) act.Done = behind_put behind (suc pages)
job_behind (TakesPrinted lines) (act.OfArg report) = answers lines
job_behind (AnswersLine line later) act.Done = answers later
job_behind DismissesInput act.Done = DismissesOutput
job_behind DismissesOutput act.Done = HasLeft
job_behind at reply = at

-- a page out of form
abbrev pub job_finds : JobPlace → Reply → Option Cause
job_finds (TakesCards taken items pages) (act.OfPage page) = damage (page_gives taken page)
job_finds at reply = None

abbrev pub job : Process Action Reply
job = record {
  Place = JobPlace;
  start = Listens;
  does = job_does;
  behind = job_behind;
  finds = job_finds;
  may_lack = true;
  calls = call 2;
  buffers = 1 ∷ 2 ∷ 3 ∷ 4 ∷ 5 ∷ 6 ∷ [];
}
