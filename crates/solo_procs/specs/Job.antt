-- Which place of the law the job process stands at.
use Rattle.std.specs.Prelude.{◌≡◌, ℕ, zero, suc, ◌%◌, ◌^◌, Bool, true, false, List, [], drop, None, Some}
use Rattle.solo_base.specs.declared.system_call.Arg.{Arg}
use Rattle.solo_base.specs.declared.system_call.Arg.TheVariants as arg
use Rattle.exchange_law.specs.Pages.{lines_of}
use Rattle.place_law.specs.Process.{Entry}
use Rattle.solo_law.specs.Work.{Work, Plan, NeedFits}
use Rattle.solo_law.specs.Work as law
use Rattle.solo_law.specs.Actions.{Action, Reply}
use Rattle.solo_law.specs.Devices.{plan_behind}
use Rattle.solo_law.specs.JobPlaces.{job, JobPlace, Listens, Toils, OrdersCards, TakesCards, TakesReport, Accepts, Displays, OrdersPrinter, PutsPage, TakesPrinted, AnswersLine, DismissesInput, DismissesOutput, HasLeft, Behind, GoesOn, EndsWith}
use Rattle.solo_procs.specs.declared.actions.SoloReply.{SoloReply}
use Rattle.solo_procs.specs.declared.actions.SoloReply.TheVariants as hear
use Rattle.solo_procs.specs.declared.commands.Need.{Need}
use Rattle.solo_procs.specs.declared.machine.Machine.{Machine}
use Rattle.solo_procs.specs.declared.job_proc.JobAt.{JobAt}
use Rattle.solo_procs.specs.declared.job_proc.JobAt.TheVariants as here
use Rattle.solo_procs.specs.declared.job_proc.JobProc.{JobProc}
use Rattle.solo_procs.specs.Commands.{Kind, AtLine, AtCards, AtTyped, AtNothing, given_of, kind_given, kind_behind, pages_behind, IsNeed}
use Rattle.solo_procs.specs.Machine.{Tracks}

-- ---- its place
abbrev pub IsPlace : JobAt → JobPlace → Type 0
IsPlace here.Listens Listens = Unit {0}
IsPlace here.Toils (Toils work) = Unit {0}
IsPlace here.OrdersCards (OrdersCards pages) = Unit {0}
IsPlace here.TakesCards (TakesCards taken items pages) = Unit {0}
IsPlace here.TakesReport (TakesReport items pages) = Unit {0}
IsPlace here.Accepts (Accepts pages) = Unit {0}
IsPlace (here.Displays line) (Displays shown pages) = line ≡ shown
IsPlace (here.OrdersPrinter page) (OrdersPrinter put behind) = page ≡ put
IsPlace (here.PutsPage page) (PutsPage put behind pages) = page ≡ put
IsPlace here.TakesPrinted (TakesPrinted lines) = Unit {0}
IsPlace (here.AnswersLine line) (AnswersLine shown later) = line ≡ shown
IsPlace here.DismissesInput DismissesInput = Unit {0}
IsPlace here.DismissesOutput DismissesOutput = Unit {0}
IsPlace here.HasLeft HasLeft = Unit {0}
IsPlace place at = ⊥

-- where it stands behind a page of cards, which is the last or isn't
abbrev pub page_place : Bool → JobAt
page_place true = here.TakesReport
page_place false = here.TakesCards

-- ---- what it keeps there
-- whether a command has put a page
abbrev pub has_put : ℕ → Bool
has_put zero = false
has_put (suc pages) = true

-- the lines that are still to answer its command
abbrev pub answers_left : {C : Type 0} → JobProc C → List (List ℕ)
answers_left j = drop j.answered j.answers

abbrev pub KeepsBehind : {C : Type 0} → JobProc C → Behind → Type 0
KeepsBehind j GoesOn = j.ends ≡ false
KeepsBehind j (EndsWith lines) = (j.ends ≡ true) × (answers_left j ≡ lines)

abbrev pub KeepsAt : {C : Type 0} → JobProc C → JobPlace → Type 0
KeepsAt j (Toils work) = (given_of j.given ≡ work.given) × (j.prints ≡ has_put work.pages)
KeepsAt j (OrdersCards pages) = j.prints ≡ has_put pages
KeepsAt j (TakesCards taken items pages) = (j.cards ≡ lines_of items) × (j.prints ≡ has_put pages)
KeepsAt j (TakesReport items pages) = (j.cards ≡ lines_of items) × (j.prints ≡ has_put pages)
KeepsAt j (Accepts pages) = j.prints ≡ has_put pages
KeepsAt j (Displays line pages) = j.prints ≡ has_put pages
KeepsAt j (OrdersPrinter page behind) = KeepsBehind j behind
KeepsAt j (PutsPage page behind pages) = KeepsBehind j behind
KeepsAt j (TakesPrinted lines) = answers_left j ≡ lines
KeepsAt j (AnswersLine line later) = answers_left j ≡ later
KeepsAt j other = Unit {0}

-- the place of the next page of cards in its stream
abbrev pub taken_at : JobPlace → ℕ
taken_at (TakesCards taken items pages) = taken % 2 ^ 16
taken_at other = 0

-- ---- what its next work begins with
-- so many pages of its command are put by then
abbrev pub pages_then : Behind → ℕ → ℕ
pages_then GoesOn pages = suc pages
pages_then (EndsWith lines) pages = 0

abbrev pub pages_at : JobPlace → ℕ
pages_at (Toils work) = work.pages
pages_at (OrdersCards pages) = pages
pages_at (TakesCards taken items pages) = pages
pages_at (TakesReport items pages) = pages
pages_at (Accepts pages) = pages
pages_at (Displays line pages) = pages
pages_at (OrdersPrinter page behind) = pages_then behind 0
pages_at (PutsPage page behind pages) = pages_then behind pages
pages_at other = 0

abbrev pub kind_then : Behind → Kind
kind_then GoesOn = AtNothing
kind_then (EndsWith lines) = AtLine

abbrev pub kind_at : JobPlace → Kind
kind_at (Toils work) = kind_given work.given
kind_at (OrdersCards pages) = AtCards
kind_at (TakesCards taken items pages) = AtCards
kind_at (TakesReport items pages) = AtCards
kind_at (Accepts pages) = AtTyped
kind_at (Displays line pages) = AtNothing
kind_at (OrdersPrinter page behind) = kind_then behind
kind_at (PutsPage page behind pages) = kind_then behind
kind_at other = AtLine

-- ---- as the machine has it
abbrev pub job_at : {C : Type 0} → JobProc C → JobPlace → Type 0
job_at j at = IsPlace j.place at

-- Its place, what it keeps there, that nothing came of its work that it wasn't told, and what its commands
-- wait for.
pub record JobStands {C : Type 0} (awaits : C → ℕ → Kind → Type 0) (j : JobProc C) (at : JobPlace)
    : Type 0 where
  pub place : IsPlace j.place at
  pub holds : KeepsAt j at
  pub unmet : j.met ≡ None
  pub taken : j.pages ≡ taken_at at
  pub awaited : awaits j.commands (pages_at at) (kind_at at)

-- Its work came to this need.
pub record CameSo {C : Type 0} (awaits : C → ℕ → Kind → Type 0) (j : JobProc C) (work : Work)
    (needed : law.Need) : Type 0 where
  pub place : j.place ≡ here.Toils
  pub need : Need
  pub met : j.met ≡ Some need
  pub is : IsNeed work.pages need needed
  pub prints : j.prints ≡ has_put work.pages
  pub taken : j.pages ≡ 0
  pub awaited : awaits j.commands (pages_behind needed work.pages) (kind_behind needed)

abbrev pub job_came : {C : Type 0} → (C → ℕ → Kind → Type 0) → JobProc C → JobPlace → law.Need → Type 0
job_came awaits j (Toils work) needed = CameSo awaits j work needed
job_came awaits j at needed = ⊥

-- ---- a piece of work
-- It came to a need that fits, over told files to what these make of it.
pub record HasCome {C : Type 0} (awaits : C → ℕ → Kind → Type 0) (old_plans new_plans : Plan → Type 0)
    (j : JobProc C) (work : Work) : Type 0 where
  pub needed : law.Need
  pub came : CameSo awaits j work needed
  pub fits : NeedFits needed
  pub planned : (plan : Plan) → old_plans plan
      → (needed ≡ plan [] work.given) × new_plans (plan_behind work.given plan)

-- by what is answered
abbrev pub WorkedSo : {C : Type 0} → (C → ℕ → Kind → Type 0) → (Plan → Type 0) → (Plan → Type 0) → JobProc C
    → Work → SoloReply → Type 0
WorkedSo awaits old_plans new_plans j work hear.Done = HasCome awaits old_plans new_plans j work
WorkedSo awaits old_plans new_plans j work hear.Failed = Unit {0}
WorkedSo awaits old_plans new_plans j work hear.NoMemory = Unit {0}
WorkedSo awaits old_plans new_plans j work other = ⊥

-- By what is answered, too: where it is done it leads on, and where memory was refused it has come to some of
-- its files.
abbrev pub LedSo : SoloReply → Type 0 → Type 0 → Type 0
LedSo hear.Done Follows Passes = Follows × Passes
LedSo hear.NoMemory Follows Passes = Passes
LedSo other Follows Passes = Unit {0}

-- The machine is where it was, and its answer is one to the work.
pub record HasWorked {C : Type 0} (awaits : C → ℕ → Kind → Type 0) (old_plans new_plans : Plan → Type 0)
    (machine : Machine (JobProc C)) (h : List (Entry Action Reply)) (work : Work) (reply : SoloReply)
    : Type 0 where
  pub tracks : Tracks job job_at machine h
  pub worked : WorkedSo awaits old_plans new_plans machine.process work reply

-- ---- a report
abbrev pub says_true : Arg → Bool
says_true (arg.Bool said) = said
says_true other = false
