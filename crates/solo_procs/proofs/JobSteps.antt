-- The steps of the job process.
use Rattle.std.proofs.Common.{◌≡◌, ℕ, suc, not, List, [], Some, refl, sym, ◌∙◌, ap, subst}
use Rattle.solo_base.specs.declared.item.Item.{Item}
use Rattle.solo_base.specs.declared.page.Page.{Page}
use Rattle.solo_base.specs.declared.system_call.Arg.{Arg}
use Rattle.solo_base.specs.declared.system_call.Arg.TheVariants as arg
use Rattle.solo_base.specs.declared.outcome.Outcome.TheVariants as outcome
use Rattle.solo_devices.specs.declared.card_read.CardRead.{CardRead}
use Rattle.solo_law.specs.Work.{Work}
use Rattle.solo_law.specs.Work as law
use Rattle.solo_law.specs.Actions.{Reply}
use Rattle.solo_law.specs.Actions as act
use Rattle.solo_law.specs.Replies.{Fits}
use Rattle.solo_law.specs.JobPlaces.{JobPlace, Listens, Toils, OrdersCards, TakesCards, TakesReport, Accepts, Displays, OrdersPrinter, PutsPage, TakesPrinted, AnswersLine, DismissesInput, DismissesOutput, HasLeft, Behind, job_does, job_behind, cards_order, printer_order, works, answers, meets, behind_typed, behind_accepted, behind_put, file_of}
use Rattle.solo_procs.specs.declared.commands.Given.TheVariants as given
use Rattle.solo_procs.specs.declared.job_proc.JobAt.{JobAt}
use Rattle.solo_procs.specs.declared.job_proc.JobAt.TheVariants as here
use Rattle.solo_procs.specs.declared.job_proc.JobProc.{JobProc}
use Rattle.solo_procs.specs.declared.actions.SoloAction.{SoloAction}
use Rattle.solo_procs.specs.declared.actions.SoloAction.TheVariants as say
use Rattle.solo_procs.specs.Said.{said, IsHeardDone}
use Rattle.solo_procs.specs.Commands.{Kind}
use Rattle.solo_procs.specs.Job.{IsPlace, JobStands, CameSo, job_came}
use Rattle.solo_procs.specs.JobSteps.{IsAnswering}

some-same : {A : Type 0} (a b : A) → Some a ≡ Some b → a ≡ b
some-same a b e = cc

-- any place but that of a work
abbrev IsElsewhere : JobAt → Type 0
IsElsewhere here.Toils = ⊥
IsElsewhere other = Unit {0}

pub no-toils : (place now : JobAt) → place ≡ now → IsElsewhere now → place ≡ here.Toils → ⊥
no-toils place now is elsewhere e = subst IsElsewhere (sym is ∙ e) elsewhere

module _ {C : Type 0} (awaits : C → ℕ → Kind → Type 0) (j : JobProc C) where
  -- ---- which place it is
  pub there : (now : JobAt) (at : JobPlace) → j.place ≡ now → JobStands awaits j at → IsPlace now at
  there now at is kept = subst (λ p. IsPlace p at) is kept.place

  -- ---- what is done: a work
  pub done-toils : (Now : JobPlace → Type 0) → j.place ≡ here.Toils
      → ((work : Work) (needed : law.Need) → CameSo awaits j work needed → Now (meets work.pages needed))
      → (at : JobPlace) (answer : Reply) → Fits (job_does at) answer → IsHeardDone (JobStands awaits j at) (job_came awaits j at) answer
      → Now (job_behind at answer)
  done-toils Now is goes at act.Done fits done = by at fits (there here.Toils at is done)
    where
      by : (at : JobPlace) → Fits (job_does at) act.Done → IsPlace here.Toils at → Now (job_behind at act.Done)
      by (Toils work) fits place = absurd fits
      by other fits place = absurd place
  done-toils Now is goes (Toils work) (act.Found needed) fits done = goes work needed done
  done-toils Now is goes other (act.Found needed) fits done = absurd done
  done-toils Now is goes at other fits done = absurd done

  -- and anything else
  pub done-else : (Now : JobPlace → Type 0) → (j.place ≡ here.Toils → ⊥)
      → ((at : JobPlace) → JobStands awaits j at → Fits (job_does at) act.Done → Now (job_behind at act.Done))
      → (at : JobPlace) (answer : Reply) → Fits (job_does at) answer → IsHeardDone (JobStands awaits j at) (job_came awaits j at) answer
      → Now (job_behind at answer)
  done-else Now not goes at act.Done fits done = goes at done fits
  done-else Now not goes (Toils work) (act.Found needed) fits done = absurd (not done.place)
  done-else Now not goes other (act.Found needed) fits done = absurd done
  done-else Now not goes at other fits done = absurd done

  pub done-orders_cards : (Now : JobPlace → Type 0) → j.place ≡ here.OrdersCards
      → ((pages : ℕ) → JobStands awaits j (OrdersCards pages) → Now (TakesCards 0 [] pages))
      → (at : JobPlace) → JobStands awaits j at → Fits (job_does at) act.Done → Now (job_behind at act.Done)
  done-orders_cards Now is goes at kept fits = by at kept (there here.OrdersCards at is kept)
    where
      by : (at : JobPlace) → JobStands awaits j at → IsPlace here.OrdersCards at → Now (job_behind at act.Done)
      by (OrdersCards pages) kept place = goes pages kept
      by other kept place = absurd place

  pub done-displays : (line : List ℕ) → j.place ≡ here.Displays line → (at : JobPlace) → JobStands awaits j at → Fits (job_does at) act.Done
      → JobStands awaits (record j { place = here.Toils; given = given.Nothing }) (job_behind at act.Done)
  done-displays line is at kept fits = by at kept (there (here.Displays line) at is kept)
    where
      by : (at : JobPlace) → JobStands awaits j at → IsPlace (here.Displays line) at
          → JobStands awaits (record j { place = here.Toils; given = given.Nothing }) (job_behind at act.Done)
      by (Displays shown pages) kept place =
          record { place = tt; holds = (refl, kept.holds); unmet = kept.unmet; taken = kept.taken; awaited = kept.awaited }
      by other kept place = absurd place

  pub done-orders_printer : (page : Page) → j.place ≡ here.OrdersPrinter page → (at : JobPlace) → JobStands awaits j at → Fits (job_does at) act.Done
      → JobStands awaits (record j { place = here.PutsPage page }) (job_behind at act.Done)
  done-orders_printer page is at kept fits = by at kept (there (here.OrdersPrinter page) at is kept)
    where
      by : (at : JobPlace) → JobStands awaits j at → IsPlace (here.OrdersPrinter page) at
          → JobStands awaits (record j { place = here.PutsPage page }) (job_behind at act.Done)
      by (OrdersPrinter put behind) kept place =
          record { place = place; holds = kept.holds; unmet = kept.unmet; taken = kept.taken; awaited = kept.awaited }
      by other kept place = absurd place

  pub done-puts : (page : Page) (Now : JobPlace → Type 0) → j.place ≡ here.PutsPage page
      → ((put : Page) (behind : Behind) (pages : ℕ) → JobStands awaits j (PutsPage put behind pages) → Now (behind_put behind (suc pages)))
      → (at : JobPlace) → JobStands awaits j at → Fits (job_does at) act.Done → Now (job_behind at act.Done)
  done-puts page Now is goes at kept fits = by at kept (there (here.PutsPage page) at is kept)
    where
      by : (at : JobPlace) → JobStands awaits j at → IsPlace (here.PutsPage page) at → Now (job_behind at act.Done)
      by (PutsPage put behind pages) kept place = goes put behind pages kept
      by other kept place = absurd place

  pub done-answers : (line : List ℕ) (Now : JobPlace → Type 0) → j.place ≡ here.AnswersLine line
      → ((lines : List (List ℕ)) → IsAnswering awaits j lines → Now (answers lines))
      → (at : JobPlace) → JobStands awaits j at → Fits (job_does at) act.Done → Now (job_behind at act.Done)
  done-answers line Now is goes at kept fits = by at kept (there (here.AnswersLine line) at is kept)
    where
      by : (at : JobPlace) → JobStands awaits j at → IsPlace (here.AnswersLine line) at → Now (job_behind at act.Done)
      by (AnswersLine shown later) kept place = goes later record { left = kept.holds; unmet = kept.unmet; taken = kept.taken; awaited = kept.awaited }
      by other kept place = absurd place

  pub done-dismisses_input : j.place ≡ here.DismissesInput → (at : JobPlace) → JobStands awaits j at → Fits (job_does at) act.Done
      → JobStands awaits (record j { place = here.DismissesOutput }) (job_behind at act.Done)
  done-dismisses_input is at kept fits = by at kept (there here.DismissesInput at is kept)
    where
      by : (at : JobPlace) → JobStands awaits j at → IsPlace here.DismissesInput at
          → JobStands awaits (record j { place = here.DismissesOutput }) (job_behind at act.Done)
      by DismissesInput kept place = record { place = tt; holds = tt; unmet = kept.unmet; taken = kept.taken; awaited = kept.awaited }
      by other kept place = absurd place

  pub done-dismisses_output : j.place ≡ here.DismissesOutput → (at : JobPlace) → JobStands awaits j at → Fits (job_does at) act.Done
      → JobStands awaits (record j { place = here.HasLeft }) (job_behind at act.Done)
  done-dismisses_output is at kept fits = by at kept (there here.DismissesOutput at is kept)
    where
      by : (at : JobPlace) → JobStands awaits j at → IsPlace here.DismissesOutput at
          → JobStands awaits (record j { place = here.HasLeft }) (job_behind at act.Done)
      by DismissesOutput kept place = record { place = tt; holds = tt; unmet = kept.unmet; taken = kept.taken; awaited = kept.awaited }
      by other kept place = absurd place

  -- ---- a card
  pub card-listens : (card : CardRead) (Now : JobPlace → Type 0) → j.place ≡ here.Listens → (JobStands awaits j Listens → Now (behind_typed card))
      → (at : JobPlace) → JobStands awaits j at → Fits (job_does at) (act.OfCard card) → Now (job_behind at (act.OfCard card))
  card-listens card Now is goes at kept fits = by at kept (there here.Listens at is kept)
    where
      by : (at : JobPlace) → JobStands awaits j at → IsPlace here.Listens at → Now (job_behind at (act.OfCard card))
      by Listens kept place = goes kept
      by other kept place = absurd place

  pub card-accepts : (card : CardRead) (Now : JobPlace → Type 0) → j.place ≡ here.Accepts
      → ((pages : ℕ) → JobStands awaits j (Accepts pages) → Now (behind_accepted pages card))
      → (at : JobPlace) → JobStands awaits j at → Fits (job_does at) (act.OfCard card) → Now (job_behind at (act.OfCard card))
  card-accepts card Now is goes at kept fits = by at kept (there here.Accepts at is kept)
    where
      by : (at : JobPlace) → JobStands awaits j at → IsPlace here.Accepts at → Now (job_behind at (act.OfCard card))
      by (Accepts pages) kept place = goes pages kept
      by other kept place = absurd place

  -- ---- an argument
  pub arg-report : (a : Arg) (Now : JobPlace → Type 0) → j.place ≡ here.TakesReport
      → ((items : List Item) (pages : ℕ) → JobStands awaits j (TakesReport items pages) → Now (works (file_of items a) pages))
      → (at : JobPlace) → JobStands awaits j at → Fits (job_does at) (act.OfArg a) → Now (job_behind at (act.OfArg a))
  arg-report a Now is goes at kept fits = by at kept (there here.TakesReport at is kept)
    where
      by : (at : JobPlace) → JobStands awaits j at → IsPlace here.TakesReport at → Now (job_behind at (act.OfArg a))
      by (TakesReport items pages) kept place = goes items pages kept
      by other kept place = absurd place

  pub arg-printed : (a : Arg) (Now : JobPlace → Type 0) → j.place ≡ here.TakesPrinted
      → ((lines : List (List ℕ)) → IsAnswering awaits j lines → Now (answers lines))
      → (at : JobPlace) → JobStands awaits j at → Fits (job_does at) (act.OfArg a) → Now (job_behind at (act.OfArg a))
  arg-printed a Now is goes at kept fits = by at kept (there here.TakesPrinted at is kept)
    where
      by : (at : JobPlace) → JobStands awaits j at → IsPlace here.TakesPrinted at → Now (job_behind at (act.OfArg a))
      by (TakesPrinted lines) kept place = goes lines record { left = kept.holds; unmet = kept.unmet; taken = kept.taken; awaited = kept.awaited }
      by other kept place = absurd place

  -- ---- a page of cards
  pub page-taken : (page : Page) (Is : JobPlace → Type 0)
      → ((taken : ℕ) (items : List Item) (pages : ℕ) → JobStands awaits j (TakesCards taken items pages) → Is (TakesCards taken items pages))
      → (at : JobPlace) → JobStands awaits j at → Fits (job_does at) (act.OfPage page) → Is at
  page-taken page Is goes (TakesCards taken items pages) kept fits = goes taken items pages kept
  page-taken page Is goes other kept fits = absurd fits

-- ---- where it was none of these places
place-listens : (p : JobAt) → IsPlace p Listens → p ≡ here.Listens
place-listens here.Listens is = refl
place-listens other is = absurd is

place-accepts : (p : JobAt) (pages : ℕ) → IsPlace p (Accepts pages) → p ≡ here.Accepts
place-accepts here.Accepts pages is = refl
place-accepts other pages is = absurd is

place-report : (p : JobAt) (items : List Item) (pages : ℕ) → IsPlace p (TakesReport items pages) → p ≡ here.TakesReport
place-report here.TakesReport items pages is = refl
place-report other items pages is = absurd is

place-printed : (p : JobAt) (lines : List (List ℕ)) → IsPlace p (TakesPrinted lines) → p ≡ here.TakesPrinted
place-printed here.TakesPrinted lines is = refl
place-printed other lines is = absurd is

place-orders_cards : (p : JobAt) (pages : ℕ) → IsPlace p (OrdersCards pages) → p ≡ here.OrdersCards
place-orders_cards here.OrdersCards pages is = refl
place-orders_cards other pages is = absurd is

place-displays : (p : JobAt) (line : List ℕ) (pages : ℕ) → IsPlace p (Displays line pages) → p ≡ here.Displays line
place-displays (here.Displays shown) line pages is = ap here.Displays is
place-displays other line pages is = absurd is

place-orders_printer : (p : JobAt) (page : Page) (behind : Behind) → IsPlace p (OrdersPrinter page behind) → p ≡ here.OrdersPrinter page
place-orders_printer (here.OrdersPrinter put) page behind is = ap here.OrdersPrinter is
place-orders_printer other page behind is = absurd is

place-puts : (p : JobAt) (page : Page) (behind : Behind) (pages : ℕ) → IsPlace p (PutsPage page behind pages) → p ≡ here.PutsPage page
place-puts (here.PutsPage put) page behind pages is = ap here.PutsPage is
place-puts other page behind pages is = absurd is

place-answers : (p : JobAt) (line : List ℕ) (later : List (List ℕ)) → IsPlace p (AnswersLine line later) → p ≡ here.AnswersLine line
place-answers (here.AnswersLine shown) line later is = ap here.AnswersLine is
place-answers other line later is = absurd is

place-dismisses_input : (p : JobAt) → IsPlace p DismissesInput → p ≡ here.DismissesInput
place-dismisses_input here.DismissesInput is = refl
place-dismisses_input other is = absurd is

place-dismisses_output : (p : JobAt) → IsPlace p DismissesOutput → p ≡ here.DismissesOutput
place-dismisses_output here.DismissesOutput is = refl
place-dismisses_output other is = absurd is

-- none at which something is done
pub record IsIdle (p : JobAt) : Type 0 where
  pub cards : p ≡ here.OrdersCards → ⊥
  pub displays : (line : List ℕ) → p ≡ here.Displays line → ⊥
  pub printer : (page : Page) → p ≡ here.OrdersPrinter page → ⊥
  pub puts : (page : Page) → p ≡ here.PutsPage page → ⊥
  pub answers : (line : List ℕ) → p ≡ here.AnswersLine line → ⊥
  pub input : p ≡ here.DismissesInput → ⊥
  pub output : p ≡ here.DismissesOutput → ⊥

module _ {C : Type 0} (awaits : C → ℕ → Kind → Type 0) (j : JobProc C) where
  pub done-idle : IsIdle j.place → (at : JobPlace) → JobStands awaits j at → Fits (job_does at) act.Done → JobStands awaits j (job_behind at act.Done)
  done-idle idle HasLeft kept fits = kept
  done-idle idle (OrdersCards pages) kept fits = absurd (idle.cards (place-orders_cards j.place pages kept.place))
  done-idle idle (Displays line pages) kept fits = absurd (idle.displays line (place-displays j.place line pages kept.place))
  done-idle idle (OrdersPrinter page behind) kept fits = absurd (idle.printer page (place-orders_printer j.place page behind kept.place))
  done-idle idle (PutsPage page behind pages) kept fits = absurd (idle.puts page (place-puts j.place page behind pages kept.place))
  done-idle idle (AnswersLine line later) kept fits = absurd (idle.answers line (place-answers j.place line later kept.place))
  done-idle idle DismissesInput kept fits = absurd (idle.input (place-dismisses_input j.place kept.place))
  done-idle idle DismissesOutput kept fits = absurd (idle.output (place-dismisses_output j.place kept.place))
  done-idle idle other kept fits = absurd fits

  pub card-idle : (card : CardRead) → (j.place ≡ here.Listens → ⊥) → (j.place ≡ here.Accepts → ⊥) → (at : JobPlace) → JobStands awaits j at
      → Fits (job_does at) (act.OfCard card) → JobStands awaits j (job_behind at (act.OfCard card))
  card-idle card listens accepts Listens kept fits = absurd (listens (place-listens j.place kept.place))
  card-idle card listens accepts (Accepts pages) kept fits = absurd (accepts (place-accepts j.place pages kept.place))
  card-idle card listens accepts other kept fits = absurd fits

  pub arg-idle : (a : Arg) → (j.place ≡ here.TakesReport → ⊥) → (j.place ≡ here.TakesPrinted → ⊥) → (at : JobPlace) → JobStands awaits j at
      → Fits (job_does at) (act.OfArg a) → JobStands awaits j (job_behind at (act.OfArg a))
  arg-idle a report printed (TakesReport items pages) kept fits = absurd (report (place-report j.place items pages kept.place))
  arg-idle a report printed (TakesPrinted lines) kept fits = absurd (printed (place-printed j.place lines kept.place))
  arg-idle a report printed other kept fits = absurd fits

-- ---- what it does
abbrev pub job_said : JobAt → SoloAction
job_said here.Listens = say.Accept
job_said here.Toils = say.Work
job_said here.OrdersCards = say.PutArg 1 cards_order
job_said here.TakesCards = say.TakePage 2
job_said here.TakesReport = say.TakeArg 3
job_said here.Accepts = say.Accept
job_said (here.Displays line) = say.Display line
job_said (here.OrdersPrinter page) = say.PutArg 4 printer_order
job_said (here.PutsPage page) = say.PutPage 5 page
job_said here.TakesPrinted = say.TakeArg 6
job_said (here.AnswersLine line) = say.Display line
job_said here.DismissesInput = say.PutArg 1 arg.Nil
job_said here.DismissesOutput = say.PutArg 4 arg.Nil
job_said here.HasLeft = say.Ended outcome.Done

job-says : (place : JobAt) (at : JobPlace) → IsPlace place at → job_said place ≡ said (job_does at)
job-says here.Listens Listens is = refl
job-says here.Toils (Toils work) is = refl
job-says here.OrdersCards (OrdersCards pages) is = refl
job-says here.TakesCards (TakesCards taken items pages) is = refl
job-says here.TakesReport (TakesReport items pages) is = refl
job-says here.Accepts (Accepts pages) is = refl
job-says (here.Displays line) (Displays shown pages) is = ap say.Display is
job-says (here.OrdersPrinter page) (OrdersPrinter put behind) is = refl
job-says (here.PutsPage page) (PutsPage put behind pages) is = ap (λ page. say.PutPage 5 page) is
job-says here.TakesPrinted (TakesPrinted lines) is = refl
job-says (here.AnswersLine line) (AnswersLine shown later) is = ap say.Display is
job-says here.DismissesInput DismissesInput is = refl
job-says here.DismissesOutput DismissesOutput is = refl
job-says here.HasLeft HasLeft is = refl
job-says place at is = absurd is

pub job-does : (place now : JobAt) (at : JobPlace) → place ≡ now → IsPlace place at → job_said now ≡ said (job_does at)
job-does place now at is there = ap job_said (sym is) ∙ job-says place at there
