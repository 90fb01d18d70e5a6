-- The output process does its next action, and its side of the buffers stands for one deed more.
use Rattle.std.proofs.Common.{◌≡◌, ◌⊎◌, inl, inr, ℕ, List, [], ◌∷◌, Option, None, Some, Result, Ok, Err, refl, sym, ◌∙◌, ap, subst}
use Rattle.solo_base.specs.Text.{line_text}
use Rattle.solo_base.specs.declared.page.Page.{Page}
use Rattle.solo_base.specs.declared.system_call.Arg.{Arg}
use Rattle.solo_base.specs.declared.outcome.Side.TheVariants.{Sender, Receiver}
use Rattle.solo_base.specs.declared.outcome.Outcome.{Outcome}
use Rattle.solo_base.specs.declared.outcome.Outcome.TheVariants as outcome
use Rattle.solo_base.specs.declared.outcome.Cause.TheVariants as cause
use Rattle.slot_buffer.specs.declared.call.SlotCall.TheVariants as slot
use Rattle.page_codec.specs.declared.judge.BadPage.{BadPage}
use Rattle.page_codec.specs.Reading.{PageContent}
use Rattle.network_law.specs.Network.{Follows}
use Rattle.exchange_law.specs.Pages.{damage}
use Rattle.exchange_law.specs.Parcels.{OfArg, OfPage}
use Rattle.place_law.specs.Process.{Does, place, caused, fault_in, given_cause, or_new, next_action}
use Rattle.solo_law.specs.Actions.{Action, Reply}
use Rattle.solo_law.specs.Actions as act
use Rattle.solo_law.specs.Replies.{view}
use Rattle.solo_law.specs.OutputPlaces.{OutputPlace, output_does, output_finds, output}
use Rattle.solo_law.specs.OutputPlaces as at
use Rattle.solo_law.specs.Devices.{gains}
use Rattle.solo_law.specs.Solo.{solo, SoloEntry}
use Rattle.solo_law.proofs.Placed.{is-3}
use Rattle.solo_threads.specs.Threads.{Deed, entries}
use Rattle.solo_procs.specs.Said.{said}
use Rattle.solo_procs.specs.declared.actions.SoloReply.{SoloReply}
use Rattle.solo_procs.specs.declared.actions.SoloReply.TheVariants as hear
use Rattle.solo_run.specs.declared.output_side.OutputSide.{OutputSide}
use Rattle.solo_run.specs.Ends.{sent, took}
use Rattle.solo_run.specs.Devices.{GivesLine, LinesRan}
use Rattle.solo_run.specs.Output.{OutputMay, OutputPerforms, OutputRan, output_stopped}
use Rattle.solo_run.specs.Running.{DidSo}
use Rattle.solo_run.proofs.EndSteps.{sent-call, sent-still, took-call, took-still}
use Rattle.solo_run.proofs.DeviceSteps.{gained-of, lines-still, lines-given}
use Rattle.solo_run.proofs.NextDeeds.{OneOf, Free, Closing, does-so, running-at}

-- ---- what it does, and at which buffers
abbrev pub OutputDoes : Action → Type 0
OutputDoes (act.TakeArg b) = b ≡ 4
OutputDoes (act.TakePage b) = b ≡ 5
OutputDoes (act.Print line) = Unit {0}
OutputDoes (act.PutArg b x) = b ≡ 6
OutputDoes (act.Stop b) = (b ≡ 4) ⊎ ((b ≡ 5) ⊎ (b ≡ 6))
OutputDoes (act.Ended how) = Unit {0}
OutputDoes other = ⊥

at-places : (a : OutputPlace) → OutputDoes (output_does a)
at-places at.AwaitsPrinting = refl
at-places (at.TakesPage pages) = refl
at-places (at.PrintsLine line later last pages) = tt
at-places at.ReportsPrinted = refl
at-places at.IsDone = tt

closing-does : (a : Action) → OneOf (4 ∷ 5 ∷ 6 ∷ []) a → OutputDoes a
closing-does a (inl e) = subst OutputDoes (sym e) (inl refl)
closing-does a (inr (inl e)) = subst OutputDoes (sym e) (inr (inl refl))
closing-does a (inr (inr (inl e))) = subst OutputDoes (sym e) (inr (inr refl))
closing-does a (inr (inr (inr end))) = subst OutputDoes (sym end.1) tt

pub output-does : (h : List SoloEntry) (a : Action) → next_action view output h ≡ Some a → OutputDoes a
output-does h a next =
    elim (does-so output h a next) as (λ _. OutputDoes a) [
      | Free free e ↦ subst OutputDoes (sym e) (at-places (place output h))
      | Closing one ↦ closing-does a one
    ]

not-closing : (line : List ℕ) (a : Action) → OneOf (4 ∷ 5 ∷ 6 ∷ []) a → a ≡ act.Print line → ⊥
not-closing line a (inl e) is = (let no = sym e ∙ is in cc)
not-closing line a (inr (inl e)) is = (let no = sym e ∙ is in cc)
not-closing line a (inr (inr (inl e))) is = (let no = sym e ∙ is in cc)
not-closing line a (inr (inr (inr end))) is = (let no = sym end.1 ∙ is in cc)

-- who prints has no cause
pub prints-free : (h : List SoloEntry) (line : List ℕ) → next_action view output h ≡ Some (act.Print line) → caused view output h ≡ None
prints-free h line next =
    elim (does-so output h (act.Print line) next) as (λ _. caused view output h ≡ None) [
      | Free free e ↦ free
      | Closing one ↦ absurd (not-closing line (act.Print line) one refl)
    ]

-- ---- no page is a fault of the printer
finds-nothing : (place : OutputPlace) (r : Reply) → ((page : Page) → r ≡ act.OfPage page → ⊥) → output_finds place r ≡ None
finds-nothing (at.TakesPage pages) (act.OfPage page) not = absurd (not page refl)
finds-nothing (at.TakesPage pages) act.Done not = refl
finds-nothing (at.TakesPage pages) act.Stopped not = refl
finds-nothing (at.TakesPage pages) act.Failed not = refl
finds-nothing (at.TakesPage pages) act.NoMemory not = refl
finds-nothing (at.TakesPage pages) (act.OfCard answer) not = refl
finds-nothing (at.TakesPage pages) (act.OfArg x) not = refl
finds-nothing (at.TakesPage pages) (act.Found need) not = refl
finds-nothing at.AwaitsPrinting r not = refl
finds-nothing (at.PrintsLine line later last pages) r not = refl
finds-nothing at.ReportsPrinted r not = refl
finds-nothing at.IsDone r not = refl

damage-not : (content : Result PageContent BadPage) → fault_in (damage content) ≡ Some (outcome.Fault cause.PrintFault) → ⊥
damage-not (Ok content) e = cc
damage-not (Err bad) e = cc

page-not : (place : OutputPlace) (page : Page) → fault_in (output_finds place (act.OfPage page)) ≡ Some (outcome.Fault cause.PrintFault) → ⊥
page-not (at.TakesPage pages) page e = damage-not _ e
page-not at.AwaitsPrinting page e = cc
page-not (at.PrintsLine line later last pages) page e = cc
page-not at.ReportsPrinted page e = cc
page-not at.IsDone page e = cc

quiet : (place : OutputPlace) (r : Reply) → ((page : Page) → r ≡ act.OfPage page → ⊥) → fault_in (output_finds place r) ≡ Some (outcome.Fault cause.PrintFault) → ⊥
quiet place r not e = (let none = ap fault_in (finds-nothing place r not) in let no = sym none ∙ e in cc)

module _ {K : Type 0} (given : K → Option (List ℕ)) (faults : K → ℕ) (start old : OutputSide K) (deeds : List Deed)
    (ran : OutputRan given faults start old deeds) where
  abbrev h : List SoloEntry
  h = entries deeds

  abbrev deed : Action → Reply → List ℕ → Deed
  deed a r gained = record { entry = Does a r; gained = gained }

  -- ---- it may
  pub output-may : (a : Action) → Follows solo 3 h → next_action view output h ≡ Some a → OutputMay old (said a)
  output-may a follows next = by-action a (output-does h a next) next where
    by-action : (a : Action) → OutputDoes a → next_action view output h ≡ Some a → OutputMay old (said a)
    by-action (act.TakeArg b) does next = (
      does,
      (
        ran.orders.at,
        ran.orders.calls.stops ∙ running-at 3 h (act.TakeArg 4) 4 Receiver is-3 follows (subst (λ b. next_action view output h ≡ Some
            (act.TakeArg b)) does next) refl,
      ),
    )
    by-action (act.TakePage b) does next = (
      does,
      (
        ran.pages.at,
        ran.pages.calls.stops ∙ running-at 3 h (act.TakePage 5) 5 Receiver is-3 follows (subst (λ b. next_action view output h ≡ Some
            (act.TakePage b)) does next) refl,
      ),
    )
    by-action (act.Print line) does next = ran.paper.live (prints-free h line next)
    by-action (act.PutArg b x) does next = (
      does,
      (
        ran.reports.at,
        ran.reports.calls.stops ∙ running-at 3 h (act.PutArg 6 x) 6 Sender is-3 follows (subst (λ b. next_action view output h ≡ Some
            (act.PutArg b x)) does next) refl,
      ),
    )
    by-action (act.Stop b) does next = (does, ran.orders.at, ran.pages.at, ran.reports.at)
    by-action (act.Ended how) does next = tt
    by-action other does next = absurd does

  -- ---- and stands for one deed more
  abbrev RanGained : OutputSide K → Action → Reply → List ℕ → Type 0
  RanGained new a r gained = OutputRan given faults start new (deed a r gained ∷ deeds)

  abbrev RanWith : OutputSide K → Action → Reply → Type 0
  RanWith new a r = RanGained new a r []

  ordered : (new : OutputSide K) (x : Arg) → new ≡ record old { orders = took old.orders (slot.Take x) } → RanWith new (act.TakeArg 4) (act.OfArg x)
  ordered new x e = subst (λ new. RanWith new (act.TakeArg 4) (act.OfArg x)) (sym e) record {
    orders = took-call OfArg 3 4 start.orders old.orders h _ (slot.Take x) record { moves = refl; stops = refl; told = refl } ran.orders;
    pages = took-still OfPage 3 5 start.pages old.pages h _ record { moves = refl; stops = refl; told = refl } ran.pages;
    reports = sent-still OfArg 3 6 start.reports old.reports h _ record { moves = refl; stops = refl; told = refl } ran.reports;
    paper = lines-still given faults cause.PrintFault start.paper old.paper (caused view output h) _ (λ e. quiet (place output h) (act.OfArg x) (λ page e. cc) e) ran.paper;
    told = λ d told. (let was = ran.told d told in ((refl, was.0), was.1));
  }

  unordered : (new : OutputSide K) → new ≡ record old { orders = took old.orders slot.TakeRefused } → RanWith new (act.TakeArg 4) act.Stopped
  unordered new e = subst (λ new. RanWith new (act.TakeArg 4) act.Stopped) (sym e) record {
    orders = took-call OfArg 3 4 start.orders old.orders h _ (slot.TakeRefused) record { moves = refl; stops = refl; told = refl } ran.orders;
    pages = took-still OfPage 3 5 start.pages old.pages h _ record { moves = refl; stops = refl; told = refl } ran.pages;
    reports = sent-still OfArg 3 6 start.reports old.reports h _ record { moves = refl; stops = refl; told = refl } ran.reports;
    paper = lines-still given faults cause.PrintFault start.paper old.paper (caused view output h) _ (λ e. cc) ran.paper;
    told = λ d told. (let was = ran.told d told in ((refl, was.0), was.1));
  }

  paged : (new : OutputSide K) (page : Page) → new ≡ record old { pages = took old.pages (slot.Take page) } → RanWith new (act.TakePage 5) (act.OfPage page)
  paged new page e = subst (λ new. RanWith new (act.TakePage 5) (act.OfPage page)) (sym e) record {
    orders = took-still OfArg 3 4 start.orders old.orders h _ record { moves = refl; stops = refl; told = refl } ran.orders;
    pages = took-call OfPage 3 5 start.pages old.pages h _ (slot.Take page) record { moves = refl; stops = refl; told = refl } ran.pages;
    reports = sent-still OfArg 3 6 start.reports old.reports h _ record { moves = refl; stops = refl; told = refl } ran.reports;
    paper = lines-still given faults cause.PrintFault start.paper old.paper (caused view output h) _ (λ e. page-not (place output h) page e) ran.paper;
    told = λ d told. (let was = ran.told d told in ((refl, was.0), was.1));
  }

  unpaged : (new : OutputSide K) → new ≡ record old { pages = took old.pages slot.TakeRefused } → RanWith new (act.TakePage 5) act.Stopped
  unpaged new e = subst (λ new. RanWith new (act.TakePage 5) act.Stopped) (sym e) record {
    orders = took-still OfArg 3 4 start.orders old.orders h _ record { moves = refl; stops = refl; told = refl } ran.orders;
    pages = took-call OfPage 3 5 start.pages old.pages h _ (slot.TakeRefused) record { moves = refl; stops = refl; told = refl } ran.pages;
    reports = sent-still OfArg 3 6 start.reports old.reports h _ record { moves = refl; stops = refl; told = refl } ran.reports;
    paper = lines-still given faults cause.PrintFault start.paper old.paper (caused view output h) _ (λ e. cc) ran.paper;
    told = λ d told. (let was = ran.told d told in ((refl, was.0), was.1));
  }

  reported : (new : OutputSide K) (x : Arg) → new ≡ record old { reports = sent old.reports (slot.Put x) } → RanWith new (act.PutArg 6 x) act.Done
  reported new x e = subst (λ new. RanWith new (act.PutArg 6 x) act.Done) (sym e) record {
    orders = took-still OfArg 3 4 start.orders old.orders h _ record { moves = refl; stops = refl; told = refl } ran.orders;
    pages = took-still OfPage 3 5 start.pages old.pages h _ record { moves = refl; stops = refl; told = refl } ran.pages;
    reports = sent-call OfArg 3 6 start.reports old.reports h _ (slot.Put x) record { moves = refl; stops = refl; told = refl } ran.reports;
    paper = lines-still given faults cause.PrintFault start.paper old.paper (caused view output h) _ (λ e. quiet (place output h) act.Done (λ page e. cc) e) ran.paper;
    told = λ d told. (let was = ran.told d told in ((refl, was.0), was.1));
  }

  unreported : (new : OutputSide K) (x : Arg) → new ≡ record old { reports = sent old.reports (slot.PutRefused x) } → RanWith new (act.PutArg 6 x) act.Stopped
  unreported new x e = subst (λ new. RanWith new (act.PutArg 6 x) act.Stopped) (sym e) record {
    orders = took-still OfArg 3 4 start.orders old.orders h _ record { moves = refl; stops = refl; told = refl } ran.orders;
    pages = took-still OfPage 3 5 start.pages old.pages h _ record { moves = refl; stops = refl; told = refl } ran.pages;
    reports = sent-call OfArg 3 6 start.reports old.reports h _ (slot.PutRefused x) record { moves = refl; stops = refl; told = refl } ran.reports;
    paper = lines-still given faults cause.PrintFault start.paper old.paper (caused view output h) _ (λ e. cc) ran.paper;
    told = λ d told. (let was = ran.told d told in ((refl, was.0), was.1));
  }

  stopped-4 : (new : OutputSide K) → new ≡ output_stopped 4 old → RanWith new (act.Stop 4) act.Done
  stopped-4 new e = subst (λ new. RanWith new (act.Stop 4) act.Done) (sym e) record {
    orders = took-call OfArg 3 4 start.orders old.orders h _ (slot.Stop Receiver) record { moves = refl; stops = refl; told = refl } ran.orders;
    pages = took-still OfPage 3 5 start.pages old.pages h _ record { moves = refl; stops = refl; told = refl } ran.pages;
    reports = sent-still OfArg 3 6 start.reports old.reports h _ record { moves = refl; stops = refl; told = refl } ran.reports;
    paper = lines-still given faults cause.PrintFault start.paper old.paper (caused view output h) _ (λ e. quiet (place output h) act.Done (λ page e. cc) e) ran.paper;
    told = λ d told. (let was = ran.told d told in ((refl, was.0), was.1));
  }

  stopped-5 : (new : OutputSide K) → new ≡ output_stopped 5 old → RanWith new (act.Stop 5) act.Done
  stopped-5 new e = subst (λ new. RanWith new (act.Stop 5) act.Done) (sym e) record {
    orders = took-still OfArg 3 4 start.orders old.orders h _ record { moves = refl; stops = refl; told = refl } ran.orders;
    pages = took-call OfPage 3 5 start.pages old.pages h _ (slot.Stop Receiver) record { moves = refl; stops = refl; told = refl } ran.pages;
    reports = sent-still OfArg 3 6 start.reports old.reports h _ record { moves = refl; stops = refl; told = refl } ran.reports;
    paper = lines-still given faults cause.PrintFault start.paper old.paper (caused view output h) _ (λ e. quiet (place output h) act.Done (λ page e. cc) e) ran.paper;
    told = λ d told. (let was = ran.told d told in ((refl, was.0), was.1));
  }

  stopped-6 : (new : OutputSide K) → new ≡ output_stopped 6 old → RanWith new (act.Stop 6) act.Done
  stopped-6 new e = subst (λ new. RanWith new (act.Stop 6) act.Done) (sym e) record {
    orders = took-still OfArg 3 4 start.orders old.orders h _ record { moves = refl; stops = refl; told = refl } ran.orders;
    pages = took-still OfPage 3 5 start.pages old.pages h _ record { moves = refl; stops = refl; told = refl } ran.pages;
    reports = sent-call OfArg 3 6 start.reports old.reports h _ (slot.Stop Sender) record { moves = refl; stops = refl; told = refl } ran.reports;
    paper = lines-still given faults cause.PrintFault start.paper old.paper (caused view output h) _ (λ e. quiet (place output h) act.Done (λ page e. cc) e) ran.paper;
    told = λ d told. (let was = ran.told d told in ((refl, was.0), was.1));
  }

  ended : (new : OutputSide K) (how : Outcome) → new ≡ old → RanWith new (act.Ended how) act.Done
  ended new how e = subst (λ new. RanWith new (act.Ended how) act.Done) (sym e) record {
    orders = took-still OfArg 3 4 start.orders old.orders h _ record { moves = refl; stops = refl; told = refl } ran.orders;
    pages = took-still OfPage 3 5 start.pages old.pages h _ record { moves = refl; stops = refl; told = refl } ran.pages;
    reports = sent-still OfArg 3 6 start.reports old.reports h _ record { moves = refl; stops = refl; told = refl } ran.reports;
    paper = lines-still given faults cause.PrintFault start.paper old.paper (caused view output h) _ (λ e. quiet (place output h) act.Done (λ page e. cc) e) ran.paper;
    told = λ d told. (let was = ran.told d told in ((refl, was.0), was.1));
  }

  printed : (new : OutputSide K) (line : List ℕ) → caused view output h ≡ None → new ≡ record old { paper = new.paper }
      → (one : GivesLine given faults old.paper new.paper line hear.Done)
      → RanGained new (act.Print line) act.Done (gained-of (given old.paper.sink) (given new.paper.sink) (line_text line) (hear.Done ≡ hear.Done) one.gains).gained
  printed new line free e one =
      let g = gained-of (given old.paper.sink) (given new.paper.sink) (line_text line) (hear.Done ≡ hear.Done) one.gains in
      let P : OutputSide K → Type 0 = λ new. RanGained new (act.Print line) act.Done g.gained in
      subst P (sym e) record {
        orders = took-still OfArg 3 4 start.orders old.orders h _ record { moves = refl; stops = refl; told = refl } ran.orders;
        pages = took-still OfPage 3 5 start.pages old.pages h _ record { moves = refl; stops = refl; told = refl } ran.pages;
        reports = sent-still OfArg 3 6 start.reports old.reports h _ record { moves = refl; stops = refl; told = refl } ran.reports;
        paper = subst (λ why. LinesRan faults cause.PrintFault start.paper new.paper why) (sym (ap (λ why. or_new why (given_cause view output (place output h) (act.Print line) act.Done)) free ∙ ap fault_in (finds-nothing (place output h) act.Done (λ page e. cc))))
            (lines-given given faults cause.PrintFault start.paper old.paper new.paper line hear.Done (None) (λ none. refl) (λ e. absurd cc)
            (subst (λ why. LinesRan faults cause.PrintFault start.paper old.paper why) free ran.paper) one);
        told = λ d told. (let was = ran.told d told in ((g.all_is refl, was.0), ap (gains g.gained) was.1 ∙ g.now_is));
      }

  unprinted : (new : OutputSide K) (line : List ℕ) → caused view output h ≡ None → new ≡ record old { paper = new.paper }
      → (one : GivesLine given faults old.paper new.paper line hear.Failed)
      → RanGained new (act.Print line) act.Failed (gained-of (given old.paper.sink) (given new.paper.sink) (line_text line) (hear.Failed ≡ hear.Done) one.gains).gained
  unprinted new line free e one =
      let g = gained-of (given old.paper.sink) (given new.paper.sink) (line_text line) (hear.Failed ≡ hear.Done) one.gains in
      let P : OutputSide K → Type 0 = λ new. RanGained new (act.Print line) act.Failed g.gained in
      subst P (sym e) record {
        orders = took-still OfArg 3 4 start.orders old.orders h _ record { moves = refl; stops = refl; told = refl } ran.orders;
        pages = took-still OfPage 3 5 start.pages old.pages h _ record { moves = refl; stops = refl; told = refl } ran.pages;
        reports = sent-still OfArg 3 6 start.reports old.reports h _ record { moves = refl; stops = refl; told = refl } ran.reports;
        paper = subst (λ why. LinesRan faults cause.PrintFault start.paper new.paper why) (sym (ap (λ why. or_new why (given_cause view output (place output h) (act.Print line) act.Failed)) free))
            (lines-given given faults cause.PrintFault start.paper old.paper new.paper line hear.Failed (Some (outcome.Fault cause.PrintFault)) (λ none. absurd cc) (λ e. refl)
            (subst (λ why. LinesRan faults cause.PrintFault start.paper old.paper why) free ran.paper) one);
        told = λ d told. (let was = ran.told d told in ((g.prefix, was.0), ap (gains g.gained) was.1 ∙ g.now_is));
      }

  unkept : (new : OutputSide K) (line : List ℕ) → caused view output h ≡ None → new ≡ record old { paper = new.paper }
      → (one : GivesLine given faults old.paper new.paper line hear.NoMemory)
      → RanGained new (act.Print line) act.NoMemory (gained-of (given old.paper.sink) (given new.paper.sink) (line_text line) (hear.NoMemory ≡ hear.Done) one.gains).gained
  unkept new line free e one =
      let g = gained-of (given old.paper.sink) (given new.paper.sink) (line_text line) (hear.NoMemory ≡ hear.Done) one.gains in
      let P : OutputSide K → Type 0 = λ new. RanGained new (act.Print line) act.NoMemory g.gained in
      subst P (sym e) record {
        orders = took-still OfArg 3 4 start.orders old.orders h _ record { moves = refl; stops = refl; told = refl } ran.orders;
        pages = took-still OfPage 3 5 start.pages old.pages h _ record { moves = refl; stops = refl; told = refl } ran.pages;
        reports = sent-still OfArg 3 6 start.reports old.reports h _ record { moves = refl; stops = refl; told = refl } ran.reports;
        paper = subst (λ why. LinesRan faults cause.PrintFault start.paper new.paper why) (sym (ap (λ why. or_new why (given_cause view output (place output h) (act.Print line) act.NoMemory)) free))
            (lines-given given faults cause.PrintFault start.paper old.paper new.paper line hear.NoMemory (Some (outcome.Fault cause.NoMemory)) (λ none. absurd cc) (λ e. absurd cc)
            (subst (λ why. LinesRan faults cause.PrintFault start.paper old.paper why) free ran.paper) one);
        told = λ d told. (let was = ran.told d told in ((g.prefix, was.0), ap (gains g.gained) was.1 ∙ g.now_is));
      }

  abbrev Did : OutputSide K → Action → SoloReply → Type 0
  Did new a reply = DidSo 3 (OutputRan given faults start new) deeds a reply

  stop-did : (new : OutputSide K) (b : ℕ) → (b ≡ 4) ⊎ ((b ≡ 5) ⊎ (b ≡ 6)) → new ≡ output_stopped b old → Did new (act.Stop b) hear.Done
  stop-did new b (inl is) e =
      subst (λ b. Did new (act.Stop b) hear.Done) (sym is)
      record { answer = act.Done; gained = []; fits = tt; plain = refl; ran = stopped-4 new (e ∙ ap (λ b. output_stopped b old) is); lacks = λ can may. absurd may }
  stop-did new b (inr (inl is)) e =
      subst (λ b. Did new (act.Stop b) hear.Done) (sym is)
      record { answer = act.Done; gained = []; fits = tt; plain = refl; ran = stopped-5 new (e ∙ ap (λ b. output_stopped b old) is); lacks = λ can may. absurd may }
  stop-did new b (inr (inr is)) e =
      subst (λ b. Did new (act.Stop b) hear.Done) (sym is)
      record { answer = act.Done; gained = []; fits = tt; plain = refl; ran = stopped-6 new (e ∙ ap (λ b. output_stopped b old) is); lacks = λ can may. absurd may }

  pub output-did : (new : OutputSide K) (a : Action) (reply : SoloReply) → OutputDoes a → next_action view output h ≡ Some a
      → OutputPerforms given faults old new (said a) reply → Did new a reply
  output-did new (act.TakeArg b) (hear.Arg x) does next e =
      subst (λ b. Did new (act.TakeArg b) (hear.Arg x)) (sym does)
      record { answer = act.OfArg x; gained = []; fits = tt; plain = refl; ran = ordered new x e; lacks = λ can may. absurd may }
  output-did new (act.TakeArg b) (hear.Stopped) does next e =
      subst (λ b. Did new (act.TakeArg b) (hear.Stopped)) (sym does)
      record { answer = act.Stopped; gained = []; fits = tt; plain = refl; ran = unordered new e; lacks = λ can may. absurd may }
  output-did new (act.PutArg b x) (hear.Done) does next e =
      subst (λ b. Did new (act.PutArg b x) (hear.Done)) (sym does)
      record { answer = act.Done; gained = []; fits = tt; plain = refl; ran = reported new x e; lacks = λ can may. absurd may }
  output-did new (act.PutArg b x) (hear.Stopped) does next e =
      subst (λ b. Did new (act.PutArg b x) (hear.Stopped)) (sym does)
      record { answer = act.Stopped; gained = []; fits = tt; plain = refl; ran = unreported new x e; lacks = λ can may. absurd may }
  output-did new (act.TakePage b) (hear.Page page) does next e =
      subst (λ b. Did new (act.TakePage b) (hear.Page page)) (sym does)
      record { answer = act.OfPage page; gained = []; fits = tt; plain = refl; ran = paged new page e; lacks = λ can may. absurd cc }
  output-did new (act.TakePage b) (hear.Stopped) does next e =
      subst (λ b. Did new (act.TakePage b) (hear.Stopped)) (sym does)
      record { answer = act.Stopped; gained = []; fits = tt; plain = refl; ran = unpaged new e; lacks = λ can may. absurd may }
  output-did new (act.Print line) (hear.Done) does next e = record { answer = act.Done; gained = (gained-of (given old.paper.sink) (given new.paper.sink) (line_text line) (hear.Done ≡ hear.Done) e.1.gains).gained; fits = tt; plain = refl; ran = printed new line (prints-free h line next) e.0 e.1; lacks = λ can may. absurd may }
  output-did new (act.Print line) (hear.Failed) does next e = record { answer = act.Failed; gained = (gained-of (given old.paper.sink) (given new.paper.sink) (line_text line) (hear.Failed ≡ hear.Done) e.1.gains).gained; fits = tt; plain = refl; ran = unprinted new line (prints-free h line next) e.0 e.1; lacks = λ can may. absurd may }
  output-did new (act.Print line) (hear.NoMemory) does next e = record { answer = act.NoMemory; gained = (gained-of (given old.paper.sink) (given new.paper.sink) (line_text line) (hear.NoMemory ≡ hear.Done) e.1.gains).gained; fits = tt; plain = refl; ran = unkept new line (prints-free h line next) e.0 e.1; lacks = λ can may. absurd may }
  output-did new (act.Stop b) hear.Done does next e = stop-did new b does e
  output-did new (act.Ended how) (hear.Done) does next e = record { answer = act.Done; gained = []; fits = tt; plain = refl; ran = ended new how e; lacks = λ can may. absurd may }
  output-did new (act.Print line) reply does next e = absurd e.1.replies
  output-did new a reply does next e = absurd e
