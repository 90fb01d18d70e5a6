-- The job process puts a page or takes one, stops a buffer or ends, and its side of the buffers stands for one deed more.
use Rattle.std.proofs.Common.{◌≡◌, List, [], ◌∷◌, None, Some, refl, sym, ◌∙◌, ap, subst}
use Rattle.solo_base.specs.declared.page.Page.{Page}
use Rattle.solo_base.specs.declared.outcome.Side.TheVariants.{Sender, Receiver}
use Rattle.solo_base.specs.declared.outcome.Outcome.{Outcome}
use Rattle.solo_base.specs.declared.outcome.Outcome.TheVariants as outcome
use Rattle.solo_base.specs.declared.outcome.Cause.TheVariants as cause
use Rattle.slot_buffer.specs.declared.call.SlotCall.TheVariants as slot
use Rattle.exchange_law.specs.Parcels.{OfArg, OfPage}
use Rattle.place_law.specs.Process.{Does, LacksMemory, place, caused, or_new}
use Rattle.place_law.proofs.Nexts.{or-none}
use Rattle.solo_law.specs.Work.{Plan}
use Rattle.solo_law.specs.Actions.{Action, Reply}
use Rattle.solo_law.specs.Actions as act
use Rattle.solo_law.specs.Replies.{view}
use Rattle.solo_law.specs.JobPlaces.{job}
use Rattle.solo_law.specs.Solo.{SoloEntry}
use Rattle.solo_threads.specs.Threads.{Deed, entries}
use Rattle.solo_run.specs.declared.job_side.JobSide.{JobSide}
use Rattle.solo_run.specs.Ends.{sent, took}
use Rattle.solo_run.specs.Job.{JobWorld, JobRan, job_stopped}
use Rattle.solo_run.proofs.EndSteps.{sent-call, sent-still, took-call, took-still}
use Rattle.solo_run.proofs.DeviceSteps.{reads-still, lines-still}
use Rattle.solo_run.proofs.JobCauses.{quiet, page-read, page-limit, page-console, page-disk, files-still}

module _ {Y T F : Type 0} (w : JobWorld Y T F) (plans : Plan → Type 0) (start old : JobSide Y T F) (deeds : List Deed)
    (ran : JobRan w plans start old deeds) where
  abbrev h : List SoloEntry
  h = entries deeds

  abbrev RanWith : JobSide Y T F → Action → Reply → Type 0
  RanWith new a r = JobRan w plans start new (record { entry = Does a r; gained = [] } ∷ deeds)

  pub paged : (new : JobSide Y T F) (page : Page) → new ≡ record old { pages = sent old.pages (slot.Put page) } → RanWith new (act.PutPage 5 page) act.Done
  paged new page e = subst (λ new. RanWith new (act.PutPage 5 page) act.Done) (sym e) record {
    card_orders = sent-still OfArg 2 1 start.card_orders old.card_orders h _ record { moves = refl; stops = refl; told = refl } ran.card_orders;
    cards = took-still OfPage 2 2 start.cards old.cards h _ record { moves = refl; stops = refl; told = refl } ran.cards;
    card_reports = took-still OfArg 2 3 start.card_reports old.card_reports h _ record { moves = refl; stops = refl; told = refl } ran.card_reports;
    print_orders = sent-still OfArg 2 4 start.print_orders old.print_orders h _ record { moves = refl; stops = refl; told = refl } ran.print_orders;
    pages = sent-call OfPage 2 5 start.pages old.pages h _ (slot.Put page) record { moves = refl; stops = refl; told = refl } ran.pages;
    print_reports = took-still OfArg 2 6 start.print_reports old.print_reports h _ record { moves = refl; stops = refl; told = refl } ran.print_reports;
    keys = reads-still w.left w.taken w.keys_faults start.typewriter.keys old.typewriter.keys (caused view job h) _ (λ e. quiet (place job h) act.Done (outcome.Fault cause.ReadFault) (λ page e. cc) e) (λ e. quiet (place job h) act.Done (outcome.Fault cause.DeckLimit) (λ page e. cc) e) ran.keys;
    console = lines-still w.given w.console_faults cause.ConsoleFault start.typewriter.console old.typewriter.console (caused view job h) _ (λ e. quiet (place job h) act.Done (outcome.Fault cause.ConsoleFault) (λ page e. cc) e) ran.console;
    files = files-still w.sound w.files_faults start.files old.files (caused view job h) _ (λ e. quiet (place job h) act.Done (outcome.Fault cause.DiskFault) (λ page e. cc) e) ran.files;
    told = λ d told. (let was = ran.told d told in ((refl, was.0), record { keys = was.1.keys; console = was.1.console; work = λ none plan is. was.1.work (or-none (caused view job h) _ none) plan is }));
  }

  pub unpaged : (new : JobSide Y T F) (page : Page) → new ≡ record old { pages = sent old.pages (slot.PutRefused page) } → RanWith new (act.PutPage 5 page) act.Stopped
  unpaged new page e = subst (λ new. RanWith new (act.PutPage 5 page) act.Stopped) (sym e) record {
    card_orders = sent-still OfArg 2 1 start.card_orders old.card_orders h _ record { moves = refl; stops = refl; told = refl } ran.card_orders;
    cards = took-still OfPage 2 2 start.cards old.cards h _ record { moves = refl; stops = refl; told = refl } ran.cards;
    card_reports = took-still OfArg 2 3 start.card_reports old.card_reports h _ record { moves = refl; stops = refl; told = refl } ran.card_reports;
    print_orders = sent-still OfArg 2 4 start.print_orders old.print_orders h _ record { moves = refl; stops = refl; told = refl } ran.print_orders;
    pages = sent-call OfPage 2 5 start.pages old.pages h _ (slot.PutRefused page) record { moves = refl; stops = refl; told = refl } ran.pages;
    print_reports = took-still OfArg 2 6 start.print_reports old.print_reports h _ record { moves = refl; stops = refl; told = refl } ran.print_reports;
    keys = reads-still w.left w.taken w.keys_faults start.typewriter.keys old.typewriter.keys (caused view job h) _ (λ e. cc) (λ e. cc) ran.keys;
    console = lines-still w.given w.console_faults cause.ConsoleFault start.typewriter.console old.typewriter.console (caused view job h) _ (λ e. cc) ran.console;
    files = files-still w.sound w.files_faults start.files old.files (caused view job h) _ (λ e. cc) ran.files;
    told = λ d told. (let was = ran.told d told in ((refl, was.0), record { keys = was.1.keys; console = was.1.console; work = λ none plan is. was.1.work (or-none (caused view job h) _ none) plan is }));
  }

  pub carded : (new : JobSide Y T F) (page : Page) → new ≡ record old { cards = took old.cards (slot.Take page) } → RanWith new (act.TakePage 2) (act.OfPage page)
  carded new page e = subst (λ new. RanWith new (act.TakePage 2) (act.OfPage page)) (sym e) record {
    card_orders = sent-still OfArg 2 1 start.card_orders old.card_orders h _ record { moves = refl; stops = refl; told = refl } ran.card_orders;
    cards = took-call OfPage 2 2 start.cards old.cards h _ (slot.Take page) record { moves = refl; stops = refl; told = refl } ran.cards;
    card_reports = took-still OfArg 2 3 start.card_reports old.card_reports h _ record { moves = refl; stops = refl; told = refl } ran.card_reports;
    print_orders = sent-still OfArg 2 4 start.print_orders old.print_orders h _ record { moves = refl; stops = refl; told = refl } ran.print_orders;
    pages = sent-still OfPage 2 5 start.pages old.pages h _ record { moves = refl; stops = refl; told = refl } ran.pages;
    print_reports = took-still OfArg 2 6 start.print_reports old.print_reports h _ record { moves = refl; stops = refl; told = refl } ran.print_reports;
    keys = reads-still w.left w.taken w.keys_faults start.typewriter.keys old.typewriter.keys (caused view job h) _ (λ e. page-read (place job h) page e) (λ e. page-limit (place job h) page e) ran.keys;
    console = lines-still w.given w.console_faults cause.ConsoleFault start.typewriter.console old.typewriter.console (caused view job h) _ (λ e. page-console (place job h) page e) ran.console;
    files = files-still w.sound w.files_faults start.files old.files (caused view job h) _ (λ e. page-disk (place job h) page e) ran.files;
    told = λ d told. (let was = ran.told d told in ((refl, was.0), record { keys = was.1.keys; console = was.1.console; work = λ none plan is. was.1.work (or-none (caused view job h) _ none) plan is }));
  }

  pub uncarded : (new : JobSide Y T F) → new ≡ record old { cards = took old.cards slot.TakeRefused } → RanWith new (act.TakePage 2) act.Stopped
  uncarded new e = subst (λ new. RanWith new (act.TakePage 2) act.Stopped) (sym e) record {
    card_orders = sent-still OfArg 2 1 start.card_orders old.card_orders h _ record { moves = refl; stops = refl; told = refl } ran.card_orders;
    cards = took-call OfPage 2 2 start.cards old.cards h _ (slot.TakeRefused) record { moves = refl; stops = refl; told = refl } ran.cards;
    card_reports = took-still OfArg 2 3 start.card_reports old.card_reports h _ record { moves = refl; stops = refl; told = refl } ran.card_reports;
    print_orders = sent-still OfArg 2 4 start.print_orders old.print_orders h _ record { moves = refl; stops = refl; told = refl } ran.print_orders;
    pages = sent-still OfPage 2 5 start.pages old.pages h _ record { moves = refl; stops = refl; told = refl } ran.pages;
    print_reports = took-still OfArg 2 6 start.print_reports old.print_reports h _ record { moves = refl; stops = refl; told = refl } ran.print_reports;
    keys = reads-still w.left w.taken w.keys_faults start.typewriter.keys old.typewriter.keys (caused view job h) _ (λ e. cc) (λ e. cc) ran.keys;
    console = lines-still w.given w.console_faults cause.ConsoleFault start.typewriter.console old.typewriter.console (caused view job h) _ (λ e. cc) ran.console;
    files = files-still w.sound w.files_faults start.files old.files (caused view job h) _ (λ e. cc) ran.files;
    told = λ d told. (let was = ran.told d told in ((refl, was.0), record { keys = was.1.keys; console = was.1.console; work = λ none plan is. was.1.work (or-none (caused view job h) _ none) plan is }));
  }

  pub stopped-1 : (new : JobSide Y T F) → new ≡ job_stopped 1 old → RanWith new (act.Stop 1) act.Done
  stopped-1 new e = subst (λ new. RanWith new (act.Stop 1) act.Done) (sym e) record {
    card_orders = sent-call OfArg 2 1 start.card_orders old.card_orders h _ (slot.Stop Sender) record { moves = refl; stops = refl; told = refl } ran.card_orders;
    cards = took-still OfPage 2 2 start.cards old.cards h _ record { moves = refl; stops = refl; told = refl } ran.cards;
    card_reports = took-still OfArg 2 3 start.card_reports old.card_reports h _ record { moves = refl; stops = refl; told = refl } ran.card_reports;
    print_orders = sent-still OfArg 2 4 start.print_orders old.print_orders h _ record { moves = refl; stops = refl; told = refl } ran.print_orders;
    pages = sent-still OfPage 2 5 start.pages old.pages h _ record { moves = refl; stops = refl; told = refl } ran.pages;
    print_reports = took-still OfArg 2 6 start.print_reports old.print_reports h _ record { moves = refl; stops = refl; told = refl } ran.print_reports;
    keys = reads-still w.left w.taken w.keys_faults start.typewriter.keys old.typewriter.keys (caused view job h) _ (λ e. quiet (place job h) act.Done (outcome.Fault cause.ReadFault) (λ page e. cc) e) (λ e. quiet (place job h) act.Done (outcome.Fault cause.DeckLimit) (λ page e. cc) e) ran.keys;
    console = lines-still w.given w.console_faults cause.ConsoleFault start.typewriter.console old.typewriter.console (caused view job h) _ (λ e. quiet (place job h) act.Done (outcome.Fault cause.ConsoleFault) (λ page e. cc) e) ran.console;
    files = files-still w.sound w.files_faults start.files old.files (caused view job h) _ (λ e. quiet (place job h) act.Done (outcome.Fault cause.DiskFault) (λ page e. cc) e) ran.files;
    told = λ d told. (let was = ran.told d told in ((refl, was.0), record { keys = was.1.keys; console = was.1.console; work = λ none plan is. was.1.work (or-none (caused view job h) _ none) plan is }));
  }

  pub stopped-2 : (new : JobSide Y T F) → new ≡ job_stopped 2 old → RanWith new (act.Stop 2) act.Done
  stopped-2 new e = subst (λ new. RanWith new (act.Stop 2) act.Done) (sym e) record {
    card_orders = sent-still OfArg 2 1 start.card_orders old.card_orders h _ record { moves = refl; stops = refl; told = refl } ran.card_orders;
    cards = took-call OfPage 2 2 start.cards old.cards h _ (slot.Stop Receiver) record { moves = refl; stops = refl; told = refl } ran.cards;
    card_reports = took-still OfArg 2 3 start.card_reports old.card_reports h _ record { moves = refl; stops = refl; told = refl } ran.card_reports;
    print_orders = sent-still OfArg 2 4 start.print_orders old.print_orders h _ record { moves = refl; stops = refl; told = refl } ran.print_orders;
    pages = sent-still OfPage 2 5 start.pages old.pages h _ record { moves = refl; stops = refl; told = refl } ran.pages;
    print_reports = took-still OfArg 2 6 start.print_reports old.print_reports h _ record { moves = refl; stops = refl; told = refl } ran.print_reports;
    keys = reads-still w.left w.taken w.keys_faults start.typewriter.keys old.typewriter.keys (caused view job h) _ (λ e. quiet (place job h) act.Done (outcome.Fault cause.ReadFault) (λ page e. cc) e) (λ e. quiet (place job h) act.Done (outcome.Fault cause.DeckLimit) (λ page e. cc) e) ran.keys;
    console = lines-still w.given w.console_faults cause.ConsoleFault start.typewriter.console old.typewriter.console (caused view job h) _ (λ e. quiet (place job h) act.Done (outcome.Fault cause.ConsoleFault) (λ page e. cc) e) ran.console;
    files = files-still w.sound w.files_faults start.files old.files (caused view job h) _ (λ e. quiet (place job h) act.Done (outcome.Fault cause.DiskFault) (λ page e. cc) e) ran.files;
    told = λ d told. (let was = ran.told d told in ((refl, was.0), record { keys = was.1.keys; console = was.1.console; work = λ none plan is. was.1.work (or-none (caused view job h) _ none) plan is }));
  }

  pub stopped-3 : (new : JobSide Y T F) → new ≡ job_stopped 3 old → RanWith new (act.Stop 3) act.Done
  stopped-3 new e = subst (λ new. RanWith new (act.Stop 3) act.Done) (sym e) record {
    card_orders = sent-still OfArg 2 1 start.card_orders old.card_orders h _ record { moves = refl; stops = refl; told = refl } ran.card_orders;
    cards = took-still OfPage 2 2 start.cards old.cards h _ record { moves = refl; stops = refl; told = refl } ran.cards;
    card_reports = took-call OfArg 2 3 start.card_reports old.card_reports h _ (slot.Stop Receiver) record { moves = refl; stops = refl; told = refl } ran.card_reports;
    print_orders = sent-still OfArg 2 4 start.print_orders old.print_orders h _ record { moves = refl; stops = refl; told = refl } ran.print_orders;
    pages = sent-still OfPage 2 5 start.pages old.pages h _ record { moves = refl; stops = refl; told = refl } ran.pages;
    print_reports = took-still OfArg 2 6 start.print_reports old.print_reports h _ record { moves = refl; stops = refl; told = refl } ran.print_reports;
    keys = reads-still w.left w.taken w.keys_faults start.typewriter.keys old.typewriter.keys (caused view job h) _ (λ e. quiet (place job h) act.Done (outcome.Fault cause.ReadFault) (λ page e. cc) e) (λ e. quiet (place job h) act.Done (outcome.Fault cause.DeckLimit) (λ page e. cc) e) ran.keys;
    console = lines-still w.given w.console_faults cause.ConsoleFault start.typewriter.console old.typewriter.console (caused view job h) _ (λ e. quiet (place job h) act.Done (outcome.Fault cause.ConsoleFault) (λ page e. cc) e) ran.console;
    files = files-still w.sound w.files_faults start.files old.files (caused view job h) _ (λ e. quiet (place job h) act.Done (outcome.Fault cause.DiskFault) (λ page e. cc) e) ran.files;
    told = λ d told. (let was = ran.told d told in ((refl, was.0), record { keys = was.1.keys; console = was.1.console; work = λ none plan is. was.1.work (or-none (caused view job h) _ none) plan is }));
  }

  pub stopped-4 : (new : JobSide Y T F) → new ≡ job_stopped 4 old → RanWith new (act.Stop 4) act.Done
  stopped-4 new e = subst (λ new. RanWith new (act.Stop 4) act.Done) (sym e) record {
    card_orders = sent-still OfArg 2 1 start.card_orders old.card_orders h _ record { moves = refl; stops = refl; told = refl } ran.card_orders;
    cards = took-still OfPage 2 2 start.cards old.cards h _ record { moves = refl; stops = refl; told = refl } ran.cards;
    card_reports = took-still OfArg 2 3 start.card_reports old.card_reports h _ record { moves = refl; stops = refl; told = refl } ran.card_reports;
    print_orders = sent-call OfArg 2 4 start.print_orders old.print_orders h _ (slot.Stop Sender) record { moves = refl; stops = refl; told = refl } ran.print_orders;
    pages = sent-still OfPage 2 5 start.pages old.pages h _ record { moves = refl; stops = refl; told = refl } ran.pages;
    print_reports = took-still OfArg 2 6 start.print_reports old.print_reports h _ record { moves = refl; stops = refl; told = refl } ran.print_reports;
    keys = reads-still w.left w.taken w.keys_faults start.typewriter.keys old.typewriter.keys (caused view job h) _ (λ e. quiet (place job h) act.Done (outcome.Fault cause.ReadFault) (λ page e. cc) e) (λ e. quiet (place job h) act.Done (outcome.Fault cause.DeckLimit) (λ page e. cc) e) ran.keys;
    console = lines-still w.given w.console_faults cause.ConsoleFault start.typewriter.console old.typewriter.console (caused view job h) _ (λ e. quiet (place job h) act.Done (outcome.Fault cause.ConsoleFault) (λ page e. cc) e) ran.console;
    files = files-still w.sound w.files_faults start.files old.files (caused view job h) _ (λ e. quiet (place job h) act.Done (outcome.Fault cause.DiskFault) (λ page e. cc) e) ran.files;
    told = λ d told. (let was = ran.told d told in ((refl, was.0), record { keys = was.1.keys; console = was.1.console; work = λ none plan is. was.1.work (or-none (caused view job h) _ none) plan is }));
  }

  pub stopped-5 : (new : JobSide Y T F) → new ≡ job_stopped 5 old → RanWith new (act.Stop 5) act.Done
  stopped-5 new e = subst (λ new. RanWith new (act.Stop 5) act.Done) (sym e) record {
    card_orders = sent-still OfArg 2 1 start.card_orders old.card_orders h _ record { moves = refl; stops = refl; told = refl } ran.card_orders;
    cards = took-still OfPage 2 2 start.cards old.cards h _ record { moves = refl; stops = refl; told = refl } ran.cards;
    card_reports = took-still OfArg 2 3 start.card_reports old.card_reports h _ record { moves = refl; stops = refl; told = refl } ran.card_reports;
    print_orders = sent-still OfArg 2 4 start.print_orders old.print_orders h _ record { moves = refl; stops = refl; told = refl } ran.print_orders;
    pages = sent-call OfPage 2 5 start.pages old.pages h _ (slot.Stop Sender) record { moves = refl; stops = refl; told = refl } ran.pages;
    print_reports = took-still OfArg 2 6 start.print_reports old.print_reports h _ record { moves = refl; stops = refl; told = refl } ran.print_reports;
    keys = reads-still w.left w.taken w.keys_faults start.typewriter.keys old.typewriter.keys (caused view job h) _ (λ e. quiet (place job h) act.Done (outcome.Fault cause.ReadFault) (λ page e. cc) e) (λ e. quiet (place job h) act.Done (outcome.Fault cause.DeckLimit) (λ page e. cc) e) ran.keys;
    console = lines-still w.given w.console_faults cause.ConsoleFault start.typewriter.console old.typewriter.console (caused view job h) _ (λ e. quiet (place job h) act.Done (outcome.Fault cause.ConsoleFault) (λ page e. cc) e) ran.console;
    files = files-still w.sound w.files_faults start.files old.files (caused view job h) _ (λ e. quiet (place job h) act.Done (outcome.Fault cause.DiskFault) (λ page e. cc) e) ran.files;
    told = λ d told. (let was = ran.told d told in ((refl, was.0), record { keys = was.1.keys; console = was.1.console; work = λ none plan is. was.1.work (or-none (caused view job h) _ none) plan is }));
  }

  pub stopped-6 : (new : JobSide Y T F) → new ≡ job_stopped 6 old → RanWith new (act.Stop 6) act.Done
  stopped-6 new e = subst (λ new. RanWith new (act.Stop 6) act.Done) (sym e) record {
    card_orders = sent-still OfArg 2 1 start.card_orders old.card_orders h _ record { moves = refl; stops = refl; told = refl } ran.card_orders;
    cards = took-still OfPage 2 2 start.cards old.cards h _ record { moves = refl; stops = refl; told = refl } ran.cards;
    card_reports = took-still OfArg 2 3 start.card_reports old.card_reports h _ record { moves = refl; stops = refl; told = refl } ran.card_reports;
    print_orders = sent-still OfArg 2 4 start.print_orders old.print_orders h _ record { moves = refl; stops = refl; told = refl } ran.print_orders;
    pages = sent-still OfPage 2 5 start.pages old.pages h _ record { moves = refl; stops = refl; told = refl } ran.pages;
    print_reports = took-call OfArg 2 6 start.print_reports old.print_reports h _ (slot.Stop Receiver) record { moves = refl; stops = refl; told = refl } ran.print_reports;
    keys = reads-still w.left w.taken w.keys_faults start.typewriter.keys old.typewriter.keys (caused view job h) _ (λ e. quiet (place job h) act.Done (outcome.Fault cause.ReadFault) (λ page e. cc) e) (λ e. quiet (place job h) act.Done (outcome.Fault cause.DeckLimit) (λ page e. cc) e) ran.keys;
    console = lines-still w.given w.console_faults cause.ConsoleFault start.typewriter.console old.typewriter.console (caused view job h) _ (λ e. quiet (place job h) act.Done (outcome.Fault cause.ConsoleFault) (λ page e. cc) e) ran.console;
    files = files-still w.sound w.files_faults start.files old.files (caused view job h) _ (λ e. quiet (place job h) act.Done (outcome.Fault cause.DiskFault) (λ page e. cc) e) ran.files;
    told = λ d told. (let was = ran.told d told in ((refl, was.0), record { keys = was.1.keys; console = was.1.console; work = λ none plan is. was.1.work (or-none (caused view job h) _ none) plan is }));
  }

  pub ended : (new : JobSide Y T F) (how : Outcome) → new ≡ old → RanWith new (act.Ended how) act.Done
  ended new how e = subst (λ new. RanWith new (act.Ended how) act.Done) (sym e) record {
    card_orders = sent-still OfArg 2 1 start.card_orders old.card_orders h _ record { moves = refl; stops = refl; told = refl } ran.card_orders;
    cards = took-still OfPage 2 2 start.cards old.cards h _ record { moves = refl; stops = refl; told = refl } ran.cards;
    card_reports = took-still OfArg 2 3 start.card_reports old.card_reports h _ record { moves = refl; stops = refl; told = refl } ran.card_reports;
    print_orders = sent-still OfArg 2 4 start.print_orders old.print_orders h _ record { moves = refl; stops = refl; told = refl } ran.print_orders;
    pages = sent-still OfPage 2 5 start.pages old.pages h _ record { moves = refl; stops = refl; told = refl } ran.pages;
    print_reports = took-still OfArg 2 6 start.print_reports old.print_reports h _ record { moves = refl; stops = refl; told = refl } ran.print_reports;
    keys = reads-still w.left w.taken w.keys_faults start.typewriter.keys old.typewriter.keys (caused view job h) _ (λ e. quiet (place job h) act.Done (outcome.Fault cause.ReadFault) (λ page e. cc) e) (λ e. quiet (place job h) act.Done (outcome.Fault cause.DeckLimit) (λ page e. cc) e) ran.keys;
    console = lines-still w.given w.console_faults cause.ConsoleFault start.typewriter.console old.typewriter.console (caused view job h) _ (λ e. quiet (place job h) act.Done (outcome.Fault cause.ConsoleFault) (λ page e. cc) e) ran.console;
    files = files-still w.sound w.files_faults start.files old.files (caused view job h) _ (λ e. quiet (place job h) act.Done (outcome.Fault cause.DiskFault) (λ page e. cc) e) ran.files;
    told = λ d told. (let was = ran.told d told in ((refl, was.0), record { keys = was.1.keys; console = was.1.console; work = λ none plan is. was.1.work (or-none (caused view job h) _ none) plan is }));
  }

  -- the memory to keep a page's cards was refused
  pub lacked : (new : JobSide Y T F) (page : Page) → caused view job h ≡ None → new ≡ record old { cards = took old.cards (slot.Take page) }
      → JobRan w plans start new (record { entry = LacksMemory (act.TakePage 2) (act.OfPage page); gained = [] } ∷ deeds)
  lacked new page free e =
      let P : JobSide Y T F → Type 0 =
      λ new. JobRan w plans start new (record { entry = LacksMemory (act.TakePage 2) (act.OfPage page); gained = [] } ∷ deeds) in
      subst P (sym e) record {
        card_orders = sent-still OfArg 2 1 start.card_orders old.card_orders h _ record { moves = refl; stops = refl; told = refl } ran.card_orders;
        cards = took-call OfPage 2 2 start.cards old.cards h _ (slot.Take page) record { moves = refl; stops = refl; told = refl } ran.cards;
        card_reports = took-still OfArg 2 3 start.card_reports old.card_reports h _ record { moves = refl; stops = refl; told = refl } ran.card_reports;
        print_orders = sent-still OfArg 2 4 start.print_orders old.print_orders h _ record { moves = refl; stops = refl; told = refl } ran.print_orders;
        pages = sent-still OfPage 2 5 start.pages old.pages h _ record { moves = refl; stops = refl; told = refl } ran.pages;
        print_reports = took-still OfArg 2 6 start.print_reports old.print_reports h _ record { moves = refl; stops = refl; told = refl } ran.print_reports;
        keys = reads-still w.left w.taken w.keys_faults start.typewriter.keys old.typewriter.keys (caused view job h) _ (λ e. cc) (λ e. cc) ran.keys;
        console = lines-still w.given w.console_faults cause.ConsoleFault start.typewriter.console old.typewriter.console (caused view job h) _
            (λ e. cc) ran.console;
        files = files-still w.sound w.files_faults start.files old.files (caused view job h) _ (λ e. cc) ran.files;
        told = λ d told. (
            let was = ran.told d told in (
              (refl, was.0),
              record {
                keys = was.1.keys;
                console = was.1.console;
                work = λ none. (let no = sym (ap (λ old. or_new old (Some (outcome.Fault cause.NoMemory))) free) ∙ none in absurd cc);
              },
            )
            );
      }
