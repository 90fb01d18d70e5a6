-- The job process puts an argument or takes one, and its side of the buffers stands for one deed more.
use Rattle.std.proofs.Common.{◌≡◌, List, [], ◌∷◌, refl, sym, subst}
use Rattle.solo_base.specs.declared.system_call.Arg.{Arg}
use Rattle.solo_base.specs.declared.outcome.Outcome.TheVariants as outcome
use Rattle.solo_base.specs.declared.outcome.Cause.TheVariants as cause
use Rattle.slot_buffer.specs.declared.call.SlotCall.TheVariants as slot
use Rattle.exchange_law.specs.Parcels.{OfArg, OfPage}
use Rattle.place_law.specs.Process.{Does, place, caused}
use Rattle.place_law.proofs.Nexts.{or-none}
use Rattle.solo_law.specs.Work.{Plan}
use Rattle.solo_law.specs.Actions.{Action, Reply}
use Rattle.solo_law.specs.Actions as act
use Rattle.solo_law.specs.Replies.{view}
use Rattle.solo_law.specs.JobPlaces.{job}
use Rattle.solo_law.specs.Solo.{SoloEntry}
use Rattle.solo_threads.specs.Threads.{Deed, entries}
use Rattle.solo_run.specs.declared.job_side.JobSide.{JobSide}
use Rattle.solo_run.specs.Job.{JobWorld, JobRan, ordered_at, reported_at}
use Rattle.solo_run.proofs.EndSteps.{sent-call, sent-still, took-call, took-still}
use Rattle.solo_run.proofs.DeviceSteps.{reads-still, lines-still}
use Rattle.solo_run.proofs.JobCauses.{quiet, files-still}

module _ {Y T F : Type 0} (w : JobWorld Y T F) (plans : Plan → Type 0) (start old : JobSide Y T F) (deeds : List Deed)
    (ran : JobRan w plans start old deeds) where
  abbrev h : List SoloEntry
  h = entries deeds

  abbrev RanWith : JobSide Y T F → Action → Reply → Type 0
  RanWith new a r = JobRan w plans start new (record { entry = Does a r; gained = [] } ∷ deeds)

  pub ordered-1 : (new : JobSide Y T F) (x : Arg) → new ≡ ordered_at 1 (slot.Put x) old → RanWith new (act.PutArg 1 x) act.Done
  ordered-1 new x e = subst (λ new. RanWith new (act.PutArg 1 x) act.Done) (sym e) record {
    card_orders = sent-call OfArg 2 1 start.card_orders old.card_orders h _ (slot.Put x) record { moves = refl; stops = refl; told = refl } ran.card_orders;
    cards = took-still OfPage 2 2 start.cards old.cards h _ record { moves = refl; stops = refl; told = refl } ran.cards;
    card_reports = took-still OfArg 2 3 start.card_reports old.card_reports h _ record { moves = refl; stops = refl; told = refl } ran.card_reports;
    print_orders = sent-still OfArg 2 4 start.print_orders old.print_orders h _ record { moves = refl; stops = refl; told = refl } ran.print_orders;
    pages = sent-still OfPage 2 5 start.pages old.pages h _ record { moves = refl; stops = refl; told = refl } ran.pages;
    print_reports = took-still OfArg 2 6 start.print_reports old.print_reports h _ record { moves = refl; stops = refl; told = refl } ran.print_reports;
    keys = reads-still w.left w.taken w.keys_faults start.typewriter.keys old.typewriter.keys (caused view job h) _ (λ e. quiet (place job h) act.Done (outcome.Fault cause.ReadFault) (λ page e. cc) e) (λ e. quiet (place job h) act.Done (outcome.Fault cause.DeckLimit) (λ page e. cc) e) ran.keys;
    console = lines-still w.given w.console_faults cause.ConsoleFault start.typewriter.console old.typewriter.console (caused view job h) _ (λ e. quiet (place job h) act.Done (outcome.Fault cause.ConsoleFault) (λ page e. cc) e) ran.console;
    files = files-still w.sound w.files_faults start.files old.files (caused view job h) _ (λ e. quiet (place job h) act.Done (outcome.Fault cause.DiskFault) (λ page e. cc) e) ran.files;
    told = λ d told. (let was = ran.told d told in ((refl, was.0), record { keys = was.1.keys; console = was.1.console; work = λ none plan is. was.1.work (or-none (caused view job h) _ none) plan is }));
  }

  pub unordered-1 : (new : JobSide Y T F) (x : Arg) → new ≡ ordered_at 1 (slot.PutRefused x) old → RanWith new (act.PutArg 1 x) act.Stopped
  unordered-1 new x e = subst (λ new. RanWith new (act.PutArg 1 x) act.Stopped) (sym e) record {
    card_orders = sent-call OfArg 2 1 start.card_orders old.card_orders h _ (slot.PutRefused x) record { moves = refl; stops = refl; told = refl } ran.card_orders;
    cards = took-still OfPage 2 2 start.cards old.cards h _ record { moves = refl; stops = refl; told = refl } ran.cards;
    card_reports = took-still OfArg 2 3 start.card_reports old.card_reports h _ record { moves = refl; stops = refl; told = refl } ran.card_reports;
    print_orders = sent-still OfArg 2 4 start.print_orders old.print_orders h _ record { moves = refl; stops = refl; told = refl } ran.print_orders;
    pages = sent-still OfPage 2 5 start.pages old.pages h _ record { moves = refl; stops = refl; told = refl } ran.pages;
    print_reports = took-still OfArg 2 6 start.print_reports old.print_reports h _ record { moves = refl; stops = refl; told = refl } ran.print_reports;
    keys = reads-still w.left w.taken w.keys_faults start.typewriter.keys old.typewriter.keys (caused view job h) _ (λ e. cc) (λ e. cc) ran.keys;
    console = lines-still w.given w.console_faults cause.ConsoleFault start.typewriter.console old.typewriter.console (caused view job h) _ (λ e. cc) ran.console;
    files = files-still w.sound w.files_faults start.files old.files (caused view job h) _ (λ e. cc) ran.files;
    told = λ d told. (let was = ran.told d told in ((refl, was.0), record { keys = was.1.keys; console = was.1.console; work = λ none plan is. was.1.work (or-none (caused view job h) _ none) plan is }));
  }

  pub ordered-4 : (new : JobSide Y T F) (x : Arg) → new ≡ ordered_at 4 (slot.Put x) old → RanWith new (act.PutArg 4 x) act.Done
  ordered-4 new x e = subst (λ new. RanWith new (act.PutArg 4 x) act.Done) (sym e) record {
    card_orders = sent-still OfArg 2 1 start.card_orders old.card_orders h _ record { moves = refl; stops = refl; told = refl } ran.card_orders;
    cards = took-still OfPage 2 2 start.cards old.cards h _ record { moves = refl; stops = refl; told = refl } ran.cards;
    card_reports = took-still OfArg 2 3 start.card_reports old.card_reports h _ record { moves = refl; stops = refl; told = refl } ran.card_reports;
    print_orders = sent-call OfArg 2 4 start.print_orders old.print_orders h _ (slot.Put x) record { moves = refl; stops = refl; told = refl } ran.print_orders;
    pages = sent-still OfPage 2 5 start.pages old.pages h _ record { moves = refl; stops = refl; told = refl } ran.pages;
    print_reports = took-still OfArg 2 6 start.print_reports old.print_reports h _ record { moves = refl; stops = refl; told = refl } ran.print_reports;
    keys = reads-still w.left w.taken w.keys_faults start.typewriter.keys old.typewriter.keys (caused view job h) _ (λ e. quiet (place job h) act.Done (outcome.Fault cause.ReadFault) (λ page e. cc) e) (λ e. quiet (place job h) act.Done (outcome.Fault cause.DeckLimit) (λ page e. cc) e) ran.keys;
    console = lines-still w.given w.console_faults cause.ConsoleFault start.typewriter.console old.typewriter.console (caused view job h) _ (λ e. quiet (place job h) act.Done (outcome.Fault cause.ConsoleFault) (λ page e. cc) e) ran.console;
    files = files-still w.sound w.files_faults start.files old.files (caused view job h) _ (λ e. quiet (place job h) act.Done (outcome.Fault cause.DiskFault) (λ page e. cc) e) ran.files;
    told = λ d told. (let was = ran.told d told in ((refl, was.0), record { keys = was.1.keys; console = was.1.console; work = λ none plan is. was.1.work (or-none (caused view job h) _ none) plan is }));
  }

  pub unordered-4 : (new : JobSide Y T F) (x : Arg) → new ≡ ordered_at 4 (slot.PutRefused x) old → RanWith new (act.PutArg 4 x) act.Stopped
  unordered-4 new x e = subst (λ new. RanWith new (act.PutArg 4 x) act.Stopped) (sym e) record {
    card_orders = sent-still OfArg 2 1 start.card_orders old.card_orders h _ record { moves = refl; stops = refl; told = refl } ran.card_orders;
    cards = took-still OfPage 2 2 start.cards old.cards h _ record { moves = refl; stops = refl; told = refl } ran.cards;
    card_reports = took-still OfArg 2 3 start.card_reports old.card_reports h _ record { moves = refl; stops = refl; told = refl } ran.card_reports;
    print_orders = sent-call OfArg 2 4 start.print_orders old.print_orders h _ (slot.PutRefused x) record { moves = refl; stops = refl; told = refl } ran.print_orders;
    pages = sent-still OfPage 2 5 start.pages old.pages h _ record { moves = refl; stops = refl; told = refl } ran.pages;
    print_reports = took-still OfArg 2 6 start.print_reports old.print_reports h _ record { moves = refl; stops = refl; told = refl } ran.print_reports;
    keys = reads-still w.left w.taken w.keys_faults start.typewriter.keys old.typewriter.keys (caused view job h) _ (λ e. cc) (λ e. cc) ran.keys;
    console = lines-still w.given w.console_faults cause.ConsoleFault start.typewriter.console old.typewriter.console (caused view job h) _ (λ e. cc) ran.console;
    files = files-still w.sound w.files_faults start.files old.files (caused view job h) _ (λ e. cc) ran.files;
    told = λ d told. (let was = ran.told d told in ((refl, was.0), record { keys = was.1.keys; console = was.1.console; work = λ none plan is. was.1.work (or-none (caused view job h) _ none) plan is }));
  }

  pub reported-3 : (new : JobSide Y T F) (x : Arg) → new ≡ reported_at 3 (slot.Take x) old → RanWith new (act.TakeArg 3) (act.OfArg x)
  reported-3 new x e = subst (λ new. RanWith new (act.TakeArg 3) (act.OfArg x)) (sym e) record {
    card_orders = sent-still OfArg 2 1 start.card_orders old.card_orders h _ record { moves = refl; stops = refl; told = refl } ran.card_orders;
    cards = took-still OfPage 2 2 start.cards old.cards h _ record { moves = refl; stops = refl; told = refl } ran.cards;
    card_reports = took-call OfArg 2 3 start.card_reports old.card_reports h _ (slot.Take x) record { moves = refl; stops = refl; told = refl } ran.card_reports;
    print_orders = sent-still OfArg 2 4 start.print_orders old.print_orders h _ record { moves = refl; stops = refl; told = refl } ran.print_orders;
    pages = sent-still OfPage 2 5 start.pages old.pages h _ record { moves = refl; stops = refl; told = refl } ran.pages;
    print_reports = took-still OfArg 2 6 start.print_reports old.print_reports h _ record { moves = refl; stops = refl; told = refl } ran.print_reports;
    keys = reads-still w.left w.taken w.keys_faults start.typewriter.keys old.typewriter.keys (caused view job h) _ (λ e. quiet (place job h) (act.OfArg x) (outcome.Fault cause.ReadFault) (λ page e. cc) e) (λ e. quiet (place job h) (act.OfArg x) (outcome.Fault cause.DeckLimit) (λ page e. cc) e) ran.keys;
    console = lines-still w.given w.console_faults cause.ConsoleFault start.typewriter.console old.typewriter.console (caused view job h) _ (λ e. quiet (place job h) (act.OfArg x) (outcome.Fault cause.ConsoleFault) (λ page e. cc) e) ran.console;
    files = files-still w.sound w.files_faults start.files old.files (caused view job h) _ (λ e. quiet (place job h) (act.OfArg x) (outcome.Fault cause.DiskFault) (λ page e. cc) e) ran.files;
    told = λ d told. (let was = ran.told d told in ((refl, was.0), record { keys = was.1.keys; console = was.1.console; work = λ none plan is. was.1.work (or-none (caused view job h) _ none) plan is }));
  }

  pub unreported-3 : (new : JobSide Y T F) → new ≡ reported_at 3 slot.TakeRefused old → RanWith new (act.TakeArg 3) act.Stopped
  unreported-3 new e = subst (λ new. RanWith new (act.TakeArg 3) act.Stopped) (sym e) record {
    card_orders = sent-still OfArg 2 1 start.card_orders old.card_orders h _ record { moves = refl; stops = refl; told = refl } ran.card_orders;
    cards = took-still OfPage 2 2 start.cards old.cards h _ record { moves = refl; stops = refl; told = refl } ran.cards;
    card_reports = took-call OfArg 2 3 start.card_reports old.card_reports h _ (slot.TakeRefused) record { moves = refl; stops = refl; told = refl } ran.card_reports;
    print_orders = sent-still OfArg 2 4 start.print_orders old.print_orders h _ record { moves = refl; stops = refl; told = refl } ran.print_orders;
    pages = sent-still OfPage 2 5 start.pages old.pages h _ record { moves = refl; stops = refl; told = refl } ran.pages;
    print_reports = took-still OfArg 2 6 start.print_reports old.print_reports h _ record { moves = refl; stops = refl; told = refl } ran.print_reports;
    keys = reads-still w.left w.taken w.keys_faults start.typewriter.keys old.typewriter.keys (caused view job h) _ (λ e. cc) (λ e. cc) ran.keys;
    console = lines-still w.given w.console_faults cause.ConsoleFault start.typewriter.console old.typewriter.console (caused view job h) _ (λ e. cc) ran.console;
    files = files-still w.sound w.files_faults start.files old.files (caused view job h) _ (λ e. cc) ran.files;
    told = λ d told. (let was = ran.told d told in ((refl, was.0), record { keys = was.1.keys; console = was.1.console; work = λ none plan is. was.1.work (or-none (caused view job h) _ none) plan is }));
  }

  pub reported-6 : (new : JobSide Y T F) (x : Arg) → new ≡ reported_at 6 (slot.Take x) old → RanWith new (act.TakeArg 6) (act.OfArg x)
  reported-6 new x e = subst (λ new. RanWith new (act.TakeArg 6) (act.OfArg x)) (sym e) record {
    card_orders = sent-still OfArg 2 1 start.card_orders old.card_orders h _ record { moves = refl; stops = refl; told = refl } ran.card_orders;
    cards = took-still OfPage 2 2 start.cards old.cards h _ record { moves = refl; stops = refl; told = refl } ran.cards;
    card_reports = took-still OfArg 2 3 start.card_reports old.card_reports h _ record { moves = refl; stops = refl; told = refl } ran.card_reports;
    print_orders = sent-still OfArg 2 4 start.print_orders old.print_orders h _ record { moves = refl; stops = refl; told = refl } ran.print_orders;
    pages = sent-still OfPage 2 5 start.pages old.pages h _ record { moves = refl; stops = refl; told = refl } ran.pages;
    print_reports = took-call OfArg 2 6 start.print_reports old.print_reports h _ (slot.Take x) record { moves = refl; stops = refl; told = refl } ran.print_reports;
    keys = reads-still w.left w.taken w.keys_faults start.typewriter.keys old.typewriter.keys (caused view job h) _ (λ e. quiet (place job h) (act.OfArg x) (outcome.Fault cause.ReadFault) (λ page e. cc) e) (λ e. quiet (place job h) (act.OfArg x) (outcome.Fault cause.DeckLimit) (λ page e. cc) e) ran.keys;
    console = lines-still w.given w.console_faults cause.ConsoleFault start.typewriter.console old.typewriter.console (caused view job h) _ (λ e. quiet (place job h) (act.OfArg x) (outcome.Fault cause.ConsoleFault) (λ page e. cc) e) ran.console;
    files = files-still w.sound w.files_faults start.files old.files (caused view job h) _ (λ e. quiet (place job h) (act.OfArg x) (outcome.Fault cause.DiskFault) (λ page e. cc) e) ran.files;
    told = λ d told. (let was = ran.told d told in ((refl, was.0), record { keys = was.1.keys; console = was.1.console; work = λ none plan is. was.1.work (or-none (caused view job h) _ none) plan is }));
  }

  pub unreported-6 : (new : JobSide Y T F) → new ≡ reported_at 6 slot.TakeRefused old → RanWith new (act.TakeArg 6) act.Stopped
  unreported-6 new e = subst (λ new. RanWith new (act.TakeArg 6) act.Stopped) (sym e) record {
    card_orders = sent-still OfArg 2 1 start.card_orders old.card_orders h _ record { moves = refl; stops = refl; told = refl } ran.card_orders;
    cards = took-still OfPage 2 2 start.cards old.cards h _ record { moves = refl; stops = refl; told = refl } ran.cards;
    card_reports = took-still OfArg 2 3 start.card_reports old.card_reports h _ record { moves = refl; stops = refl; told = refl } ran.card_reports;
    print_orders = sent-still OfArg 2 4 start.print_orders old.print_orders h _ record { moves = refl; stops = refl; told = refl } ran.print_orders;
    pages = sent-still OfPage 2 5 start.pages old.pages h _ record { moves = refl; stops = refl; told = refl } ran.pages;
    print_reports = took-call OfArg 2 6 start.print_reports old.print_reports h _ (slot.TakeRefused) record { moves = refl; stops = refl; told = refl } ran.print_reports;
    keys = reads-still w.left w.taken w.keys_faults start.typewriter.keys old.typewriter.keys (caused view job h) _ (λ e. cc) (λ e. cc) ran.keys;
    console = lines-still w.given w.console_faults cause.ConsoleFault start.typewriter.console old.typewriter.console (caused view job h) _ (λ e. cc) ran.console;
    files = files-still w.sound w.files_faults start.files old.files (caused view job h) _ (λ e. cc) ran.files;
    told = λ d told. (let was = ran.told d told in ((refl, was.0), record { keys = was.1.keys; console = was.1.console; work = λ none plan is. was.1.work (or-none (caused view job h) _ none) plan is }));
  }
