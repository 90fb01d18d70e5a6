-- The job process accepts a line, displays one, or does its own work, and its side of the buffers stands for one deed more.
use Rattle.std.proofs.Common.{◌≡◌, ◌≤◌, ℕ, List, [], ◌∷◌, Option, None, Some, refl, sym, ◌∙◌, ap, subst, arith}
use Rattle.std.specs.Option.{option_map}
use Rattle.solo_base.specs.Text.{line_text}
use Rattle.solo_base.specs.declared.outcome.Outcome.{Outcome}
use Rattle.solo_base.specs.declared.outcome.Outcome.TheVariants as outcome
use Rattle.solo_base.specs.declared.outcome.Cause.TheVariants as cause
use Rattle.solo_devices.specs.Count.{Rose}
use Rattle.solo_devices.specs.declared.card_read.CardRead.{CardRead}
use Rattle.solo_devices.specs.declared.card_read.CardRead.TheVariants as read
use Rattle.solo_devices.specs.CardUnit.{items_ahead}
use Rattle.exchange_law.specs.Parcels.{OfArg, OfPage}
use Rattle.place_law.specs.Process.{Does, place, caused, fault_in, given_cause, or_new}
use Rattle.place_law.proofs.Nexts.{or-none}
use Rattle.solo_law.specs.Work.{Given, Work, Need, Plan}
use Rattle.solo_law.specs.Actions.{Action, Reply}
use Rattle.solo_law.specs.Actions as act
use Rattle.solo_law.specs.Replies.{view}
use Rattle.solo_law.specs.JobPlaces.{JobPlace, job}
use Rattle.solo_law.specs.Devices.{plan_behind, gains}
use Rattle.solo_law.specs.Solo.{SoloEntry}
use Rattle.solo_threads.specs.Threads.{Deed, entries, stood}
use Rattle.solo_procs.specs.declared.actions.SoloReply.TheVariants as hear
use Rattle.solo_run.specs.declared.job_side.JobSide.{JobSide}
use Rattle.solo_run.specs.Devices.{ReadsOne, GivesLine, ReadsRan, LinesRan}
use Rattle.solo_run.specs.Job.{JobWorld, JobRan}
use Rattle.solo_run.proofs.EndSteps.{sent-still, took-still}
use Rattle.solo_run.proofs.DeviceSteps.{by_read, reads-so, reads-read, reads-still, gained-of, lines-still, lines-given}
use Rattle.solo_run.proofs.JobCauses.{finds-nothing, files-still}

given-read : (place : JobPlace) (answer : CardRead) → given_cause view job place act.Accept (act.OfCard answer) ≡ by_read answer
given-read place (read.Card line) = ap fault_in (finds-nothing place (act.OfCard (read.Card line)) (λ page e. cc))
given-read place read.Spoiled = ap fault_in (finds-nothing place (act.OfCard read.Spoiled) (λ page e. cc))
given-read place read.End = ap fault_in (finds-nothing place (act.OfCard read.End) (λ page e. cc))
given-read place read.Failed = refl
given-read place read.Limit = refl

read-no_console : (answer : CardRead) → by_read answer ≡ Some (outcome.Fault cause.ConsoleFault) → ⊥
read-no_console read.Failed e = cc
read-no_console read.Limit e = cc
read-no_console (read.Card line) e = cc
read-no_console read.Spoiled e = cc
read-no_console read.End e = cc

read-no_disk : (answer : CardRead) → by_read answer ≡ Some (outcome.Fault cause.DiskFault) → ⊥
read-no_disk read.Failed e = cc
read-no_disk read.Limit e = cc
read-no_disk (read.Card line) e = cc
read-no_disk read.Spoiled e = cc
read-no_disk read.End e = cc

through≤ : (a b c : ℕ) → a ≤ b → b ≤ c → a ≤ c
through≤ a b c one two = omega (arith, one, two)

rose-more : (a b c : ℕ) → a ≤ b → Rose b c → Rose a c
rose-more a b c less rose = omega (arith, less, rose)

module _ {Y T F : Type 0} (w : JobWorld Y T F) (plans : Plan → Type 0) (start old : JobSide Y T F) (deeds : List Deed)
    (ran : JobRan w plans start old deeds) where
  abbrev h : List SoloEntry
  h = entries deeds

  abbrev RanGained : JobSide Y T F → Action → Reply → List ℕ → Type 0
  RanGained new a r gained = JobRan w plans start new (record { entry = Does a r; gained = gained } ∷ deeds)

  -- a cause that it has now, where it had none
  now-cause : (a : Action) (r : Reply) (why : Option Outcome) → caused view job h ≡ None → given_cause view job (place job h) a r ≡ why
      → or_new (caused view job h) (given_cause view job (place job h) a r) ≡ why
  now-cause a r why free e = ap (λ old. or_new old (given_cause view job (place job h) a r)) free ∙ e

  pub accepted : (new : JobSide Y T F) (answer : CardRead) → caused view job h ≡ None → new ≡ record old { typewriter = new.typewriter }
      → ReadsOne w.left w.taken w.keys_faults old.typewriter.keys new.typewriter.keys answer → new.typewriter.console ≡ old.typewriter.console
      → RanGained new act.Accept (act.OfCard answer) []
  accepted new answer free e one same =
      let why = given-read (place job h) answer in
      subst (λ new. RanGained new act.Accept (act.OfCard answer) []) (sym e) record {
        card_orders = sent-still OfArg 2 1 start.card_orders old.card_orders h _ record { moves = refl; stops = refl; told = refl } ran.card_orders;
        cards = took-still OfPage 2 2 start.cards old.cards h _ record { moves = refl; stops = refl; told = refl } ran.cards;
        card_reports = took-still OfArg 2 3 start.card_reports old.card_reports h _ record { moves = refl; stops = refl; told = refl } ran.card_reports;
        print_orders = sent-still OfArg 2 4 start.print_orders old.print_orders h _ record { moves = refl; stops = refl; told = refl } ran.print_orders;
        pages = sent-still OfPage 2 5 start.pages old.pages h _ record { moves = refl; stops = refl; told = refl } ran.pages;
        print_reports = took-still OfArg 2 6 start.print_reports old.print_reports h _ record { moves = refl; stops = refl; told = refl } ran.print_reports;
        keys = subst (λ why. ReadsRan w.left w.taken w.keys_faults start.typewriter.keys new.typewriter.keys why)
            (sym (now-cause act.Accept (act.OfCard answer) (by_read answer) free why))
            (reads-read w.left w.taken w.keys_faults start.typewriter.keys old.typewriter.keys new.typewriter.keys answer
            (subst (λ why. ReadsRan w.left w.taken w.keys_faults start.typewriter.keys old.typewriter.keys why) free ran.keys) one);
        console = lines-still w.given w.console_faults cause.ConsoleFault start.typewriter.console new.typewriter.console (caused view job h) _
            (λ e. read-no_console answer (sym why ∙ e))
            (subst (λ console. LinesRan w.console_faults cause.ConsoleFault start.typewriter.console console (caused view job h)) (sym same) ran.console);
        files = files-still w.sound w.files_faults start.files old.files (caused view job h) _ (λ e. read-no_disk answer (sym why ∙ e)) ran.files;
        told = λ d told. (
            let was = ran.told d told in
            let is = reads-so (stood d deeds).keys (items_ahead (w.left old.typewriter.keys.source) old.typewriter.keys.pending)
            (items_ahead (w.left new.typewriter.keys.source) new.typewriter.keys.pending) answer was.1.keys one.next in (
              ((is.0, refl), was.0),
              record {
                keys = is.1;
                console = was.1.console ∙ ap (λ console. w.given console.sink) (sym same);
                work = λ none plan is. was.1.work (or-none (caused view job h) _ none) plan is;
              },
            )
            );
      }

  pub displayed : (new : JobSide Y T F) (line : List ℕ) → caused view job h ≡ None → new ≡ record old { typewriter = new.typewriter }
      → (one : GivesLine w.given w.console_faults old.typewriter.console new.typewriter.console line hear.Done) → new.typewriter.keys ≡ old.typewriter.keys
      → RanGained new (act.Display line) act.Done (gained-of (w.given old.typewriter.console.sink) (w.given new.typewriter.console.sink) (line_text line)
      (hear.Done ≡ hear.Done) one.gains).gained
  displayed new line free e one same =
      let g = gained-of (w.given old.typewriter.console.sink) (w.given new.typewriter.console.sink) (line_text line) (hear.Done ≡ hear.Done) one.gains in
      let P : JobSide Y T F → Type 0 = λ new. RanGained new (act.Display line) act.Done g.gained in
      let why : given_cause view job (place job h) (act.Display line) act.Done ≡ None = ap fault_in (finds-nothing (place job h) act.Done (λ page e. cc)) in
      subst P (sym e) record {
        card_orders = sent-still OfArg 2 1 start.card_orders old.card_orders h _ record { moves = refl; stops = refl; told = refl } ran.card_orders;
        cards = took-still OfPage 2 2 start.cards old.cards h _ record { moves = refl; stops = refl; told = refl } ran.cards;
        card_reports = took-still OfArg 2 3 start.card_reports old.card_reports h _ record { moves = refl; stops = refl; told = refl } ran.card_reports;
        print_orders = sent-still OfArg 2 4 start.print_orders old.print_orders h _ record { moves = refl; stops = refl; told = refl } ran.print_orders;
        pages = sent-still OfPage 2 5 start.pages old.pages h _ record { moves = refl; stops = refl; told = refl } ran.pages;
        print_reports = took-still OfArg 2 6 start.print_reports old.print_reports h _ record { moves = refl; stops = refl; told = refl } ran.print_reports;
        keys = reads-still w.left w.taken w.keys_faults start.typewriter.keys new.typewriter.keys (caused view job h) _
            (λ e. (let no = sym why ∙ e in cc)) (λ e. (let no = sym why ∙ e in cc))
            (subst (λ keys. ReadsRan w.left w.taken w.keys_faults start.typewriter.keys keys (caused view job h)) (sym same) ran.keys);
        console = subst (λ why. LinesRan w.console_faults cause.ConsoleFault start.typewriter.console new.typewriter.console why)
            (sym (now-cause (act.Display line) act.Done (None) free why))
            (lines-given w.given w.console_faults cause.ConsoleFault start.typewriter.console old.typewriter.console new.typewriter.console line hear.Done
            (None) (λ none. refl) (λ e. absurd cc)
            (subst (λ why. LinesRan w.console_faults cause.ConsoleFault start.typewriter.console old.typewriter.console why) free ran.console) one);
        files = files-still w.sound w.files_faults start.files old.files (caused view job h) _ (λ e. (let no = sym why ∙ e in cc)) ran.files;
        told = λ d told. (
            let was = ran.told d told in (
              (g.all_is refl, was.0),
              record {
                keys = was.1.keys ∙ ap (λ keys. items_ahead (w.left keys.source) keys.pending) (sym same);
                console = ap (gains g.gained) was.1.console ∙ g.now_is;
                work = λ none plan is. was.1.work (or-none (caused view job h) _ none) plan is;
              },
            )
            );
      }

  pub undisplayed : (new : JobSide Y T F) (line : List ℕ) → caused view job h ≡ None → new ≡ record old { typewriter = new.typewriter }
      → (one : GivesLine w.given w.console_faults old.typewriter.console new.typewriter.console line hear.Failed) → new.typewriter.keys ≡ old.typewriter.keys
      → RanGained new (act.Display line) act.Failed (gained-of (w.given old.typewriter.console.sink) (w.given new.typewriter.console.sink) (line_text line)
      (hear.Failed ≡ hear.Done) one.gains).gained
  undisplayed new line free e one same =
      let g = gained-of (w.given old.typewriter.console.sink) (w.given new.typewriter.console.sink) (line_text line) (hear.Failed ≡ hear.Done) one.gains in
      let P : JobSide Y T F → Type 0 = λ new. RanGained new (act.Display line) act.Failed g.gained in
      let why : given_cause view job (place job h) (act.Display line) act.Failed ≡ Some (outcome.Fault cause.ConsoleFault) = refl in
      subst P (sym e) record {
        card_orders = sent-still OfArg 2 1 start.card_orders old.card_orders h _ record { moves = refl; stops = refl; told = refl } ran.card_orders;
        cards = took-still OfPage 2 2 start.cards old.cards h _ record { moves = refl; stops = refl; told = refl } ran.cards;
        card_reports = took-still OfArg 2 3 start.card_reports old.card_reports h _ record { moves = refl; stops = refl; told = refl } ran.card_reports;
        print_orders = sent-still OfArg 2 4 start.print_orders old.print_orders h _ record { moves = refl; stops = refl; told = refl } ran.print_orders;
        pages = sent-still OfPage 2 5 start.pages old.pages h _ record { moves = refl; stops = refl; told = refl } ran.pages;
        print_reports = took-still OfArg 2 6 start.print_reports old.print_reports h _ record { moves = refl; stops = refl; told = refl } ran.print_reports;
        keys = reads-still w.left w.taken w.keys_faults start.typewriter.keys new.typewriter.keys (caused view job h) _
            (λ e. (let no = sym why ∙ e in cc)) (λ e. (let no = sym why ∙ e in cc))
            (subst (λ keys. ReadsRan w.left w.taken w.keys_faults start.typewriter.keys keys (caused view job h)) (sym same) ran.keys);
        console = subst (λ why. LinesRan w.console_faults cause.ConsoleFault start.typewriter.console new.typewriter.console why)
            (sym (now-cause (act.Display line) act.Failed (Some (outcome.Fault cause.ConsoleFault)) free why))
            (lines-given w.given w.console_faults cause.ConsoleFault start.typewriter.console old.typewriter.console new.typewriter.console line hear.Failed
            (Some (outcome.Fault cause.ConsoleFault)) (λ none. absurd cc) (λ e. refl)
            (subst (λ why. LinesRan w.console_faults cause.ConsoleFault start.typewriter.console old.typewriter.console why) free ran.console) one);
        files = files-still w.sound w.files_faults start.files old.files (caused view job h) _ (λ e. (let no = sym why ∙ e in cc)) ran.files;
        told = λ d told. (
            let was = ran.told d told in (
              (g.prefix, was.0),
              record {
                keys = was.1.keys ∙ ap (λ keys. items_ahead (w.left keys.source) keys.pending) (sym same);
                console = ap (gains g.gained) was.1.console ∙ g.now_is;
                work = λ none plan is. was.1.work (or-none (caused view job h) _ none) plan is;
              },
            )
            );
      }

  pub unkept : (new : JobSide Y T F) (line : List ℕ) → caused view job h ≡ None → new ≡ record old { typewriter = new.typewriter }
      → (one : GivesLine w.given w.console_faults old.typewriter.console new.typewriter.console line hear.NoMemory) → new.typewriter.keys ≡ old.typewriter.keys
      → RanGained new (act.Display line) act.NoMemory (gained-of (w.given old.typewriter.console.sink) (w.given new.typewriter.console.sink) (line_text line)
      (hear.NoMemory ≡ hear.Done) one.gains).gained
  unkept new line free e one same =
      let g = gained-of (w.given old.typewriter.console.sink) (w.given new.typewriter.console.sink) (line_text line) (hear.NoMemory ≡ hear.Done) one.gains in
      let P : JobSide Y T F → Type 0 = λ new. RanGained new (act.Display line) act.NoMemory g.gained in
      let why : given_cause view job (place job h) (act.Display line) act.NoMemory ≡ Some (outcome.Fault cause.NoMemory) = refl in
      subst P (sym e) record {
        card_orders = sent-still OfArg 2 1 start.card_orders old.card_orders h _ record { moves = refl; stops = refl; told = refl } ran.card_orders;
        cards = took-still OfPage 2 2 start.cards old.cards h _ record { moves = refl; stops = refl; told = refl } ran.cards;
        card_reports = took-still OfArg 2 3 start.card_reports old.card_reports h _ record { moves = refl; stops = refl; told = refl } ran.card_reports;
        print_orders = sent-still OfArg 2 4 start.print_orders old.print_orders h _ record { moves = refl; stops = refl; told = refl } ran.print_orders;
        pages = sent-still OfPage 2 5 start.pages old.pages h _ record { moves = refl; stops = refl; told = refl } ran.pages;
        print_reports = took-still OfArg 2 6 start.print_reports old.print_reports h _ record { moves = refl; stops = refl; told = refl } ran.print_reports;
        keys = reads-still w.left w.taken w.keys_faults start.typewriter.keys new.typewriter.keys (caused view job h) _
            (λ e. (let no = sym why ∙ e in cc)) (λ e. (let no = sym why ∙ e in cc))
            (subst (λ keys. ReadsRan w.left w.taken w.keys_faults start.typewriter.keys keys (caused view job h)) (sym same) ran.keys);
        console = subst (λ why. LinesRan w.console_faults cause.ConsoleFault start.typewriter.console new.typewriter.console why)
            (sym (now-cause (act.Display line) act.NoMemory (Some (outcome.Fault cause.NoMemory)) free why))
            (lines-given w.given w.console_faults cause.ConsoleFault start.typewriter.console old.typewriter.console new.typewriter.console line hear.NoMemory
            (Some (outcome.Fault cause.NoMemory)) (λ none. absurd cc) (λ e. absurd cc)
            (subst (λ why. LinesRan w.console_faults cause.ConsoleFault start.typewriter.console old.typewriter.console why) free ran.console) one);
        files = files-still w.sound w.files_faults start.files old.files (caused view job h) _ (λ e. (let no = sym why ∙ e in cc)) ran.files;
        told = λ d told. (
            let was = ran.told d told in (
              (g.prefix, was.0),
              record {
                keys = was.1.keys ∙ ap (λ keys. items_ahead (w.left keys.source) keys.pending) (sym same);
                console = ap (gains g.gained) was.1.console ∙ g.now_is;
                work = λ none plan is. was.1.work (or-none (caused view job h) _ none) plan is;
              },
            )
            );
      }

  -- ---- its own work
  abbrev RanThen : (Plan → Type 0) → JobSide Y T F → Work → Reply → Type 0
  RanThen then_plans new work r = JobRan w then_plans start new (record { entry = Does (act.Works work) r; gained = [] } ∷ deeds)

  -- the plan behind a piece that began so
  behind-plan : (told : Option Plan) (begun : Given) (plan : Plan) → option_map (plan_behind begun) told ≡ Some plan
      → (first : Plan) × (told ≡ Some first) × (plan_behind begun first ≡ plan)
  behind-plan None begun plan e = absurd cc
  behind-plan (Some first) begun plan e = (first, refl, (let is = e in cc))

  pub worked : (then_plans : Plan → Type 0) (new : JobSide Y T F) (work : Work) (need : Need) → caused view job h ≡ None → new ≡ record old { files = new.files }
      → w.sound new.files → w.files_faults old.files ≤ w.files_faults new.files
      → ((plan : Plan) → plans plan → (need ≡ plan [] work.given) × then_plans (plan_behind work.given plan)) → RanThen then_plans new work (act.Found need)
  worked then_plans new work need free e sound counts planned =
      let why = ap fault_in (finds-nothing (place job h) (act.Found need) (λ page e. cc)) in
      subst (λ new. RanThen then_plans new work (act.Found need)) (sym e) record {
        card_orders = sent-still OfArg 2 1 start.card_orders old.card_orders h _ record { moves = refl; stops = refl; told = refl } ran.card_orders;
        cards = took-still OfPage 2 2 start.cards old.cards h _ record { moves = refl; stops = refl; told = refl } ran.cards;
        card_reports = took-still OfArg 2 3 start.card_reports old.card_reports h _ record { moves = refl; stops = refl; told = refl } ran.card_reports;
        print_orders = sent-still OfArg 2 4 start.print_orders old.print_orders h _ record { moves = refl; stops = refl; told = refl } ran.print_orders;
        pages = sent-still OfPage 2 5 start.pages old.pages h _ record { moves = refl; stops = refl; told = refl } ran.pages;
        print_reports = took-still OfArg 2 6 start.print_reports old.print_reports h _ record { moves = refl; stops = refl; told = refl } ran.print_reports;
        keys = reads-still w.left w.taken w.keys_faults start.typewriter.keys old.typewriter.keys (caused view job h) _ (λ e. (let no = sym why ∙ e in cc))
            (λ e. (let no = sym why ∙ e in cc)) ran.keys;
        console = lines-still w.given w.console_faults cause.ConsoleFault start.typewriter.console old.typewriter.console (caused view job h) _
            (λ e. (let no = sym why ∙ e in cc)) ran.console;
        files = record {
          sound_now = λ none. sound;
          failed = λ e. (let no = sym (now-cause (act.Works work) (act.Found need) None free why) ∙ e in absurd cc);
          counts = through≤ (w.files_faults start.files) (w.files_faults old.files) (w.files_faults new.files) ran.files.counts counts;
        };
        told = λ d told. (
            let was = ran.told d told in (
              (((λ plan is. (planned plan (was.1.work free plan is)).0), refl), was.0),
              record {
                keys = was.1.keys;
                console = was.1.console;
                work = λ none plan is. (let (first, first_is, same) = behind-plan (stood d deeds).work work.given plan is in
                    subst then_plans same (planned first (was.1.work free first first_is)).1);
              },
            )
            );
      }

  pub work-failed : (then_plans : Plan → Type 0) (new : JobSide Y T F) (work : Work) → caused view job h ≡ None → new ≡ record old { files = new.files }
      → w.files_faults old.files ≤ w.files_faults new.files → Rose (w.files_faults old.files) (w.files_faults new.files) → RanThen then_plans new work act.Failed
  work-failed then_plans new work free e counts rose =
      subst (λ new. RanThen then_plans new work act.Failed) (sym e) record {
        card_orders = sent-still OfArg 2 1 start.card_orders old.card_orders h _ record { moves = refl; stops = refl; told = refl } ran.card_orders;
        cards = took-still OfPage 2 2 start.cards old.cards h _ record { moves = refl; stops = refl; told = refl } ran.cards;
        card_reports = took-still OfArg 2 3 start.card_reports old.card_reports h _ record { moves = refl; stops = refl; told = refl } ran.card_reports;
        print_orders = sent-still OfArg 2 4 start.print_orders old.print_orders h _ record { moves = refl; stops = refl; told = refl } ran.print_orders;
        pages = sent-still OfPage 2 5 start.pages old.pages h _ record { moves = refl; stops = refl; told = refl } ran.pages;
        print_reports = took-still OfArg 2 6 start.print_reports old.print_reports h _ record { moves = refl; stops = refl; told = refl } ran.print_reports;
        keys = reads-still w.left w.taken w.keys_faults start.typewriter.keys old.typewriter.keys (caused view job h) _ (λ e. cc) (λ e. cc) ran.keys;
        console = lines-still w.given w.console_faults cause.ConsoleFault start.typewriter.console old.typewriter.console (caused view job h) _
            (λ e. cc) ran.console;
        files = record {
          sound_now = λ none. (let no = sym (now-cause (act.Works work) act.Failed (Some (outcome.Fault cause.DiskFault)) free refl) ∙ none in absurd cc);
          failed = λ e. rose-more (w.files_faults start.files) (w.files_faults old.files) (w.files_faults new.files) ran.files.counts rose;
          counts = through≤ (w.files_faults start.files) (w.files_faults old.files) (w.files_faults new.files) ran.files.counts counts;
        };
        told = λ d told. (
            let was = ran.told d told in (
              (refl, was.0),
              record {
                keys = was.1.keys;
                console = was.1.console;
                work = λ none. (let no = sym (now-cause (act.Works work) act.Failed (Some (outcome.Fault cause.DiskFault)) free refl) ∙ none in absurd cc);
              },
            )
            );
      }

  pub work-lacked : (then_plans : Plan → Type 0) (new : JobSide Y T F) (work : Work) → caused view job h ≡ None → new ≡ record old { files = new.files }
      → w.files_faults old.files ≤ w.files_faults new.files → RanThen then_plans new work act.NoMemory
  work-lacked then_plans new work free e counts =
      subst (λ new. RanThen then_plans new work act.NoMemory) (sym e) record {
        card_orders = sent-still OfArg 2 1 start.card_orders old.card_orders h _ record { moves = refl; stops = refl; told = refl } ran.card_orders;
        cards = took-still OfPage 2 2 start.cards old.cards h _ record { moves = refl; stops = refl; told = refl } ran.cards;
        card_reports = took-still OfArg 2 3 start.card_reports old.card_reports h _ record { moves = refl; stops = refl; told = refl } ran.card_reports;
        print_orders = sent-still OfArg 2 4 start.print_orders old.print_orders h _ record { moves = refl; stops = refl; told = refl } ran.print_orders;
        pages = sent-still OfPage 2 5 start.pages old.pages h _ record { moves = refl; stops = refl; told = refl } ran.pages;
        print_reports = took-still OfArg 2 6 start.print_reports old.print_reports h _ record { moves = refl; stops = refl; told = refl } ran.print_reports;
        keys = reads-still w.left w.taken w.keys_faults start.typewriter.keys old.typewriter.keys (caused view job h) _ (λ e. cc) (λ e. cc) ran.keys;
        console = lines-still w.given w.console_faults cause.ConsoleFault start.typewriter.console old.typewriter.console (caused view job h) _
            (λ e. cc) ran.console;
        files = record {
          sound_now = λ none. (let no = sym (now-cause (act.Works work) act.NoMemory (Some (outcome.Fault cause.NoMemory)) free refl) ∙ none in absurd cc);
          failed = λ e. (let no = sym (now-cause (act.Works work) act.NoMemory (Some (outcome.Fault cause.NoMemory)) free refl) ∙ e in absurd cc);
          counts = through≤ (w.files_faults start.files) (w.files_faults old.files) (w.files_faults new.files) ran.files.counts counts;
        };
        told = λ d told. (
            let was = ran.told d told in (
              (refl, was.0),
              record {
                keys = was.1.keys;
                console = was.1.console;
                work = λ none. (let no = sym (now-cause (act.Works work) act.NoMemory (Some (outcome.Fault cause.NoMemory)) free refl) ∙ none in absurd cc);
              },
            )
            );
      }
