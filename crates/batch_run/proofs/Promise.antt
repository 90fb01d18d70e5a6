-- What a batch promises, from its five histories.
use Rattle.std.proofs.Common.{◌≡◌, ◌⊎◌, inl, inr, ◌≤◌, ◌<◌, ℕ, true, List, [], ◌∷◌, ◌++◌, Option, None, Some, refl, sym, ◌∙◌, ap, lit≤}
use Rattle.std.specs.Option.{is_some}
use Rattle.solo_base.specs.declared.item.Item.{Item}
use Rattle.solo_base.specs.declared.outcome.Side.{Side}
use Rattle.solo_base.specs.declared.outcome.Side.TheVariants.{Sender, Receiver}
use Rattle.solo_base.specs.declared.outcome.Outcome.{Outcome}
use Rattle.solo_base.specs.declared.outcome.Outcome.TheVariants as outcome
use Rattle.solo_base.specs.declared.outcome.Cause.{Cause}
use Rattle.solo_base.specs.declared.outcome.Cause.TheVariants as cause
use Rattle.solo_base.specs.declared.page.Page.{Page}
use Rattle.solo_base.specs.Text.{text}
use Rattle.solo_devices.specs.Count.{Rose}
use Rattle.solo_devices.specs.CardUnit.{items_ahead, byte_limit, IsAllTaken}
use Rattle.solo_devices.specs.declared.card_read.CardRead.TheVariants as read
use Rattle.solo_devices.specs.PrinterUnit.{Gains}
use Rattle.batch_procs.specs.declared.actions.Action.{Action}
use Rattle.batch_procs.specs.declared.actions.Action.TheVariants as act
use Rattle.batch_procs.specs.declared.actions.Reply.TheVariants as reply
use Rattle.batch_procs.specs.Fits.{Fits}
use Rattle.batch_procs.specs.History.{Entry, Does, newest}
use Rattle.batch_procs.specs.History as history
use Rattle.batch_procs.specs.Causes.{caused}
use Rattle.batch_procs.specs.Laws.{IsRelay, HasEnded}
use Rattle.batch_procs.specs.Process.{Process, Follows}
use Rattle.batch_procs.specs.Relays.{card-relay, input-relay, job-relay, output-relay, printer-relay}
use Rattle.batch_procs.specs.Table.{card, input, job, output, printer, process}
use Rattle.batch_procs.proofs.Ended.{ended-rightly}
use Rattle.batch_procs.proofs.Faulty.{faults_of_the_five}
use Rattle.core_law.specs.Core.{IsBuffer}
use Rattle.core_law.specs.Ends.{IsProcess, outcome_by}
use Rattle.core_law.proofs.Ends.{the-five}
use Rattle.core_law.proofs.Outcomes.{ended-as}
use Rattle.core_law.proofs.ReadCards.{cards-read, read-so}
use Rattle.core_law.specs.Holds.{AreFound}
use Rattle.batch_procs.specs.Jobs.{Jobs, FilesAs, AreJobs, one_thread}
use Rattle.batch_ends.proofs.ToldCards.{told-cards}
use Rattle.batch_ends.proofs.DamagedPages.{tells-where}
use Rattle.core_law.proofs.Passing.{EndDone, AreFoundBy, gains-of, reads-all}
use Rattle.core_law.proofs.Row.{each-buffer}
use Rattle.core_law.proofs.Stopping.{done-none, none-done, stopped-by}
use Rattle.core_law.proofs.Streams.{ReadsOf, Gained}
use Rattle.core_law.proofs.Undamaged.{none-damaged}
use Rattle.batch_ends.specs.declared.ends.Outcomes.{Outcomes}
use Rattle.batch_ends.specs.Causes.{Counts}
use Rattle.batch_ends.specs.Ended.{outcome_at, all_done, none_stopped, stopped_at, StoppedBeside, SomeFault, EndTogether, FaultsAre, NoneDamaged}
use Rattle.batch_ends.specs.Faults.{FaultsAreCounted}
use Rattle.batch_ends.specs.declared.ends.Ran.{Ran}
use Rattle.batch_sides.proofs.DoesOnly.{card-does, input-does, job-does, output-does, printer-does}
use Rattle.batch_sides.specs.Files.{FileTells}
use Rattle.batch_replay.specs.FiveRan.{BatchRan, FiveRan, histories}
use Rattle.batch_sides.specs.Lines.{does_printer, newest_print}
use Rattle.batch_sides.specs.Input.{does_input}
use Rattle.batch_sides.specs.Job.{does_job}
use Rattle.batch_sides.specs.Output.{does_output}
use Rattle.batch_run.proofs.Devices.{deck-reads, cards-taken, paper-gained}
use Rattle.batch_sides.proofs.FileLoads.{all-loaded}
use Rattle.batch_replay.proofs.Ending.{each-process, follows, hand-over, are-first}
use Rattle.batch_replay.proofs.Given.{has-failed, put-failed, take-failed, read-failed, print-failed, load-failed, limit-cause}
use Rattle.batch_ends.specs.declared.units.Units.{Units}

fault-cause : (found : Option Outcome) (c : Cause) → outcome_by found ≡ outcome.Fault c → found ≡ Some (outcome.Fault c)
fault-cause None c e = absurd cc
fault-cause (Some how) c e = ap Some e

same-end : (last : Option Action) (a b : Outcome) → last ≡ Some (act.Ended a) → last ≡ Some (act.Ended b) → a ≡ b
same-end last a b x y = cc

all-done-by : (a b c d e : Outcome) → a ≡ outcome.Done → b ≡ outcome.Done → c ≡ outcome.Done → d ≡ outcome.Done → e ≡ outcome.Done
    → record { card = a; input = b; job = c; output = d; printer = e } ≡ all_done
all-done-by a b c d e x y z v w = cc

none-by : (a b c d : Option Side) → a ≡ None → b ≡ None → c ≡ None → d ≡ None → (a ∷ b ∷ c ∷ d ∷ []) ≡ none_stopped
none-by a b c d x y z v = cc

module _ {L : Type 0} {J : Jobs L} (jobs : AreJobs J) where
  -- ---- one process
  caused-so : (p : Process L) (h : List (Entry L)) (how : Outcome) (c : Cause) → IsRelay p → Follows J p h → newest h ≡ Some (act.Ended how)
      → how ≡ outcome.Fault c
      → caused h ≡ Some (outcome.Fault c)
  caused-so p h how c relay follows ended e = fault-cause (caused h) c (ended-as jobs p h how relay follows ended ∙ e)

  -- the four actions of which a device may fail
  by-failed : (P : Action → Type 0) (a : Action) → Fits J a reply.Failed → ((page : Page) → P (act.PutPage page)) → P act.TakePage
      → ((line : List ℕ) → P (act.Print line)) → ((file : List ℕ) → P (act.Load file)) → P a
  by-failed P (act.PutPage page) fits put take print load = put page
  by-failed P act.TakePage fits put take print load = take
  by-failed P (act.Print line) fits put take print load = print line
  by-failed P (act.Load file) fits put take print load = load file
  by-failed P a fits put take print load = absurd fits

  module _ {S K F A B : Type 0} {left : S → Option (List ℕ)} {taken source_faults : S → ℕ} {given : K → Option (List ℕ)} {sink_faults : K → ℕ}
      {loader : FileTells L F} {from_size : A → ℕ} {input_told : A → Option (List (List ℕ))} {input_faults : A → ℕ} {to_size : B → ℕ} {output_told : B
      → Option (List (List ℕ))}
      {output_faults : B → ℕ} {units : Units S K F A B} {ran : Ran S K F A B}
      (batch : BatchRan J left taken source_faults given sink_faults loader from_size input_told input_faults to_size output_told output_faults units ran) where
    abbrev five : FiveRan J input_told input_faults output_told output_faults units.input ran.units.input units.output ran.units.output
        (stopped_at ran.stopped_by)
    five = batch.five

    abbrev first : ℕ → Option Side
    first = stopped_at ran.stopped_by

    abbrev outcomes : Outcomes
    outcomes = ran.outcomes

    ended-at : (p : ℕ) → IsProcess p → newest (histories five p) ≡ Some (act.Ended (outcome_at outcomes p))
    ended-at p one = (batch.ends p one).ended

    done-at : (p : ℕ) → IsProcess p → outcome_at all_done p ≡ outcome.Done
    done-at p one = each-process jobs (λ p. outcome_at all_done p ≡ outcome.Done) p one refl refl refl refl refl

    end-done : outcomes ≡ all_done → EndDone jobs (histories five)
    end-done e p one = ended-at p one ∙ ap (λ how. Some (act.Ended how)) (ap (λ o. outcome_at o p) e ∙ done-at p one)

    -- ---- together
    none-first : outcomes ≡ all_done → ran.stopped_by ≡ none_stopped
    none-first e =
        let none = done-none jobs (the-five jobs) (histories five) (follows jobs five) first (are-first jobs five) (end-done e) in
        batch.four ∙ none-by (first 1) (first 2) (first 3) (first 4) (none 1 (lit≤ tt, lit≤ tt)) (none 2 (lit≤ tt, lit≤ tt)) (none 3 (lit≤ tt, lit≤ tt))
        (none 4 (lit≤ tt, lit≤ tt))

    none-at : (b : ℕ) → IsBuffer b → stopped_at none_stopped b ≡ None
    none-at b at = each-buffer (λ b. stopped_at none_stopped b ≡ None) b at refl refl refl refl

    all-done : ran.stopped_by ≡ none_stopped → outcomes ≡ all_done
    all-done e =
        let free = λ (b : ℕ) (at : IsBuffer b). ap (λ all. stopped_at all b) e ∙ none-at b at in
        let done = λ (p : ℕ) (one : IsProcess p). none-done jobs (the-five jobs) (histories five) (follows jobs five) first
        (are-first jobs five) free p (outcome_at outcomes p) one
        (ended-at p one) in
        all-done-by outcomes.card outcomes.input outcomes.job outcomes.output outcomes.printer (done 1 (lit≤ tt, lit≤ tt)) (done 2 (lit≤ tt, lit≤ tt))
        (done 3 (lit≤ tt, lit≤ tt)) (done 4 (lit≤ tt, lit≤ tt)) (done 5 (lit≤ tt, lit≤ tt))

    beside : (p : ℕ) → IsProcess p → outcome_at outcomes p ≡ outcome.Stopped → StoppedBeside ran.stopped_by p × SomeFault outcomes
    beside p one e =
        let all : (p : ℕ) → IsProcess p → HasEnded (histories five p) = λ p one. (outcome_at outcomes p, ended-at p one) in
        let (told, fault) = stopped-by jobs (the-five jobs) (histories five) (follows jobs five) first (are-first jobs five) all p one
        (ended-at p one ∙ ap (λ how. Some (act.Ended how)) e) in (
          record { buffer = told.buffer; side = told.side; is_buffer = told.is_buffer; seated = told.seated; by = told.by },
          record {
            process = fault.process;
            cause = fault.cause;
            one = fault.one;
            is = same-end (newest (histories five fault.process)) _ _ (ended-at fault.process fault.one) fault.ended;
          },
        )

    pub together : EndTogether outcomes ran.stopped_by
    together = record { done = (none-first, all-done); stopped = beside }

    -- ---- the faults
    pub faults : FaultsAre outcomes
    faults = record {
      card = λ c e. (faults_of_the_five J jobs).card _ c five.card_follows (caused-so card _ _ c (card-relay L) five.card_follows
          (ended-at 1 (lit≤ tt, lit≤ tt)) e);
      input = λ c e. (faults_of_the_five J jobs).input _ c five.input_follows (caused-so input _ _ c (input-relay L) five.input_follows
          (ended-at 2 (lit≤ tt, lit≤ tt)) e);
      job = λ c e. (faults_of_the_five J jobs).job _ c five.job_follows
          (caused-so (job J) _ _ c (job-relay jobs) five.job_follows (ended-at 3 (lit≤ tt, lit≤ tt)) e);
      output = λ c e. (faults_of_the_five J jobs).output _ c five.output_follows
          (caused-so output _ _ c (output-relay L) five.output_follows (ended-at 4 (lit≤ tt, lit≤ tt)) e);
      printer = λ c e. (faults_of_the_five J jobs).printer _ c five.printer_follows
          (caused-so printer _ _ c (printer-relay L) five.printer_follows (ended-at 5 (lit≤ tt, lit≤ tt)) e);
      numbers = λ p c one e. tells-where c J (histories five p)
          (caused-so (process J p) (histories five p) (outcome_at outcomes p) c ((the-five jobs).relays p) (follows jobs five p) (ended-at p one) e);
    }

    -- ---- the devices
    deck-read : (items : List Item) → items_ahead (left units.deck.source) units.deck.pending ≡ Some items
        → ReadsOf jobs items (items_ahead (left ran.units.deck.source) ran.units.deck.pending) (history.taken (histories five 1))
    deck-read items told =
        let (rest, now, parts, last) = batch.deck.reads items told in deck-reads jobs five.card_history items rest _ five.card_follows now parts last

    paper-gains : (before : List ℕ) → given units.paper.sink ≡ Some before → Gained jobs before (given ran.units.paper.sink) printer.sends (histories five 5)
    paper-gains before told =
        let (gained, now, part, all) = batch.paper.prints before told in
        paper-gained jobs printer (printer-relay L) five.printer_history before gained _ five.printer_follows now part all

    -- ---- the files
    found-by : (items : List Item) (found : FilesAs L) → AreFound J (loader.found units.files) found items
        → AreFoundBy jobs found items (histories five 3)
    found-by items found (inl told) =
        inl (all-loaded jobs found (job J) five.job_history five.job_follows
        (batch.files.loads found told))
    found-by items found (inr none) = inr none

    pub prints : is_some (input_told units.input) ≡ true → is_some (output_told units.output) ≡ true → (items : List Item) (found : FilesAs L)
        → items_ahead (left units.deck.source) units.deck.pending ≡ Some items → AreFound J (loader.found units.files) found items
        → Gains (given units.paper.sink) (given ran.units.paper.sink) (text (one_thread J items found)) (outcomes ≡ all_done)
    prints input_is output_is items found told are = record {
      told = λ before paper_told.
          (let valid = told-cards (left units.deck.source) units.deck.pending items told in
          let gains = gains-of jobs (histories five) (follows jobs five) (hand-over jobs five input_is output_is) items _ before _ valid
          (deck-read items told)
          found (found-by items found are) (paper-gains before paper_told) in
          record { part = gains.part; now_is = gains.now_is; prefix = gains.prefix; all_is = λ e. gains.all_is (end-done e) });
      untold = batch.paper.untold;
    }

    pub reads : (items : List Item) → items_ahead (left units.deck.source) units.deck.pending ≡ Some items → outcomes ≡ all_done
        → items_ahead (left ran.units.deck.source) ran.units.deck.pending ≡ Some []
    reads items told e = reads-all jobs (the-five jobs) (histories five) (follows jobs five) items _ (deck-read items told) (end-done e)

    -- over told areas no page was damaged
    pub undamaged : is_some (input_told units.input) ≡ true → is_some (output_told units.output) ≡ true → NoneDamaged outcomes
    undamaged input_is output_is p c one e =
        let seen = cards-read jobs (histories five 1) (follows jobs five 1) in
        none-damaged jobs (histories five) (follows jobs five) (hand-over jobs five input_is output_is) seen.items (Some [])
        (read-so jobs (history.taken (histories five 1)) seen) seen.are p c one
        (ended-at p one ∙ ap (λ how. Some (act.Ended how)) e)

    pub taken-all : outcomes ≡ all_done → IsAllTaken (left ran.units.deck.source)
    taken-all e =
        let last = (ended-rightly J (process J 1) (histories five 1) outcome.Done ((the-five jobs).relays 1) (follows jobs five 1)
        (end-done e 1 (lit≤ tt, lit≤ tt))).done refl in
        batch.deck.all ((cards-taken jobs five.card_history five.card_follows).ended last.1).1

    pub longer : taken units.deck.source ≤ byte_limit → byte_limit < taken ran.units.deck.source → outcomes.card ≡ outcome.Fault cause.DeckLimit
    longer few over =
        let gave = limit-cause jobs five.card_history five.card_follows (batch.deck.longer few over) in
        sym (ended-as jobs card five.card_history outcomes.card (card-relay L) five.card_follows (ended-at 1 (lit≤ tt, lit≤ tt))) ∙ ap outcome_by gave

    -- ---- the counts
    read-gave : (c : Cause) → outcomes.card ≡ outcome.Fault c → caused five.card_history ≡ Some (outcome.Fault c)
    read-gave c e = caused-so card five.card_history outcomes.card c (card-relay L) five.card_follows (ended-at 1 (lit≤ tt, lit≤ tt)) e

    deck-rose : outcomes.card ≡ outcome.Fault cause.ReadFault → Rose (source_faults units.deck.source) (source_faults ran.units.deck.source)
    deck-rose e =
        batch.deck.failed
        (read-failed jobs (card-does jobs) five.card_history cause.ReadFault read.Failed refl five.card_follows (read-gave cause.ReadFault e))

    deck-long : outcomes.card ≡ outcome.Fault cause.DeckLimit → byte_limit < taken ran.units.deck.source
    deck-long e =
        batch.deck.limit
        (read-failed jobs (card-does jobs) five.card_history cause.DeckLimit read.Limit refl five.card_follows (read-gave cause.DeckLimit e))

    paper-rose : outcomes.printer ≡ outcome.Fault cause.PrintFault → Rose (sink_faults units.paper.sink) (sink_faults ran.units.paper.sink)
    paper-rose e =
        let h = five.printer_history in
        let gave = caused-so printer h outcomes.printer cause.PrintFault (printer-relay L) five.printer_follows (ended-at 5 (lit≤ tt, lit≤ tt)) e in
        let failed = has-failed jobs printer (printer-does jobs) cause.PrintFault tt h five.printer_follows gave in
        batch.paper.failed (by-failed (λ a. (later before : List (Entry L)) → h ≡ later ++ Does a reply.Failed ∷ before → does_printer a
        → newest_print h ≡ Some reply.Failed)
        failed.action failed.fits (λ page later before at does. absurd does) (λ later before at does. absurd does)
        (λ line later before at does. print-failed jobs h later before line five.printer_follows at)
        (λ file later before at does. absurd does) failed.later failed.before failed.is failed.does_it)

    input-rose : outcomes.input ≡ outcome.Fault cause.DiskFault → Rose (input_faults units.input) (input_faults ran.units.input)
    input-rose e =
        let h = five.input_history in
        let gave = caused-so input h outcomes.input cause.DiskFault (input-relay L) five.input_follows (ended-at 2 (lit≤ tt, lit≤ tt)) e in
        let failed = has-failed jobs input (input-does jobs) cause.DiskFault tt h five.input_follows gave in
        by-failed (λ a. (later before : List (Entry L)) → h ≡ later ++ Does a reply.Failed ∷ before → does_input a
        → Rose (input_faults units.input) (input_faults ran.units.input))
        failed.action failed.fits (λ page later before at does. five.input_meets.of_area.failed Sender (put-failed jobs 2 h later before page at))
        (λ later before at does. absurd does) (λ line later before at does. absurd does) (λ file later before at does. absurd does)
        failed.later failed.before failed.is failed.does_it

    abbrev JobRose : Type 0
    JobRose = Rose (input_faults units.input) (input_faults ran.units.input) ⊎ Rose (output_faults units.output) (output_faults ran.units.output)
        ⊎ Rose (loader.faults units.files) (loader.faults ran.units.files)

    job-rose : outcomes.job ≡ outcome.Fault cause.DiskFault → JobRose
    job-rose e =
        let h = five.job_history in
        let gave = caused-so (job J) h outcomes.job cause.DiskFault (job-relay jobs) five.job_follows (ended-at 3 (lit≤ tt, lit≤ tt)) e in
        let failed = has-failed jobs (job J) (job-does jobs) cause.DiskFault tt h five.job_follows gave in
        by-failed (λ a. (later before : List (Entry L)) → h ≡ later ++ Does a reply.Failed ∷ before → does_job a → JobRose)
        failed.action failed.fits
        (λ page later before at does. inr (inl (five.output_meets.of_area.failed Sender (put-failed jobs 3 h later before page at))))
        (λ later before at does. inl (five.input_meets.of_area.failed Receiver (take-failed jobs 2 h later before at)))
        (λ line later before at does. absurd does)
        (λ file later before at does. inr (inr (batch.files.failed (load-failed jobs h later before file five.job_follows at))))
        failed.later failed.before failed.is failed.does_it

    output-rose : outcomes.output ≡ outcome.Fault cause.DiskFault → Rose (output_faults units.output) (output_faults ran.units.output)
    output-rose e =
        let h = five.output_history in
        let gave = caused-so output h outcomes.output cause.DiskFault (output-relay L) five.output_follows (ended-at 4 (lit≤ tt, lit≤ tt)) e in
        let failed = has-failed jobs output (output-does jobs) cause.DiskFault tt h five.output_follows gave in
        by-failed (λ a. (later before : List (Entry L)) → h ≡ later ++ Does a reply.Failed ∷ before → does_output a
        → Rose (output_faults units.output) (output_faults ran.units.output))
        failed.action failed.fits (λ page later before at does. absurd does)
        (λ later before at does. five.output_meets.of_area.failed Receiver (take-failed jobs 3 h later before at))
        (λ line later before at does. absurd does) (λ file later before at does. absurd does) failed.later failed.before failed.is failed.does_it

    abbrev pub counts : Counts S K F A B
    counts = record {
      read_faults = source_faults;
      taken = taken;
      print_faults = sink_faults;
      file_faults = loader.faults;
      input_faults = input_faults;
      output_faults = output_faults;
    }

    pub counted : FaultsAreCounted counts units ran
    counted = record {
      read = deck-rose;
      limit = deck-long;
      longer = longer;
      input = input-rose;
      job = job-rose;
      output = output-rose;
      print = paper-rose;
      read_on = batch.deck.counts;
      input_on = five.input_meets.of_area.later;
      output_on = five.output_meets.of_area.later;
      print_on = batch.paper.counts;
      files_on = batch.files.counts;
    }
