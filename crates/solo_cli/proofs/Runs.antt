-- A run of the five over what a command was given, in the words of the command.
use Rattle.std.proofs.Common.{◌≡◌, ◌≤◌, ℕ, List, [], Some, None, refl, sym, ◌∙◌, ap, arith}
use Rattle.solo_base.specs.Card.{cards}
use Rattle.solo_base.specs.Text.{text}
use Rattle.solo_base.specs.declared.item.Item.{Item}
use Rattle.solo_devices.specs.declared.source.Source.{Ghosts as Source}
use Rattle.solo_devices.specs.declared.sink.Sink.{Ghosts as Sink}
use Rattle.solo_devices.specs.declared.area.Area.{Ghosts as Area}
use Rattle.solo_devices.specs.CardUnit.{IsAllTaken, byte_limit, bytes_total, fresh_unit, items_ahead}
use Rattle.solo_devices.specs.PrinterUnit.{Gains, fresh_printer}
use Rattle.disk_contents.specs.declared.loading.Loaded.{Loaded}
use Rattle.batch_job.specs.Report.{Loads}
use Rattle.batch_procs.specs.Jobs.{one_thread}
use Rattle.core_law.specs.Core.{Devices as CoreDevices}
use Rattle.core_law.specs.Holds.{AreTold}
use Rattle.core_law.specs.Opening.{opened}
use Rattle.batch_ends.specs.Causes.{Counts as CountsOf}
use Rattle.batch_ends.specs.Ended.{EndTogether, FaultsAre, NoneDamaged, all_done}
use Rattle.batch_ends.specs.Faults.{AreCounted}
use Rattle.batch_ends.specs.Openings.{spools_over}
use Rattle.batch_ends.specs.declared.ends.Ran.{Ran}
use Rattle.batch_ends.specs.declared.units.Units.{Units}
use Rattle.net_core.specs.Faults.{JobFaultIsOwn}
use Rattle.net_core.specs.WholeRuns.{RunsToEnd}
use Rattle.deck_work.specs.DeckJobs.{AreFound, deck_jobs, files_found}
use Rattle.deck_work.proofs.OneThread.{one_thread_is}
use Rattle.network_run.specs.declared.counts.Counts.{Counts}
use Rattle.network_run.specs.declared.rules.Rule.{Rule}
use Rattle.run_report.specs.Decides.{decides}
use Rattle.run_report.proofs.Adding.{gains-same}
use Rattle.solo_cli.specs.DeckRan.{RanCore, RanFive}
use Rattle.solo_cli.specs.Decides.{Nothing, list_of}
use Rattle.solo_cli.specs.Devices.{DeckKit, deck_kit}
use Rattle.solo_cli.specs.Ready.{MayRunDeck}
use Rattle.solo_cli.specs.Refusals.{as_refusal}
use Rattle.solo_cli.proofs.AllDone.{all-done}
use Rattle.solo_cli.proofs.LowestCause.{lowest-decides, none-is}

pub few-taken : (taken : ℕ) → taken ≡ 0 → taken ≤ byte_limit
few-taken taken zero = omega (arith, zero)

-- D is what loads the files of this area
module _ {S K F I O D : Type 0} (s : Source S) (k : Sink K) (f : Area F) (i : Area I) (o : Area O) (area : D → F) where
  abbrev pub counts_of : CountsOf S K D I O
  counts_of = record {
    read_faults = s.faults;
    taken = s.taken;
    print_faults = k.faults;
    file_faults = λ files. f.faults (area files);
    input_faults = i.faults;
    output_faults = o.faults;
  }

  -- what a run says of the units that it ran on
  pub record Facts (units : Units S K D I O) (ran : Ran S K D I O) : Type 0 where
    pub together : EndTogether ran.outcomes ran.stopped_by
    pub faults : FaultsAre ran.outcomes
    pub counted : AreCounted counts_of units ran.units ran.outcomes
    pub prints : (items : List Item) (found : Loads) → items_ahead (s.left units.deck.source) units.deck.pending ≡ Some items
        → AreFound (files_found (f.pages (area units.files))) found items
        → AreTold (spools_over (i.size units.input) (i.pages units.input) (o.size units.output) (o.pages units.output))
        → Gains (k.given units.paper.sink) (k.given ran.units.paper.sink) (text (one_thread deck_jobs items found)) (ran.outcomes ≡ all_done)
    pub all_taken : ran.outcomes ≡ all_done → IsAllTaken (s.left ran.units.deck.source)
    pub files : f.pages (area ran.units.files) ≡ f.pages (area units.files)
    pub undamaged : AreTold (spools_over (i.size units.input) (i.pages units.input) (o.size units.output) (o.pages units.output))
        → NoneDamaged ran.outcomes
    pub total : bytes_total (s.taken ran.units.deck.source) (s.left ran.units.deck.source)
        ≡ bytes_total (s.taken units.deck.source) (s.left units.deck.source)

  -- and one on the core
  pub record CoreFacts (rule : Rule) (units : Units S K D I O) (ran : Ran S K D I O) (counts : Counts) : Type 0 where
    pub facts : Facts units ran
    pub own : JobFaultIsOwn counts_of units ran.units ran.outcomes
    pub devices : CoreDevices Loaded
    pub runs : RunsToEnd deck_jobs rule
        (opened (spools_over (i.size units.input) (i.pages units.input) (o.size units.output) (o.pages units.output))
        (items_ahead (s.left units.deck.source) units.deck.pending) (k.given units.paper.sink) (files_found (f.pages (area units.files))))
        counts ran.outcomes ran.stopped_by devices

  abbrev pub units_over : S → K → D → I → O → Units S K D I O
  units_over deck paper files input output =
      record { deck = fresh_unit deck; paper = fresh_printer paper; files = files; input = input; output = output }

  abbrev pub row_behind : Ran S K D I O → DeckKit S K F I O
  row_behind ran = deck_kit s k f i o ran.units.deck.source ran.units.paper.sink (area ran.units.files) ran.units.input ran.units.output

  pub done : {units : Units S K D I O} {ran : Ran S K D I O} → Facts units ran → as_refusal (decides (list_of ran.outcomes)) ≡ None
      → ran.outcomes ≡ all_done
  done {ran = ran} e none = all-done ran.outcomes ran.stopped_by e.together (none-is (decides (list_of ran.outcomes)) none)

  module _ (deck : S) (paper : K) (files : D) (input : I) (output : O) (ran : Ran S K D I O)
      (ready : MayRunDeck (deck_kit s k f i o deck paper (area files) input output)) (size : f.size (area ran.units.files) ≡ 4288) where
    abbrev pub five : Facts (units_over deck paper files input output) ran
        → RanFive (deck_kit s k f i o deck paper (area files) input output) (row_behind ran) (as_refusal (decides (list_of ran.outcomes)))
    five e = record {
      ends = record {
        five = lowest-decides ran.outcomes ran.stopped_by e.together e.faults Nothing;
        counted = record {
          read = e.counted.read;
          limit = e.counted.limit;
          longer = e.counted.longer (few-taken (s.taken deck) ready.deck);
          input = e.counted.input;
          job = e.counted.job;
          output = e.counted.output;
          print = e.counted.print;
        };
      };
      prints = λ bytes found told named spools.
          gains-same _ _ _ _ _ _ _ _ refl refl (ap text (one_thread_is (cards bytes) found)) (done e)
          (e.prints (cards bytes) found (ap (λ left. items_ahead left []) told) named record { input = spools.input; output = spools.output });
      all_taken = λ none. e.all_taken (done e none);
      undamaged = λ input output. e.undamaged record { input = input; output = output };
      total = e.total;
      print_on = e.counted.print_on;
      left = e.files;
      size = size ∙ sym ready.files;
    }

    abbrev pub on-core : (rule : Rule) (counts : Counts) → CoreFacts rule (units_over deck paper files input output) ran counts
        → RanCore rule (deck_kit s k f i o deck paper (area files) input output) (row_behind ran) (as_refusal (decides (list_of ran.outcomes))) counts
    on-core rule counts e = record { ran = five e.facts; own = e.own; devices = e.devices; runs = e.runs }
