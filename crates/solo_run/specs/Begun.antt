-- What Solo begins with, and what is left of it once all three have ended.
use Rattle.std.specs.Prelude.{◌≡◌, ℕ, true, List, [], ◌∷◌, Option}
use Rattle.solo_base.specs.declared.outcome.Side.{Side}
use Rattle.solo_ends.specs.declared.units.SoloUnits.{SoloUnits}
use Rattle.solo_ends.specs.declared.units.SoloRan.{SoloRan}
use Rattle.solo_ends.specs.Ends.{stopped_at}
use Rattle.solo_threads.specs.Threads.{stops_of}
use Rattle.solo_run.specs.declared.gates.Gates.{Gates}
use Rattle.solo_run.specs.declared.row.Row.{Row}
use Rattle.solo_run.specs.declared.row.RowEnded.{RowEnded}
use Rattle.solo_run.specs.declared.solo.Parted.{Parted}
use Rattle.solo_run.specs.Job.{JobWorld}
use Rattle.solo_run.specs.Row.{RowRan}
use Rattle.solo_run.specs.Whole.{AllMeet}

-- the devices may be used
pub record AreLive {S Y K T F : Type 0} (units : SoloUnits S Y K T F) : Type 0 where
  pub cards : units.cards.live ≡ true
  pub keys : units.typewriter.keys.live ≡ true
  pub console : units.typewriter.console.live ≡ true
  pub paper : units.paper.live ≡ true

-- ---- the three processes at these gates, each with its own ends and devices
pub record BeginsBy {S Y K T F : Type 0} (cards prints : Gates) (parted : Parted S Y K T F)
    (row : Row S Y K T F) : Type 0 where
  pub input_orders : (row.input.orders.gate.now ≡ cards.orders)
      × (row.input.orders.end ≡ parted.cards.orders.1)
  pub input_pages : (row.input.pages.gate.now ≡ cards.pages) × (row.input.pages.end ≡ parted.cards.pages.0)
  pub input_reports : (row.input.reports.gate.now ≡ cards.reports)
      × (row.input.reports.end ≡ parted.cards.reports.0)
  pub job_card_orders : (row.job.card_orders.gate.now ≡ cards.orders)
      × (row.job.card_orders.end ≡ parted.cards.orders.0)
  pub job_cards : (row.job.cards.gate.now ≡ cards.pages) × (row.job.cards.end ≡ parted.cards.pages.1)
  pub job_card_reports : (row.job.card_reports.gate.now ≡ cards.reports)
      × (row.job.card_reports.end ≡ parted.cards.reports.1)
  pub job_print_orders : (row.job.print_orders.gate.now ≡ prints.orders)
      × (row.job.print_orders.end ≡ parted.prints.orders.0)
  pub job_pages : (row.job.pages.gate.now ≡ prints.pages) × (row.job.pages.end ≡ parted.prints.pages.0)
  pub job_print_reports : (row.job.print_reports.gate.now ≡ prints.reports)
      × (row.job.print_reports.end ≡ parted.prints.reports.1)
  pub output_orders : (row.output.orders.gate.now ≡ prints.orders)
      × (row.output.orders.end ≡ parted.prints.orders.1)
  pub output_pages : (row.output.pages.gate.now ≡ prints.pages)
      × (row.output.pages.end ≡ parted.prints.pages.1)
  pub output_reports : (row.output.reports.gate.now ≡ prints.reports)
      × (row.output.reports.end ≡ parted.prints.reports.0)
  pub cards_are : row.input.cards ≡ parted.units.cards
  pub typewriter_is : row.job.typewriter ≡ parted.units.typewriter
  pub files_are : row.job.files ≡ parted.units.files
  pub paper_is : row.output.paper ≡ parted.units.paper

-- ---- the units and the ends of a row, apart from its gates
abbrev pub units_of : {S Y K T F : Type 0} → Row S Y K T F → SoloUnits S Y K T F
units_of row = record {
  cards = row.input.cards;
  typewriter = row.job.typewriter;
  paper = row.output.paper;
  files = row.job.files;
}

pub record IsParted {S Y K T F : Type 0} (row : Row S Y K T F) (parted : Parted S Y K T F) : Type 0 where
  pub units : parted.units ≡ units_of row
  pub cards : parted.cards ≡ record {
    orders = (row.job.card_orders.end, row.input.orders.end);
    pages = (row.input.pages.end, row.job.cards.end);
    reports = (row.input.reports.end, row.job.card_reports.end);
  }
  pub prints : parted.prints ≡ record {
    orders = (row.job.print_orders.end, row.output.orders.end);
    pages = (row.job.pages.end, row.output.pages.end);
    reports = (row.output.reports.end, row.job.print_reports.end);
  }

-- the three as they ended
abbrev pub behind : {S Y K T F : Type 0} → RowEnded S Y K T F → Row S Y K T F
behind ended = record { input = ended.input.0; job = ended.job.0; output = ended.output.0 }

-- ---- all that is known of a run
-- Three processes that began with these units ran side by side and ended so, and both ends of each buffer
-- have met.
pub record SoloDid {S Y K T F : Type 0} (left : S → Option (List ℕ)) (taken reads : S → ℕ)
    (w : JobWorld Y T F) (given : K → Option (List ℕ)) (faults : K → ℕ) (units : SoloUnits S Y K T F) (ran : SoloRan S Y K T F)
    : Type 0 where
  pub row : Row S Y K T F
  pub ended : RowEnded S Y K T F
  pub begins : units_of row ≡ units
  pub ran_so : RowRan left taken reads w given faults row ended
  pub stops : List (Option Side)
  pub meet : AllMeet ended (stopped_at stops)
  pub six : stops_of (stopped_at stops) ≡ stops
  pub ran_is : ran ≡ record {
    outcomes = ended.input.1 ∷ ended.job.1 ∷ ended.output.1 ∷ [];
    stopped_by = stops;
    units = units_of (behind ended);
  }
