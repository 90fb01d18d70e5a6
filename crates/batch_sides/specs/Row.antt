-- The five processes side by side: how each begins, and what it made of its side of the buffers.
use Rattle.std.specs.Prelude.{◌≡◌, ℕ, Bool, true, false, List, [], Option, None}
use Rattle.solo_base.specs.declared.outcome.Outcome.{Outcome}
use Rattle.batch_procs.specs.Table.{card, input, job, output, printer}
use Rattle.batch_procs.specs.Jobs.{Jobs}
use Rattle.batch_sides.specs.declared.card_side.CardSide.{CardSide}
use Rattle.batch_sides.specs.declared.printer_side.PrinterSide.{PrinterSide}
use Rattle.batch_sides.specs.declared.input_side.InputSide.{InputSide}
use Rattle.batch_sides.specs.declared.job_side.JobSide.{JobSide}
use Rattle.batch_sides.specs.declared.output_side.OutputSide.{OutputSide}
use Rattle.batch_sides.specs.declared.row.Row.{Row}
use Rattle.batch_sides.specs.declared.row.RowEnded.{RowEnded}
use Rattle.side_by_side.specs.Came.{Came}
use Rattle.batch_sides.specs.Running.{EndsSo}
use Rattle.batch_sides.specs.Cards.{CardRan}
use Rattle.batch_sides.specs.Files.{FileTells}
use Rattle.batch_sides.specs.Input.{InputRan}
use Rattle.batch_sides.specs.Job.{JobRan}
use Rattle.batch_sides.specs.Lines.{PrinterRan}
use Rattle.batch_sides.specs.Output.{OutputRan}

-- ---- each of the five by itself
abbrev pub CardsCame : {L S : Type 0} → Jobs L → (S → Option (List ℕ)) → (S → ℕ) → (S → ℕ) → ℕ → ℕ → Bool
    → CardSide S → (CardSide S × Outcome) → Type 0
CardsCame J left taken faults start here all cards ended =
    Came start here all (EndsSo J card (CardRan left taken faults cards ended.0 None) ended.1)
    (ended.0 ≡ cards)

abbrev pub PagesCame : {L A : Type 0} → Jobs L → (A → ℕ) → ℕ → ℕ → Bool → InputSide A →
    (InputSide A × Outcome) → Type 0
PagesCame J size start here all pages ended =
    Came start here all
    (EndsSo J input (InputRan size pages ended.0 None) ended.1)
    (ended.0 ≡ pages)

abbrev pub JobsCame : {L F A B : Type 0} → Jobs L → FileTells L F → (A → ℕ) → (B → ℕ) → ℕ → ℕ → Bool
    → JobSide F A B → (JobSide F A B × Outcome) → Type 0
JobsCame J loader from_size to_size start here all jobs ended =
    Came start here all
    (EndsSo J (job J) (JobRan loader from_size to_size jobs ended.0 None) ended.1)
    (ended.0 ≡ jobs)

abbrev pub LinesCame : {L B : Type 0} → Jobs L → (B → ℕ) → ℕ → ℕ → Bool
    → OutputSide B → (OutputSide B × Outcome) → Type 0
LinesCame J size start here all lines ended =
    Came start here all
    (EndsSo J output (OutputRan size lines ended.0 None) ended.1)
    (ended.0 ≡ lines)

abbrev pub PaperCame : {L K : Type 0} → Jobs L → (K → Option (List ℕ)) → (K → ℕ) → ℕ → ℕ → Bool
    → PrinterSide K → (PrinterSide K × Outcome) → Type 0
PaperCame J given faults start here all paper ended =
    Came start here all (EndsSo J printer (PrinterRan given faults paper ended.0 None) ended.1)
    (ended.0 ≡ paper)

-- ---- side by side: the job, the output and the printer process
module _ {L K F A B : Type 0} (J : Jobs L) (given : K → Option (List ℕ)) (faults : K → ℕ)
    (loader : FileTells L F) (from_size : A → ℕ) (to_size : B → ℕ) where
  pub record RestBegins (jobs : JobSide F A B) (lines : OutputSide B) (paper : PrinterSide K) : Type 0 where
    pub jobs_begin : JobRan loader from_size to_size jobs jobs None []
    pub lines_begin : OutputRan {L = L} to_size lines lines None []
    pub paper_begins : PrinterRan {L = L} given faults paper paper None []

  pub record RestRan (jobs : JobSide F A B) (lines : OutputSide B) (paper : PrinterSide K)
      (ended : (JobSide F A B × Outcome) × (OutputSide B × Outcome) × (PrinterSide K × Outcome)) : Type 0 where
    pub jobs_ended : EndsSo J (job J) (JobRan loader from_size to_size jobs ended.0.0 None) ended.0.1
    pub lines_ended : EndsSo J output (OutputRan to_size lines ended.1.0 None) ended.1.1
    pub paper_ended : EndsSo J printer (PrinterRan given faults paper ended.2.0 None) ended.2.1

  abbrev pub RestCame : ℕ → ℕ → Bool → JobSide F A B → OutputSide B → PrinterSide K
      → ((JobSide F A B × Outcome) × (OutputSide B × Outcome) × (PrinterSide K × Outcome)) → Type 0
  RestCame start here all jobs lines paper ended =
      Came start here all (RestRan jobs lines paper ended)
      ((ended.0.0 ≡ jobs) × (ended.1.0 ≡ lines) × (ended.2.0 ≡ paper))

-- ---- all five
module _ {L S K F A B : Type 0} (J : Jobs L) (left : S → Option (List ℕ)) (taken source_faults : S → ℕ)
    (given : K → Option (List ℕ)) (sink_faults : K → ℕ) (loader : FileTells L F)
    (from_size : A → ℕ) (to_size : B → ℕ) where
  -- The ends have had no call, no process has the disk, and the devices may be used.
  pub record RowBegins (row : Row S K F A B) : Type 0 where
    pub cards : CardRan {L = L} left taken source_faults row.cards row.cards None []
    pub pages : InputRan {L = L} from_size row.pages row.pages None []
    pub jobs : JobRan loader from_size to_size row.jobs row.jobs None []
    pub lines : OutputRan {L = L} to_size row.lines row.lines None []
    pub paper : PrinterRan {L = L} given sink_faults row.paper row.paper None []

  -- Each of the five did what its history asks for, over its own side.
  pub record RowRan (row : Row S K F A B) (ended : RowEnded S K F A B) : Type 0 where
    pub cards : EndsSo J card (CardRan left taken source_faults row.cards ended.cards.0 None) ended.cards.1
    pub pages : EndsSo J input (InputRan from_size row.pages ended.pages.0 None) ended.pages.1
    pub jobs : EndsSo J (job J) (JobRan loader from_size to_size row.jobs ended.jobs.0 None) ended.jobs.1
    pub lines : EndsSo J output (OutputRan to_size row.lines ended.lines.0 None) ended.lines.1
    pub paper : EndsSo J printer (PrinterRan given sink_faults row.paper ended.paper.0 None) ended.paper.1

-- None of them has begun: their sides are as they were.
pub record RowStays {S K F A B : Type 0} (row : Row S K F A B) (ended : RowEnded S K F A B) : Type 0 where
  pub cards : ended.cards.0 ≡ row.cards
  pub pages : ended.pages.0 ≡ row.pages
  pub jobs : ended.jobs.0 ≡ row.jobs
  pub lines : ended.lines.0 ≡ row.lines
  pub paper : ended.paper.0 ≡ row.paper

-- All have come to the start and ran, or none has begun.
pub record RowCame {L S K F A B : Type 0} (J : Jobs L) (left : S → Option (List ℕ))
    (taken source_faults : S → ℕ)
    (given : K → Option (List ℕ)) (sink_faults : K → ℕ) (loader : FileTells L F)
    (from_size : A → ℕ) (to_size : B → ℕ) (whole : Bool) (row : Row S K F A B)
    (ended : RowEnded S K F A B) : Type 0 where
  pub ran : whole ≡ true
      → RowRan J left taken source_faults given sink_faults loader from_size to_size row ended
  pub stays : whole ≡ false → RowStays row ended
