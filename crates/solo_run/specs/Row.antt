-- The three processes side by side: how each begins, and what it made of its side of the buffers.
use Rattle.std.specs.Prelude.{◌≡◌, ℕ, Bool, List, [], Option}
use Rattle.solo_base.specs.declared.outcome.Outcome.{Outcome}
use Rattle.side_by_side.specs.Came.{Came}
use Rattle.solo_run.specs.declared.input_side.InputSide.{InputSide}
use Rattle.solo_run.specs.declared.job_side.JobSide.{JobSide}
use Rattle.solo_run.specs.declared.output_side.OutputSide.{OutputSide}
use Rattle.solo_run.specs.declared.row.Row.{Row}
use Rattle.solo_run.specs.declared.row.RowEnded.{RowEnded}
use Rattle.solo_run.specs.Input.{InputRan}
use Rattle.solo_run.specs.Job.{JobWorld, JobRan, JobDid}
use Rattle.solo_run.specs.Output.{OutputRan}
use Rattle.solo_run.specs.Running.{EndsSo}

-- ---- each by itself
abbrev pub InputCame : {S : Type 0} → (S → Option (List ℕ)) → (S → ℕ) → (S → ℕ) → ℕ → ℕ → Bool → InputSide S
    → (InputSide S × Outcome) → Type 0
InputCame left taken faults start here all side ended =
    Came start here all (EndsSo 1 (InputRan left taken faults side ended.0) ended.1) (ended.0 ≡ side)

abbrev pub JobCame : {Y T F : Type 0} → JobWorld Y T F → ℕ → ℕ → Bool → JobSide Y T F
    → (JobSide Y T F × Outcome) → Type 0
JobCame w start here all side ended =
    Came start here all (EndsSo 2 (JobDid w side ended.0) ended.1) (ended.0 ≡ side)

abbrev pub OutputCame : {K : Type 0} → (K → Option (List ℕ)) → (K → ℕ) → ℕ → ℕ → Bool → OutputSide K
    → (OutputSide K × Outcome) → Type 0
OutputCame given faults start here all side ended =
    Came start here all (EndsSo 3 (OutputRan given faults side ended.0) ended.1) (ended.0 ≡ side)

-- ---- side by side
pub record BackBegins {Y T F K : Type 0} (w : JobWorld Y T F) (given : K → Option (List ℕ)) (faults : K → ℕ)
    (job : JobSide Y T F) (output : OutputSide K) : Type 0 where
  pub job_begins : JobRan w (w.opens job.files) job job []
  pub output_begins : OutputRan given faults output output []

pub record BackRan {Y T F K : Type 0} (w : JobWorld Y T F) (given : K → Option (List ℕ)) (faults : K → ℕ)
    (job : JobSide Y T F) (output : OutputSide K)
    (ended : (JobSide Y T F × Outcome) × (OutputSide K × Outcome)) : Type 0 where
  pub job_ended : EndsSo 2 (JobDid w job ended.0.0) ended.0.1
  pub output_ended : EndsSo 3 (OutputRan given faults output ended.1.0) ended.1.1

abbrev pub BackCame : {Y T F K : Type 0} → JobWorld Y T F → (K → Option (List ℕ)) → (K → ℕ) → ℕ → ℕ → Bool
    → JobSide Y T F → OutputSide K → ((JobSide Y T F × Outcome) × (OutputSide K × Outcome)) → Type 0
BackCame w given faults start here all job output ended =
    Came start here all (BackRan w given faults job output ended) ((ended.0.0 ≡ job) × (ended.1.0 ≡ output))

pub record RowBegins {S Y T F K : Type 0} (left : S → Option (List ℕ)) (taken reads : S → ℕ) (w : JobWorld Y T F)
    (given : K → Option (List ℕ)) (faults : K → ℕ) (row : Row S Y K T F) : Type 0 where
  pub input_begins : InputRan left taken reads row.input row.input []
  pub back : BackBegins w given faults row.job row.output

-- Each did what its history asks for and ended so.
pub record RowRan {S Y T F K : Type 0} (left : S → Option (List ℕ)) (taken reads : S → ℕ) (w : JobWorld Y T F)
    (given : K → Option (List ℕ)) (faults : K → ℕ) (row : Row S Y K T F) (ended : RowEnded S Y K T F)
    : Type 0 where
  pub input_ended : EndsSo 1 (InputRan left taken reads row.input ended.input.0) ended.input.1
  pub job_ended : EndsSo 2 (JobDid w row.job ended.job.0) ended.job.1
  pub output_ended : EndsSo 3 (OutputRan given faults row.output ended.output.0) ended.output.1
