-- What the paper gains where the words ask for a run.
use Rattle.std.proofs.Common.{◌≡◌, ◌≢◌, ◌⊎◌, inl, inr, ℕ, List, [], ◌∷◌, ◌++◌, Option, Some, None, refl, sym, subst, arith}
use Rattle.std.specs.Prelude.{IsSome}
use Rattle.solo_base.specs.declared.outcome.Cause.{Cause}
use Rattle.solo_base.specs.declared.outcome.Cause.TheVariants as cause
use Rattle.solo_base.specs.Text.{text}
use Rattle.solo_devices.specs.PrinterUnit.{Gains}
use Rattle.network_run.specs.Counting.{no_counts}
use Rattle.batch_job.specs.Report.{Loads}
use Rattle.batch_job.specs.OneThread.{one_thread_output}
use Rattle.run_report.specs.Status.{status_of}
use Rattle.run_report.specs.Told.{SinkTold}
use Rattle.run_report.proofs.Adding.{gains-same, nothing}
use Rattle.twin_top.specs.Answers.{DoesAsAsked, GainsAndCounts}
use Rattle.twin_top.specs.Kit.{TwinKit}
use Rattle.twin_top.specs.Runs.{AreGiven, NothingRan, SixRan, counts_as_line}

no-cause : (answer : Option Cause) → status_of answer ≡ 0 → answer ≡ None
no-cause None zero = refl
no-cause (Some cause.Usage) zero = absurd (omega (arith, zero))
no-cause (Some cause.ReadFault) zero = absurd (omega (arith, zero))
no-cause (Some cause.DiskFault) zero = absurd (omega (arith, zero))
no-cause (Some cause.PrintFault) zero = absurd (omega (arith, zero))
no-cause (Some cause.ConsoleFault) zero = absurd (omega (arith, zero))
no-cause (Some cause.DeckLimit) zero = absurd (omega (arith, zero))
no-cause (Some (cause.NotSolo page)) zero = absurd (omega (arith, zero))
no-cause (Some (cause.Damaged expected found at)) zero = absurd (omega (arith, zero))
no-cause (Some cause.NoMemory) zero = absurd (omega (arith, zero))

some-status : (answer : Option Cause) → IsSome answer → status_of answer ≡ 0 → ⊥
some-status None some zero = cc
some-status (Some why) some zero = (let none = no-cause (Some why) zero in cc)

module _ {S K F A : Type 0} (before after : TwinKit S K F A) where
  ran-gains : (schedule : ℕ) (answer : Option Cause) (bytes : List ℕ) (found : Loads) → AreGiven before bytes found
      → SixRan schedule before after answer ⊎ (NothingRan before after × IsSome answer)
      → GainsAndCounts before.paper.given after.paper.given (one_thread_output found bytes) (status_of answer ≡ 0)
  ran-gains schedule answer bytes found given (inl ran) = record {
    counts = ran.counts;
    gains = gains-same _ _ _ _ _ _ _ _ refl refl refl (no-cause answer) (ran.prints bytes found given);
  }
  ran-gains schedule answer bytes found given (inr not) = record {
    counts = no_counts;
    gains = subst (λ (paper : SinkTold K). Gains before.paper.given paper.given
        (text (one_thread_output found bytes ++ counts_as_line no_counts ∷ [])) (status_of answer ≡ 0)) (sym not.0.paper)
        (nothing before.paper.given (text (one_thread_output found bytes ++ counts_as_line no_counts ∷ [])) (status_of answer ≡ 0)
        (some-status answer not.1));
  }

  pub asked-gains : (asked : Option ℕ) (answer : Option Cause) → DoesAsAsked asked before after answer → asked ≢ None
      → (bytes : List ℕ) (found : Loads) → AreGiven before bytes found
      → GainsAndCounts before.paper.given after.paper.given (one_thread_output found bytes) (status_of answer ≡ 0)
  asked-gains None answer does some bytes found given = absurd (some refl)
  asked-gains (Some schedule) answer does some bytes found given = ran-gains schedule answer bytes found given does.runs
