-- What is printed through a unit is printed on its paper.
use Rattle.std.proofs.Common.{◌≡◌, ◌≤◌, ◌⊎◌, inl, inr, ℕ, List, Option, Some, None, Result, refl, ap, subst}
use Rattle.std.specs.Prelude.{IfSome, IsOk, IsErrOf}
use Rattle.solo_base.specs.declared.outcome.Cause.{Cause}
use Rattle.solo_base.specs.declared.outcome.Cause.TheVariants as cause
use Rattle.solo_base.specs.Text.{line_text}
use Rattle.solo_devices.specs.Count.{Rose}
use Rattle.solo_devices.specs.PrinterUnit.{Gains}
use Rattle.solo_devices.specs.declared.printer_unit.PrintFault.{PrintFault}
use Rattle.solo_devices.specs.declared.printer_unit.PrintFault.TheVariants.{Failed}
use Rattle.network_run.specs.declared.counts.Counts.{Counts}
use Rattle.run_report.specs.Told.{SinkTold}
use Rattle.run_report.proofs.Adding.{gains-same}
use Rattle.twin_top.specs.Runs.{IsOfPrint, LineFailed, PrintsCounts, counts_as_line}

failed-by : {K : Type 0} (before after : SinkTold K) (answer : Option Cause) → IfSome answer IsOfPrint
    → (answer ≡ Some cause.PrintFault → Rose before.faults after.faults) → IfSome answer (LineFailed before after)
failed-by before after None known rose = tt
failed-by before after (Some why) (inl is) rose = inl (is, rose (ap Some is))
failed-by before after (Some why) (inr is) rose = inr is

pub prints-so : {K T : Type 0} {before after : SinkTold K} {counts : Counts} {answer : Option Cause} {printed : Result T PrintFault} {line : List ℕ}
    {given given' : Option (List ℕ)} {faults faults' : ℕ} → given ≡ before.given → faults ≡ before.faults → given' ≡ after.given → faults' ≡ after.faults
    → line ≡ counts_as_line counts → (answer ≡ None → IsOk printed) → IfSome answer IsOfPrint → (answer ≡ Some cause.PrintFault → IsErrOf printed Failed)
    → Gains given given' (line_text line) (IsOk printed) → (IsErrOf printed Failed → Rose faults faults') → faults ≤ faults'
    → PrintsCounts before after counts answer
prints-so {before = before} {after = after} {answer = answer} {faults' = faults'} b f a n same done known failed gains rose counts = record {
  gains = gains-same _ _ _ _ _ _ _ _ b a (ap line_text same) done gains;
  failed = failed-by before after answer known
      (λ is. subst (λ now. Rose before.faults now) n (subst (λ old. Rose old faults') f (rose (failed is))));
  on = subst (λ now. before.faults ≤ now) n (subst (λ old. old ≤ faults') f counts);
}
