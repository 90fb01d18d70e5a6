-- What is printed through a unit is printed on its paper.
use Rattle.std.proofs.Common.{◌≡◌, ◌≤◌, ℕ, List, Option, Some, None, Result, refl, subst, arith}
use Rattle.std.specs.Prelude.{IfSome, IsOk, IsErrOf}
use Rattle.solo_base.specs.declared.outcome.Cause.TheVariants as cause
use Rattle.solo_devices.specs.Count.{Rose}
use Rattle.solo_devices.specs.PrinterUnit.{Gains}
use Rattle.solo_devices.specs.declared.printer_unit.PrintFault.{PrintFault}
use Rattle.solo_devices.specs.declared.printer_unit.PrintFault.TheVariants.{Failed}
use Rattle.run_report.specs.Told.{SinkTold}
use Rattle.run_report.proofs.Adding.{gains-same, nothing}
use Rattle.solo_cli.specs.declared.refusal.Refusal.{Refusal}
use Rattle.solo_cli.specs.declared.refusal.Refusal.TheVariants.{Fault}
use Rattle.solo_cli.specs.Causes.{EndsBy, print_statuses}
use Rattle.solo_cli.specs.Printing.{PrintsBytes}

pub prints-as : {K T : Type 0} {before after : SinkTold K} {bytes : List ℕ} {answer : Option Refusal} {printed : Result T PrintFault}
    {given given' : Option (List ℕ)} {faults faults' : ℕ} → given ≡ before.given → faults ≡ before.faults → given' ≡ after.given → faults' ≡ after.faults
    → (answer ≡ None → IsOk printed) → IfSome answer (EndsBy print_statuses)
    → (answer ≡ Some (Fault cause.PrintFault) → IsErrOf printed Failed)
    → Gains given given' bytes (IsOk printed) → (IsErrOf printed Failed → Rose faults faults') → faults ≤ faults' → PrintsBytes before after bytes answer
prints-as {before = before} {faults' = faults'} b f a n done known failed gains rose counts = record {
  gains = gains-same _ _ _ _ _ _ _ _ b a refl done gains;
  known = known;
  failed = λ is. subst (λ now. Rose before.faults now) n (subst (λ old. Rose old faults') f (rose (failed is)));
  counts = subst (λ now. before.faults ≤ now) n (subst (λ old. old ≤ faults') f counts);
}

-- where memory is refused nothing is printed
pub lacks_print : {K : Type 0} (before : SinkTold K) (bytes : List ℕ) → PrintsBytes before before bytes (Some (Fault cause.NoMemory))
lacks_print before bytes = record {
  gains = nothing before.given bytes (Some (Fault cause.NoMemory) ≡ None) (λ none. cc);
  known = refl;
  failed = λ is. absurd (let no : Some (Fault cause.NoMemory) ≡ Some (Fault cause.PrintFault) = is in cc);
  counts = omega arith;
}
