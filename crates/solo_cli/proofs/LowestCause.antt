-- The lowest number decides how a run of the five ends a command.
use Rattle.std.proofs.Common.{◌≡◌, ◌≤◌, ◌⊎◌, inl, inr, List, Option, Some, None, refl}
use Rattle.std.specs.Prelude.{IfSome}
use Rattle.solo_base.specs.declared.outcome.Cause.{Cause}
use Rattle.solo_base.specs.declared.outcome.Outcome.TheVariants as outcome
use Rattle.solo_base.specs.declared.outcome.Side.{Side}
use Rattle.batch_ends.specs.declared.ends.Outcomes.{Outcomes}
use Rattle.batch_ends.specs.Ended.{EndTogether, FaultsAre, all_done}
use Rattle.solo_cli.specs.declared.refusal.Refusal.{Refusal}
use Rattle.solo_cli.specs.declared.refusal.Refusal.TheVariants.{Fault, NoRoom}
use Rattle.run_report.specs.Decides.{IsIn, decides}
use Rattle.run_report.specs.Status.{number_of}
use Rattle.solo_cli.specs.Decides.{LowestDecides, Nothing, list_of}
use Rattle.solo_cli.specs.Refusals.{OfFault, as_refusal}
use Rattle.solo_cli.proofs.AllDone.{all-done}
use Rattle.run_report.proofs.Lowest.{among, no-fault, least}

-- where a command has no cause its run has none
pub none-is : (why : Option Cause) → as_refusal why ≡ None → why ≡ None
none-is None none = refl
none-is (Some it) none = cc

module _ (outcomes : Outcomes) (stops : List (Option Side)) (together : EndTogether outcomes stops) (faults : FaultsAre outcomes)
    (Behind : Cause → Type 0) where
  pub one-of : (found : Option Cause) → decides (list_of outcomes) ≡ found
      → IfSome (as_refusal found) (OfFault (λ why. IsIn (outcome.Fault why) (list_of outcomes) ⊎ ((outcomes ≡ all_done) × Behind why)))
  one-of None is = tt
  one-of (Some why) is = inl (among (list_of outcomes) why is)

  pub none-lower : (found : Option Cause) → decides (list_of outcomes) ≡ found → (fault : Cause) → IsIn (outcome.Fault fault) (list_of outcomes)
      → (why : Cause) × (as_refusal found ≡ Some (Fault why)) × (number_of why ≤ number_of fault)
  none-lower None is fault at = absurd (no-fault (list_of outcomes) is fault at)
  none-lower (Some why) is fault at = (why, refl, least (list_of outcomes) why is fault at)

  -- a cause of the five is the lowest of theirs
  abbrev pub lowest-decides : LowestDecides Behind (as_refusal (decides (list_of outcomes)))
  lowest-decides = record {
    outcomes = outcomes;
    stopped_by = stops;
    together = together;
    faults = faults;
    one_of = one-of (decides (list_of outcomes)) refl;
    none_lower = none-lower (decides (list_of outcomes)) refl;
    done = λ none. all-done outcomes stops together (none-is (decides (list_of outcomes)) none);
  }

-- ---- a line that comes behind the five
module _ (Behind : Cause → Type 0) where
  pub alone : (outcomes : Outcomes) (answer : Option Refusal)
      → IfSome answer (OfFault (λ why. IsIn (outcome.Fault why) (list_of outcomes) ⊎ ((outcomes ≡ all_done) × ⊥)))
      → IfSome answer (OfFault (λ why. IsIn (outcome.Fault why) (list_of outcomes) ⊎ ((outcomes ≡ all_done) × Behind why)))
  alone outcomes None one = tt
  alone outcomes (Some (Fault why)) (inl at) = inl at
  alone outcomes (Some (Fault why)) (inr both) = absurd both.1
  alone outcomes (Some (NoRoom needed free)) one = one

  pub behind-of : (outcomes : Outcomes) (answer : Option Refusal) → outcomes ≡ all_done → IfSome answer (OfFault Behind)
      → IfSome answer (OfFault (λ why. IsIn (outcome.Fault why) (list_of outcomes) ⊎ ((outcomes ≡ all_done) × Behind why)))
  behind-of outcomes None all later = tt
  behind-of outcomes (Some (Fault why)) all later = inr (all, later)
  behind-of outcomes (Some (NoRoom needed free)) all later = later

  -- nothing came behind a run that met a fault
  abbrev pub met : (answer : Option Refusal) → LowestDecides Nothing answer → LowestDecides Behind answer
  met answer lowest = record {
    outcomes = lowest.outcomes;
    stopped_by = lowest.stopped_by;
    together = lowest.together;
    faults = lowest.faults;
    one_of = alone lowest.outcomes answer lowest.one_of;
    none_lower = lowest.none_lower;
    done = lowest.done;
  }

  -- and behind one that is done the cause is that of the line
  abbrev pub comes-behind : (answer : Option Refusal) → LowestDecides Nothing None → IfSome answer (OfFault Behind) → LowestDecides Behind answer
  comes-behind answer lowest later = record {
    outcomes = lowest.outcomes;
    stopped_by = lowest.stopped_by;
    together = lowest.together;
    faults = lowest.faults;
    one_of = behind-of lowest.outcomes answer (lowest.done refl) later;
    none_lower = λ fault at. absurd (let lower = lowest.none_lower fault at in (let none : None ≡ Some (Fault lower.0) = lower.1 in cc));
    done = λ _. lowest.done refl;
  }
