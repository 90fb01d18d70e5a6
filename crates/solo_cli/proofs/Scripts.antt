-- What the console gains of a script, with the line of its counts or without.
use Rattle.std.proofs.Common.{◌≡◌, ℕ, List, [], ◌∷◌, ◌++◌, Option, Some, None, refl, ◌∙◌, ap, subst}
use Rattle.solo_base.specs.Text.{text, line_text}
use Rattle.solo_base.specs.declared.item.Item.{Item}
use Rattle.solo_base.specs.declared.outcome.Outcome.{Outcome}
use Rattle.solo_base.specs.declared.outcome.Outcome.TheVariants as outcome
use Rattle.solo_devices.specs.PrinterUnit.{Gains}
use Rattle.network_run.specs.declared.counts.Counts.{Counts}
use Rattle.network_run.specs.declared.rules.Rule.{Rule}
use Rattle.network_run.specs.Counting.{counts_of}
use Rattle.network_run.specs.OneRun.{AreItsCounts, TheRun}
use Rattle.network_run.proofs.OneRun.{some-run}
use Rattle.real_time.specs.Starts.{times}
use Rattle.real_time.specs.States.{Opening}
use Rattle.real_time.proofs.Sureness.{sure}
use Rattle.real_time.specs.TimesLaw.{timing}
use Rattle.real_time.proofs.Unstuck.{sound}
use Rattle.time_net.specs.TimeStands.{outcome_with}
use Rattle.time_net.specs.TimesRuns.{fault_told}
use Rattle.run_report.specs.CountsLine.{counts_line}
use Rattle.run_report.proofs.Adding.{both, gains-same, without}
use Rattle.solo_cli.specs.TimesConsole.{GainsTimes, script_opened}

pub done-of : (o : Outcome) → o ≡ outcome_with (fault_told o) → fault_told o ≡ None → o ≡ outcome.Done
done-of o ends none = ends ∙ ap outcome_with none

-- the one undisturbed run of a script, whatever became of it
module _ (rule : Rule) (items : List Item) (before : Option (List ℕ)) where
  abbrev opening : Opening
  opening = record { keys = Some items; console = before }

  the-run : TheRun timing rule (script_opened items before)
  the-run =
      some-run timing sound sure opening (items, refl) rule (script_opened items before) record { events = []; enabled = tt; leads = refl }

  abbrev its-counts : Counts
  its-counts = counts_of timing (script_opened items before) the-run.events

-- behind a run that is done
pub with-counts : (rule : Rule) (items : List Item) (before mid now : Option (List ℕ)) (counts : Counts) (all : Type 0) (done : Type 0) → done
    → counts.grants ≡ 0 → AreItsCounts timing rule (script_opened items before) counts → Gains before mid (text (times items)) done
    → Gains mid now (line_text (counts_line counts.events counts.delays counts.grants)) all → GainsTimes rule items before now all
with-counts rule items before mid now counts all done is grants counted gains line = record {
  counts = counts;
  counted = counted;
  gains = subst (λ grants. Gains before now (text (times items ++ counts_line counts.events counts.delays grants ∷ [])) all) grants
      (both before mid now (times items) (counts_line counts.events counts.delays counts.grants) done all is gains line);
}

-- behind one that is not
pub without-counts : (rule : Rule) (items : List Item) (before now : Option (List ℕ)) (all done : Type 0) → (all → ⊥)
    → Gains before now (text (times items)) done → GainsTimes rule items before now all
without-counts rule items before now all done never gains =
    let counts = its-counts rule items before in
    record {
      counts = counts;
      counted = record { the_run = the-run rule items before; counts_are = refl };
      gains = without before now (times items) (counts_line counts.events counts.delays 0) all never
          (gains-same before before now now (text (times items)) (text (times items)) done all refl refl refl (λ is. absurd (never is)) gains);
    }
