-- What the console gains of a script that is run and counted.
use Rattle.std.specs.Prelude.{◌≡◌, ◌++◌, ◌∷◌, ℕ, List, [], Option, None, Some, IfSome}
use Rattle.solo_base.specs.Text.{line_text, text}
use Rattle.solo_base.specs.declared.item.Item.{Item}
use Rattle.solo_base.specs.declared.outcome.Cause.{Cause}
use Rattle.solo_devices.specs.CardUnit.{items_ahead}
use Rattle.solo_devices.specs.PrinterUnit.{Gains}
use Rattle.network_run.specs.declared.counts.Counts.{Counts}
use Rattle.network_run.specs.declared.rules.Rule.{Rule}
use Rattle.network_run.specs.OneRun.{AreItsCounts}
use Rattle.real_time.specs.Starts.{times}
use Rattle.real_time.specs.States.{TimeState, opened}
use Rattle.real_time.specs.TimesLaw.{timing}
use Rattle.time_net.specs.TimesRuns.{TimesRun}
use Rattle.run_report.specs.CountsLine.{counts_line}
use Rattle.run_report.specs.Told.{SinkTold, SourceTold}
use Rattle.solo_cli.specs.declared.refusal.Refusal.{Refusal}
use Rattle.solo_cli.specs.declared.refusal.Refusal.TheVariants.{Fault}

-- the nine before the first of these lines, at a console that has this
abbrev pub script_opened : List Item → Option (List ℕ) → TimeState
script_opened items console = opened record { keys = Some items; console = console }

-- Of these typed lines the console gains their lines and behind them the line of these counts, without a
-- grant, or a prefix of it; all of it where this holds. The counts are those of the one run by the rule in
-- which no device fails, whatever became of the run.
pub record GainsTimes (rule : Rule) (items : List Item) (before now : Option (List ℕ)) (all : Type 0) : Type 0
  where
    pub counts : Counts
    pub counted : AreItsCounts timing rule (script_opened items before) counts
    pub gains : Gains before now (text (times items ++ counts_line counts.events counts.delays 0 ∷ [])) all

-- The nine ran by the rule to their end, and came to these counts: each task saw so many starts, so much is
-- left of the keys, with what was taken of them and is in no line yet, and this is what the run displayed.
-- Where it met a fault that is the cause, and nothing is displayed behind it; else the line of the counts, or
-- a prefix of it.
pub record TimesEnds {Y T : Type 0} (rule : Rule) (keys keys_then : SourceTold Y)
    (console console_then : SinkTold T) (answer : Option Refusal) : Type 0 where
  pub counts : Counts
  pub starts : List ℕ
  pub pending : List ℕ
  pub displayed : Option (List ℕ)
  pub fault : Option Cause
  pub runs : TimesRun rule (opened record { keys = items_ahead keys.left []; console = console.given }) counts
      starts (items_ahead keys_then.left pending) displayed
  pub faulty : IfSome fault (λ why. (answer ≡ Some (Fault why)) × (console_then.given ≡ displayed))
  pub faultless : fault ≡ None → Gains displayed console_then.given
      (line_text (counts_line counts.events counts.delays counts.grants)) (answer ≡ None)
