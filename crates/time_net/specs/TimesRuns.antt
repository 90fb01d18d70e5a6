-- A run by a rule from its beginning to its end.
use Rattle.std.specs.Prelude.{◌≡◌, ℕ, List, Option, None, Some}
use Rattle.solo_base.specs.declared.item.Item.{Item}
use Rattle.solo_base.specs.declared.outcome.Cause.{Cause}
use Rattle.solo_base.specs.declared.outcome.Outcome.{Outcome}
use Rattle.solo_base.specs.declared.outcome.Outcome.TheVariants as outcome
use Rattle.network_run.specs.declared.counts.Counts.{Counts}
use Rattle.network_run.specs.declared.rules.Rule.{Rule}
use Rattle.network_run.specs.Counting.{counts_of}
use Rattle.network_run.specs.Law.{AllEnded, AreEnabled, run}
use Rattle.network_run.specs.Runs.{AreByRule}
use Rattle.real_time.specs.States.{TimeEvent, TimeState}
use Rattle.real_time.specs.TimesLaw.{timing}
use Rattle.time_net.specs.TimeStands.{all_runs}

-- Enabled events by the rule, which come to these counts. Behind them all nine have ended, each task saw so
-- many starts, this is left of the keys, and the console has this, where they tell it.
pub record TimesRun (rule : Rule) (s : TimeState) (counts : Counts) (starts : List ℕ)
    (keys : Option (List Item)) (console : Option (List ℕ)) : Type 0 where
  pub events : List TimeEvent
  pub enabled : AreEnabled timing s events
  pub by_rule : AreByRule timing rule s events
  pub counts_are : counts ≡ counts_of timing s events
  pub ended : AllEnded timing (run timing s events)
  pub starts_are : starts ≡ all_runs (run timing s events)
  pub keys_are : (run timing s events).keys ≡ keys
  pub console_is : (run timing s events).console ≡ console

-- the fault of an outcome
abbrev pub fault_told : Outcome → Option Cause
fault_told outcome.Done = None
fault_told (outcome.Fault cause) = Some cause
fault_told outcome.Stopped = None
