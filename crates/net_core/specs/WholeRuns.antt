-- A run by a rule from its beginning to its end.
use Rattle.std.specs.Prelude.{◌≡◌, List, Option}
use Rattle.solo_base.specs.declared.outcome.Side.{Side}
use Rattle.network_run.specs.declared.counts.Counts.{Counts}
use Rattle.network_run.specs.declared.rules.Rule.{Rule}
use Rattle.network_run.specs.Counting.{counts_of}
use Rattle.network_run.specs.Law.{AreEnabled, run}
use Rattle.network_run.specs.Runs.{AreByRule}
use Rattle.core_law.specs.Core.{CoreState, CoreEvent, Devices}
use Rattle.core_law.specs.TheLaw.{the_law}
use Rattle.batch_ends.specs.declared.ends.Outcomes.{Outcomes}
use Rattle.net_core.specs.Ended.{EndsSo}
use Rattle.batch_procs.specs.Jobs.{Jobs}

-- Enabled events by the rule, which come to these counts. Behind them all five have ended with these
-- outcomes, the buffers were first stopped by these sides, and the deck and the paper are as told.
pub record RunsToEnd {L : Type 0} (J : Jobs L) (rule : Rule) (s : CoreState L) (counts : Counts)
    (outcomes : Outcomes) (stops : List (Option Side)) (devices : Devices L) : Type 0 where
  pub events : List (CoreEvent L)
  pub enabled : AreEnabled (the_law J) s events
  pub by_rule : AreByRule (the_law J) rule s events
  pub counts_are : counts ≡ counts_of (the_law J) s events
  pub ends : EndsSo (run (the_law J) s events) outcomes stops
  pub devices_are : (run (the_law J) s events).devices ≡ devices
