-- A run by a rule from its beginning to its end.
use Rattle.std.specs.Prelude.{◌≡◌, List, Option}
use Rattle.solo_base.specs.declared.outcome.Side.{Side}
use Rattle.network_run.specs.declared.counts.Counts.{Counts}
use Rattle.network_run.specs.declared.rules.Rule.{Rule}
use Rattle.network_run.specs.Counting.{counts_of}
use Rattle.network_run.specs.Law.{AreEnabled, run}
use Rattle.network_run.specs.Runs.{AreByRule}
use Rattle.batch_procs.specs.Jobs.{Jobs}
use Rattle.twin_law.specs.Twin.{TwinState, TwinEvent, Devices}
use Rattle.twin_law.specs.TheLaw.{the_law}
use Rattle.twin_ends.specs.declared.units.TwinOutcomes.{TwinOutcomes}
use Rattle.twin_net.specs.Ended.{TwinEndsSo}

-- Enabled events by the rule, which come to these counts. Behind them all six have ended with these outcomes,
-- the buffers were first stopped by these sides, and the deck and the paper are as told.
pub record TwinRunsToEnd {L : Type 0} (J : Jobs L) (rule : Rule) (s : TwinState L) (counts : Counts)
    (outcomes : TwinOutcomes) (stops : List (Option Side)) (devices : Devices L) : Type 0 where
  pub events : List (TwinEvent L)
  pub enabled : AreEnabled (the_law J) s events
  pub by_rule : AreByRule (the_law J) rule s events
  pub counts_are : counts ≡ counts_of (the_law J) s events
  pub ends : TwinEndsSo J (run (the_law J) s events) outcomes stops
  pub devices_are : (run (the_law J) s events).devices ≡ devices
