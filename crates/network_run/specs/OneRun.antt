-- The run that a rule makes where no device fails and no memory is refused.
use Rattle.std.specs.Prelude.{◌≡◌, List}
use Rattle.std.specs.List.{AllByRecursion}
use Rattle.network_run.specs.declared.counts.Counts.{Counts}
use Rattle.network_run.specs.declared.rules.Rule.{Rule}
use Rattle.network_run.specs.Counting.{counts_of}
use Rattle.network_run.specs.Law.{Law, AreEnabled, run, AllEnded}
use Rattle.network_run.specs.Runs.{AreByRule}

-- Enabled events from a state on, each of the process that the rule picks, up to where all have ended. In
-- none of them a device fails or memory is refused.
pub record IsUndisturbed (law : Law) (rule : Rule) (s : law.State) (events : List law.Event) : Type 0 where
  pub enabled : AreEnabled law s events
  pub by_rule : AreByRule law rule s events
  pub smooth : AllByRecursion law.IsSmooth events
  pub ends : AllEnded law (run law s events)

-- the one undisturbed run of the rule
pub record TheRun (law : Law) (rule : Rule) (s : law.State) : Type 0 where
  pub events : List law.Event
  pub is : IsUndisturbed law rule s events
  pub only : (others : List law.Event) → IsUndisturbed law rule s others → others ≡ events

-- These are its counts.
pub record AreItsCounts (law : Law) (rule : Rule) (s : law.State) (counts : Counts) : Type 0 where
  pub the_run : TheRun law rule s
  pub counts_are : counts ≡ counts_of law s the_run.events
