-- What a run answers are the counts of the one run.
use Rattle.std.proofs.Common.{◌≡◌, List, Option, refl}
use Rattle.solo_base.specs.declared.outcome.Side.{Side}
use Rattle.solo_base.specs.declared.outcome.Outcome.TheVariants as outcome
use Rattle.batch_procs.specs.Table.{process}
use Rattle.network_run.specs.declared.counts.Counts.{Counts}
use Rattle.network_run.specs.declared.rules.Rule.{Rule}
use Rattle.network_run.specs.Law.{run}
use Rattle.network_run.specs.OneRun.{IsUndisturbed, AreItsCounts}
use Rattle.network_run.specs.Runs.{RunsBy}
use Rattle.network_run.proofs.OneRun.{one-run}
use Rattle.core_law.specs.Core.{CoreState, Devices}
use Rattle.core_law.specs.Ends.{AllDone}
use Rattle.core_law.specs.Opening.{Opening, first_state}
use Rattle.core_law.specs.TheLaw.{TellsAll, the_law, IsReached}
use Rattle.core_law.proofs.Law.{ended-none, sound, sure}
use Rattle.core_law.proofs.Reached.{Centre, centre-run, reached-centre}
use Rattle.net_core.specs.declared.net.Net.{Net}
use Rattle.batch_ends.specs.Causes as device
use Rattle.net_core.specs.Ended.{EndsSo}
use Rattle.net_core.specs.Net.{Keeps, NetStands, StandsWithin}
use Rattle.net_core.specs.WholeRuns.{RunsToEnd}
use Rattle.schedule_law.specs.NoneCounted.{NoneCounted, NoneLacked}
use Rattle.schedule_law.proofs.AllDone.{done-so, all-done}
use Rattle.schedule_law.proofs.AllSmooth.{done-smooth}
use Rattle.batch_procs.specs.Jobs.{Jobs, AreJobs}
use Rattle.batch_ends.specs.Ended.{all_done}
use Rattle.batch_ends.specs.Faults.{AreCounted}
use Rattle.batch_ends.specs.Tells.{Tells}
use Rattle.batch_ends.specs.declared.ends.Outcomes.{Outcomes}
use Rattle.batch_ends.specs.declared.units.Units.{Units}

module _ {L : Type 0} {J : Jobs L} (jobs : AreJobs J) where
  module _ {rule : Rule} {counts : Counts} {outcomes : Outcomes} {stops : List (Option Side)} {devices : Devices L} (o : Opening J)
      (s : CoreState L)
      (reached : IsReached o s) (told : TellsAll o) (ran : RunsToEnd J rule s counts outcomes stops devices) where
    abbrev end : CoreState L
    end = run (the_law J) s ran.events

    last : Centre jobs (first_state o) end
    last = centre-run jobs (first_state o) s ran.events ran.enabled (reached-centre jobs o s reached)

    of-done : AllDone end → AreItsCounts (the_law J) rule s counts
    of-done done =
        let smooth = done-smooth jobs (first_state o) s ran.events ran.enabled last done in
        let is : IsUndisturbed (the_law J) rule s ran.events
        = record {
          enabled = ran.enabled;
          by_rule = ran.by_rule;
          smooth = smooth;
          ends = λ p one. ended-none jobs (process J p) (end.histories p) (outcome.Done, done p one);
        } in
        record {
          the_run = record {
            events = ran.events;
            is = is;
            only = λ others too. one-run (the_law J) (sound jobs) (sure jobs) o told rule s ran.events others reached is too;
          };
          counts_are = ran.counts_are;
        }

    pub where-done : outcomes ≡ all_done → AreItsCounts (the_law J) rule s counts
    where-done all = of-done (done-so jobs end outcomes stops ran.ends all)

    pub where-none_counted : {S K F A B : Type 0} {counting : device.Counts S K F A B} {before now : Units S K F A B}
        → AreCounted counting before now outcomes → NoneCounted counting before now → NoneLacked outcomes → AreItsCounts (the_law J) rule s counts
    where-none_counted {counting = counting} {before = before} {now = now} counted none lacked =
        of-done (all-done jobs o.spools o.deck o.paper o.files told.spools end last counting before now outcomes stops ran.ends counted
        none lacked)

  -- a run of a network whose end is told, without the network
  pub to-end : {X S K F A B : Type 0} {keeps : Keeps L X} {tells : Tells L S K F A B} {rule : Rule} {net : Net X S K F A B} {s : CoreState L} {counts : Counts}
      {outcomes : Outcomes} {stops : List (Option Side)} → (by : RunsBy (the_law J) (StandsWithin J keeps tells net) rule s counts)
      → ((t : CoreState L) → NetStands J keeps tells net t → EndsSo t outcomes stops)
      → RunsToEnd J rule s counts outcomes stops (run (the_law J) s by.events).devices
  to-end by ends = record {
    events = by.events;
    enabled = by.enabled;
    by_rule = by.by_rule;
    counts_are = by.counts_are;
    ends = ends (run (the_law J) _ by.events) by.stands.is;
    devices_are = refl;
  }
