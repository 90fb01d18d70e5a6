-- A run from an opening to its end.
use Rattle.std.proofs.Common.{◌≡◌, ◌≤◌, ℕ, List, length, Option, Some, refl, sym, ◌∙◌, ap, arith}
use Rattle.solo_base.specs.declared.item.Item.{Item}
use Rattle.solo_base.specs.declared.outcome.Side.{Side}
use Rattle.network_run.specs.declared.counts.Counts.{Counts}
use Rattle.network_run.specs.declared.rules.Rule.{Rule}
use Rattle.network_run.specs.Counting.{raised}
use Rattle.network_run.specs.Law.{Placed, run}
use Rattle.network_run.specs.Runs.{RunsBy}
use Rattle.network_run.proofs.Along.{place-behind}
use Rattle.network_run.proofs.RunMore.{raised-few}
use Rattle.batch_procs.specs.Jobs.{Jobs, AreJobs, FilesAs}
use Rattle.batch_procs.specs.JobTold.{JobTold}
use Rattle.twin_law.specs.Bound.{longest_run}
use Rattle.twin_law.specs.Twin.{Devices}
use Rattle.twin_law.specs.Opening.{AreTold}
use Rattle.twin_law.specs.TheLaw.{the_law}
use Rattle.twin_law.specs.UnitWork.{AreByUnits}
use Rattle.twin_law.proofs.Bounded.{no-run_longer}
use Rattle.twin_ends.specs.declared.units.TwinUnits.{TwinUnits}
use Rattle.twin_ends.specs.declared.units.TwinOutcomes.{TwinOutcomes}
use Rattle.twin_ends.specs.TwinTells.{TwinTells, twin_devices, twin_spools, twin_opened, cards_ahead}
use Rattle.twin_net.specs.declared.net.TwinNet.{TwinNet}
use Rattle.twin_net.specs.TwinStands.{shared_units}
use Rattle.twin_net.specs.Net.{TwinStandsWithin, TwinOpensOver, twin_opening, twin_first_place}
use Rattle.twin_net.specs.Ended.{TwinEndsSo}
use Rattle.twin_net.specs.TwinRuns.{TwinRunsToEnd}

module _ {L : Type 0} {J : Jobs L} (jobs : AreJobs J) where
  same-told : (devices : Devices L) (deck : Option (List Item)) (paper : Option (List ℕ)) (files : Option (FilesAs L)) → devices.deck ≡ deck
      → devices.paper ≡ paper
      → devices.files ≡ files → devices ≡ record { deck = deck; paper = paper; files = files }
  same-told devices deck paper files a b c = rw (sym a, sym b, sym c) refl

  module _ {X S K F A : Type 0} (keeps : X → JobTold L → Type 0) (tells : TwinTells L S K F A) (rule : Rule) (net : TwinNet X S K F A) where
    -- over told devices it is no longer than its deck allows
    pub run-bounded : (first : TwinNet X S K F A) (units : TwinUnits S K F A) (opens : TwinOpensOver J (TwinStandsWithin J keeps tells first) tells units)
        (counts : Counts) (items : List Item) (found : FilesAs L)
        → AreByUnits J → AreTold (twin_spools tells units) → cards_ahead tells units.deck ≡ Some items → tells.files units.files ≡ Some found
        → RunsBy (the_law J) (TwinStandsWithin J keeps tells net) rule (twin_opened tells units) counts → counts.events ≤ longest_run J found items
    run-bounded first units opens counts items found by told deck files ran =
        let few = no-run_longer jobs (twin_opening opens) items found ran.events by told deck files ran.enabled in
        let most = raised-few (length ran.events) in
        bounded counts.events (raised 0 (length ran.events)) (length ran.events) (longest_run J found items)
        (ap (λ (c : Counts). c.events) ran.counts_are) most few
      where
        bounded : (n m long most : ℕ) → n ≡ m → m ≤ long → long ≤ most → n ≤ most
        bounded n m long most a b c = omega (arith, a, b, c)

    -- how a run went, once it has ended, told without its network
    pub runs-to-end : (first : TwinNet X S K F A) (opened : TwinUnits S K F A) (opens : TwinOpensOver J (TwinStandsWithin J keeps tells first) tells opened)
        (counts : Counts) (ran : RunsBy (the_law J) (TwinStandsWithin J keeps tells net) rule (twin_opened tells opened) counts)
        (outcomes : TwinOutcomes) (stops : List (Option Side))
        → ((at : Placed (the_law J) (TwinStandsWithin J keeps tells net)) → TwinEndsSo J at.state outcomes stops)
        → (units : TwinUnits S K F A) → units ≡ shared_units net.shared
        → TwinRunsToEnd J rule (twin_opened tells opened) counts outcomes stops (twin_devices tells units)
    runs-to-end first opened opens counts ran outcomes stops ends units units_are = record {
      events = ran.events;
      enabled = ran.enabled;
      by_rule = ran.by_rule;
      counts_are = ran.counts_are;
      ends = ends (place-behind (the_law J) (TwinStandsWithin J keeps tells first) (TwinStandsWithin J keeps tells net) (twin_first_place opens) ran.events
          ran.enabled ran.stands);
      devices_are =
          same-told (run (the_law J) (twin_opened tells opened) ran.events).devices _ _ _ ran.stands.is.shared.deck ran.stands.is.shared.paper
          ran.stands.is.shared.files
          ∙ ap (twin_devices tells) (sym units_are);
    }
