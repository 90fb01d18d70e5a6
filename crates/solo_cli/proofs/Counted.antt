-- What a whole run over told devices counts are the counts of its rule, and there are such counts.
use Rattle.std.proofs.Common.{◌≡◌, inl, inr, ℕ, List, Option, Some, refl, ap, subst}
use Rattle.std.specs.Option.{is_some}
use Rattle.solo_base.specs.declared.item.Item.{Item}
use Rattle.solo_base.specs.declared.outcome.Side.{Side}
use Rattle.page_codec.specs.Items.{AreItems}
use Rattle.core_law.specs.Core.{Devices}
use Rattle.batch_job.specs.Report.{Loads}
use Rattle.core_law.specs.Holds.{AreTold}
use Rattle.core_law.specs.Opening.{Spools, AreInBounds, AreCards, AreGoodFiles, Opening, opened, first_state}
use Rattle.core_law.specs.TheLaw.{TellsAll, the_law}
use Rattle.network_run.specs.declared.counts.Counts.{Counts}
use Rattle.batch_ends.specs.declared.ends.Outcomes.{Outcomes}
use Rattle.network_run.specs.declared.rules.Rule.{Rule}
use Rattle.network_run.specs.Counting.{counts_of}
use Rattle.batch_ends.specs.Ended.{all_done}
use Rattle.net_core.specs.WholeRuns.{RunsToEnd}
use Rattle.core_law.proofs.Law.{opening-reached, sound, sure}
use Rattle.batch_procs.specs.Parts.{some-same}
use Rattle.core_law.specs.FilesKnown.{AreFilesKnown}
use Rattle.network_run.specs.OneRun.{TheRun, AreItsCounts}
use Rattle.network_run.proofs.OneRun.{some-run}
use Rattle.schedule_law.proofs.TheCounts.{where-done}
use Rattle.disk_contents.specs.declared.loading.Loaded.{Loaded}
use Rattle.deck_work.specs.DeckJobs.{AreFound, deck_jobs}
use Rattle.deck_work.specs.DeckLaws.{deck_are_jobs}

pub known-files : (files : Option Loads) (found : Loads) (items : List Item) → AreFound files found items → AreFilesKnown deck_jobs files items
known-files files found items (inl told) = inl (ap is_some told)
known-files files found items (inr none) = inr none

pub told-items : (items : List Item) → AreItems items → AreCards (Some items)
told-items items valid all e = subst AreItems (some-same items all e) valid

-- what an opening over told devices is
abbrev pub opening_of : (spools : Spools) (items : List Item) (paper : Option (List ℕ)) (files : Option Loads) → AreGoodFiles deck_jobs files
    → AreInBounds spools → AreItems items → Opening deck_jobs
opening_of spools items paper files good bounds valid = record {
  spools = spools;
  deck = Some items;
  paper = paper;
  files = files;
  bounds = bounds;
  cards = told-items items valid;
  good = good;
}

pub tells-all : (spools : Spools) (items : List Item) (paper : Option (List ℕ)) (files : Option Loads) (found : Loads) (good : AreGoodFiles deck_jobs files)
    (bounds : AreInBounds spools) (valid : AreItems items) → AreFound files found items → AreTold spools
    → TellsAll (opening_of spools items paper files good bounds valid)
tells-all spools items paper files found good bounds valid are told =
    record { spools = told; items = items; deck = refl; files = known-files files found items are }

pub counted-whole : (spools : Spools) (items : List Item) (found : Loads) {paper : Option (List ℕ)} {files : Option Loads} {rule : Rule} {counts : Counts}
    {outcomes : Outcomes} {stops : List (Option Side)} {devices : Devices Loaded} → AreGoodFiles deck_jobs files → AreInBounds spools → AreItems items
    → AreFound files found items → RunsToEnd deck_jobs rule (opened spools (Some items) paper files) counts outcomes stops devices
    → AreTold spools → outcomes ≡ all_done → AreItsCounts (the_law deck_jobs) rule (opened spools (Some items) paper files) counts
counted-whole spools items found {paper = paper} {files = files} good bounds valid are runs told all =
    let o = opening_of spools items paper files good bounds valid in
    where-done deck_are_jobs o (first_state o) (opening-reached deck_are_jobs o) (tells-all spools items paper files found good bounds valid are told) runs all

-- whether it is run or not
pub the-run : (spools : Spools) (items : List Item) (paper : Option (List ℕ)) (files : Option Loads) (found : Loads) (rule : Rule)
    → AreGoodFiles deck_jobs files → AreFound files found items → AreInBounds spools → AreTold spools → AreItems items
    → TheRun (the_law deck_jobs) rule (opened spools (Some items) paper files)
the-run spools items paper files found rule good are bounds told valid =
    let o = opening_of spools items paper files good bounds valid in
    some-run (the_law deck_jobs) (sound deck_are_jobs) (sure deck_are_jobs) o (tells-all spools items paper files found good bounds valid are told) rule
    (first_state o) (opening-reached deck_are_jobs o)

pub some-counts : (spools : Spools) (items : List Item) (paper : Option (List ℕ)) (files : Option Loads) (found : Loads) (rule : Rule)
    → AreGoodFiles deck_jobs files → AreFound files found items → AreInBounds spools → AreTold spools → AreItems items
    → (counts : Counts) × AreItsCounts (the_law deck_jobs) rule (opened spools (Some items) paper files) counts
some-counts spools items paper files found rule good are bounds told valid =
    let one = the-run spools items paper files found rule good are bounds told valid in
    (counts_of (the_law deck_jobs) (opened spools (Some items) paper files) one.events, record { the_run = one; counts_are = refl })
