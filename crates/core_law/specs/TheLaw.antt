-- The law of the core, and its reached states.
use Rattle.std.specs.Prelude.{◌≡◌, List, Some}
use Rattle.solo_base.specs.declared.item.Item.{Item}
use Rattle.batch_procs.specs.Jobs.{Jobs}
use Rattle.batch_procs.specs.History.{Entry}
use Rattle.batch_procs.specs.Table.{process}
use Rattle.network_run.specs.Law as run
use Rattle.network_law.specs.Stepping.{Openings, law_of}
use Rattle.core_law.specs.Core.{Devices, core, CoreState}
use Rattle.core_law.specs.Ends.{IsSmooth}
use Rattle.core_law.specs.FilesKnown.{AreFilesKnown}
use Rattle.core_law.specs.Holds.{AreTold}
use Rattle.core_law.specs.Opening.{Opening, size_of, told_of, devices_at, first_state}

-- The spools tell their pages and the deck its cards, and what is known of the files that these name.
pub record TellsAll {L : Type 0} {J : Jobs L} (opening : Opening J) : Type 0 where
  pub spools : AreTold opening.spools
  pub items : List Item
  pub deck : opening.deck ≡ Some items
  pub files : AreFilesKnown J opening.files items

abbrev pub the_openings : {L : Type 0} → Jobs L → Openings (Devices L) (Entry L)
the_openings J = record {
  Opening = Opening J;
  devices = λ opening. devices_at opening;
  sizes = λ opening. size_of opening.spools;
  told = λ opening. told_of opening.spools;
  IsTold = λ opening. TellsAll opening;
  IsSmooth = λ entry. IsSmooth entry;
}

abbrev pub the_law : {L : Type 0} → Jobs L → run.Law
the_law J = law_of (core J (process J)) (the_openings J)

-- A state of the five that some list of enabled events leads to from an opening.
abbrev pub IsReached : {L : Type 0} {J : Jobs L} → Opening J → CoreState L → Type 0
IsReached {L} {J} opening s = run.IsReached (the_law J) (first_state opening) s
