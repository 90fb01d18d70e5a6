-- What a batch tells of its five histories: a run of the core.
use Rattle.std.specs.Prelude.{◌≡◌, ℕ, List, Option, Some}
use Rattle.solo_base.specs.declared.item.Item.{Item}
use Rattle.solo_base.specs.Text.{text}
use Rattle.solo_devices.specs.CardUnit.{items_ahead}
use Rattle.solo_devices.specs.PrinterUnit.{Gains}
use Rattle.batch_procs.specs.Jobs.{Jobs, FilesAs, one_thread}
use Rattle.core_law.specs.Core.{CoreState}
use Rattle.core_law.specs.Ends.{IsProcess}
use Rattle.core_law.specs.Holds.{AreTold, AreFound, Holds}
use Rattle.core_law.specs.Opening.{Opening, AreInBounds, AreGoodFiles}
use Rattle.core_law.specs.TheLaw.{IsReached}
use Rattle.core_replay.specs.Five.{AreFirstStops}
use Rattle.batch_ends.specs.declared.ends.Ran.{Ran}
use Rattle.batch_ends.specs.declared.units.Units.{Units}
use Rattle.batch_ends.specs.Ended.{all_done, stopped_at}
use Rattle.batch_ends.specs.Openings.{spools_over}
use Rattle.batch_sides.specs.Files.{FileTells}
use Rattle.batch_replay.specs.FiveRan.{BatchRan, histories}

module _ {L S K F A B : Type 0} (J : Jobs L) (left : S → Option (List ℕ)) (taken_from source_faults : S → ℕ)
    (given : K → Option (List ℕ)) (sink_faults : K → ℕ) (loader : FileTells L F)
    (from_size : A → ℕ) (input_told : A → Option (List (List ℕ))) (input_faults : A → ℕ)
    (to_size : B → ℕ) (output_told : B → Option (List (List ℕ))) (output_faults : B → ℕ)
    (units : Units S K F A B) (ran : Ran S K F A B)
    (did : BatchRan J left taken_from source_faults given sink_faults loader from_size input_told input_faults
    to_size output_told output_faults units ran) where
  -- an opening of the core over these units
  pub record OpensOver (opening : Opening J) : Type 0 where
    pub spools : opening.spools
        ≡ spools_over (from_size units.input) (input_told units.input) (to_size units.output)
        (output_told units.output)
    pub deck : opening.deck ≡ items_ahead (left units.deck.source) units.deck.pending
    pub paper : opening.paper ≡ given units.paper.sink
    -- what it tells of the files, these tell; it may tell nothing of them
    pub files : (found : FilesAs L) → opening.files ≡ Some found → loader.found units.files ≡ Some found

  -- A state with the five histories is reached, and there a told deck and the paper are as the batch left
  -- them.
  pub record IsARun (opening : Opening J) : Type 0 where
    pub state : CoreState L
    pub reached : IsReached opening state
    -- so all that the law of the core says of reached states holds of it
    pub holds : Holds opening state
    pub same : (p : ℕ) → IsProcess p → state.histories p ≡ histories did.five p
    pub stopped : AreFirstStops J state (stopped_at ran.stopped_by)
    pub deck : (items : List Item) → opening.deck ≡ Some items
        → state.devices.deck ≡ items_ahead (left ran.units.deck.source) ran.units.deck.pending
    pub paper : state.devices.paper ≡ given ran.units.paper.sink

  abbrev pub BatchIsARun : Type 0
  BatchIsARun = (opening : Opening J) → OpensOver opening → IsARun opening

  -- So over areas that tell their pages the paper gained a first part of what one thread prints, and all of
  -- it where all five are done.
  abbrev pub BatchPrints : Type 0
  BatchPrints = (opening : Opening J) → OpensOver opening → AreTold opening.spools → (items : List Item)
      (found : FilesAs L) → opening.deck ≡ Some items → AreFound J opening.files found items
      → Gains opening.paper (given ran.units.paper.sink) (text (one_thread J items found))
      (ran.outcomes ≡ all_done)

  -- There is such an opening, over spools of 1 to 256 pages each, where what is told of the files is a load.
  pub record HasOpening (files : Option (FilesAs L)) : Type 0 where
    pub opening : Opening J
    pub over : OpensOver opening
    pub tells : opening.files ≡ files

  abbrev pub BatchOpens : Type 0
  BatchOpens = AreInBounds (spools_over (from_size units.input) (input_told units.input)
      (to_size units.output) (output_told units.output)) → (files : Option (FilesAs L)) → AreGoodFiles J files
      → ((found : FilesAs L) → files ≡ Some found → loader.found units.files ≡ Some found) → HasOpening files

-- How a batch ran over these units: by five histories, which are those of a run of the core.
pub record RanAsOne {L S K F A B : Type 0} (J : Jobs L) (left : S → Option (List ℕ))
    (taken_from source_faults : S → ℕ)
    (given : K → Option (List ℕ)) (sink_faults : K → ℕ) (loader : FileTells L F)
    (from_size : A → ℕ) (input_told : A → Option (List (List ℕ))) (input_faults : A → ℕ)
    (to_size : B → ℕ) (output_told : B → Option (List (List ℕ))) (output_faults : B → ℕ)
    (units : Units S K F A B) (ran : Ran S K F A B) : Type 0 where
  pub did : BatchRan J left taken_from source_faults given sink_faults loader from_size input_told
      input_faults to_size output_told output_faults units ran
  pub run : BatchIsARun J left taken_from source_faults given sink_faults loader from_size input_told
      input_faults to_size output_told output_faults units ran did
  pub opens : BatchOpens J left taken_from source_faults given sink_faults loader from_size input_told
      input_faults to_size output_told output_faults units ran did
