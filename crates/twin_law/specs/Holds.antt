-- What holds of every reached state of the twin network, whatever the order of the events, whichever device
-- fails and wherever memory is refused.
use Rattle.std.specs.Prelude.{◌≡◌, ℕ, List, [], ◌++◌, Some}
use Rattle.solo_devices.specs.PrinterUnit.{Gains}
use Rattle.network_law.specs.Kept.{Stands}
use Rattle.solo_base.specs.declared.item.Item.{Item}
use Rattle.solo_base.specs.declared.outcome.Outcome.{Outcome}
use Rattle.solo_base.specs.declared.outcome.Outcome.TheVariants as outcome
use Rattle.solo_base.specs.declared.outcome.Cause.{Cause}
use Rattle.solo_base.specs.Text.{text}
use Rattle.batch_procs.specs.Faults.{IsDamaged}
use Rattle.batch_procs.specs.Jobs.{Jobs, FilesAs, one_thread}
use Rattle.twin_law.specs.Table.{process}
use Rattle.twin_law.specs.Twin.{twin, TwinState, IsProcess}
use Rattle.twin_law.specs.Opening.{AreTold, Opening}
use Rattle.twin_law.specs.TheLaw.{first_state}
use Rattle.twin_law.specs.Alone.{AreLoadedSo}
use Rattle.twin_law.specs.UnitWork.{AreByUnits}
use Rattle.twin_law.specs.Told.{read_all}
use Rattle.twin_law.specs.Outcomes.{HasEndedSo, AllDone, EndsRightly, HaveCauses, HasAFault}
use Rattle.twin_law.specs.Process.{caused}

-- Where the jobs can be worked on unit by unit: over told areas what the paper gained is a prefix of what one
-- thread prints, and all of it where all six ended with their work done.
abbrev pub Prints : {L : Type 0} {J : Jobs L} → Opening J → TwinState L → Type 0
Prints {L} {J} o s = AreByUnits J → AreTold o.spools → (items : List Item) (found : FilesAs L)
    → o.deck ≡ Some items → o.files ≡ Some found
    → Gains o.paper s.devices.paper (text (one_thread J items found)) (AllDone s)

-- What was read of a told deck, and what is left of it, are its cards; nothing is left where all are done.
pub record IsRead {L : Type 0} (s : TwinState L) (items : List Item) : Type 0 where
  pub left : List Item
  pub left_is : s.devices.deck ≡ Some left
  pub cards_are : items ≡ read_all (s.histories 1) ++ left
  pub all : AllDone s → left ≡ []

-- Where the jobs can be worked on unit by unit: over told devices a process is told that another stopped only
-- where one has a fault.
abbrev pub StopsByFault : {L : Type 0} {J : Jobs L} → Opening J → TwinState L → Type 0
StopsByFault {L} {J} o s = AreByUnits J → AreTold o.spools → (items : List Item) (found : FilesAs L)
    → o.deck ≡ Some items → o.files ≡ Some found → (p : ℕ) → IsProcess p
    → caused (process J p) (s.histories p) ≡ Some outcome.Stopped → HasAFault J s

pub record Holds {L : Type 0} {J : Jobs L} (o : Opening J) (s : TwinState L) : Type 0 where
  pub prints : Prints o s
  pub reads : (items : List Item) → o.deck ≡ Some items → IsRead s items
  -- Each process loads told files as they say.
  pub loads_so : (found : FilesAs L) → o.files ≡ Some found → (p : ℕ) → AreLoadedSo found (s.histories p)
  -- Each of the six buffers hands over in order, the marks always, the parcels where they are told; its stops
  -- are those of its two processes, and who was told of one was told rightly; who waits stands in one queue;
  -- and one process has the disk, in order of arrival.
  pub stands : Stands (twin J) (first_state o) s
  -- How each ended is its cause, and each fault is one of its own.
  pub ends : (p : ℕ) (how : Outcome) → IsProcess p → HasEndedSo s how p
      → EndsRightly (process J p) (s.histories p) how
  pub causes : HaveCauses J s
  pub stopped : StopsByFault o s
  -- Over told areas no page is damaged, whatever deck is read, whatever files are loaded as, and whatever the
  -- jobs are.
  pub undamaged : AreTold o.spools → (p : ℕ) (c : Cause) → IsProcess p → HasEndedSo s (outcome.Fault c) p
      → IsDamaged c → ⊥
