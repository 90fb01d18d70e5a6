-- What holds of every reached state of the core, whatever the order of the events, whichever device fails and
-- wherever memory is refused.
use Rattle.std.specs.Prelude.{◌≡◌, ◌⊎◌, ℕ, suc, true, List, [], Option, Some}
use Rattle.solo_base.specs.declared.item.Item.{Item}
use Rattle.solo_base.specs.declared.outcome.Side.{Side}
use Rattle.solo_base.specs.declared.outcome.Outcome.TheVariants as outcome
use Rattle.solo_base.specs.declared.outcome.Cause.{Cause}
use Rattle.solo_base.specs.Text.{text}
use Rattle.solo_devices.specs.PrinterUnit.{Gains}
use Rattle.queue_var.specs.HandsOver.{is_one_of}
use Rattle.resource_mon.specs.Claims.{HasOneHolder}
use Rattle.solo_base.specs.Prefixes.{IsPrefixOf}
use Rattle.batch_procs.specs.Jobs.{Jobs, FilesAs, one_thread}
use Rattle.batch_procs.specs.Faults.{IsDamaged}
use Rattle.batch_procs.specs.Parcels.{is_last, handed}
use Rattle.batch_procs.specs.History.{taken, sent, has_stopped}
use Rattle.batch_procs.specs.Process.{Follows, next_action}
use Rattle.batch_procs.specs.Laws.{HoldsOn}
use Rattle.batch_procs.specs.Table.{process}
use Rattle.network_law.specs.Acts.{was_told}
use Rattle.network_law.specs.Network.{IsEnabled, acts}
use Rattle.network_law.specs.Kept.{StandsFor, WasToldRightly}
use Rattle.core_law.specs.Core.{core, CoreState, CoreEvent, IsBuffer, seat}
use Rattle.core_law.specs.FilesLoaded.{files_loaded, AreLoadedSo}
use Rattle.core_law.specs.Opening.{Spools, Opening}
use Rattle.core_law.specs.Queues.{QueuesHold}
use Rattle.core_law.specs.Ends.{IsProcess, HasEnded, HasEndedSo, AllDone, EndsTogether, HaveCauses, IsSmooth}

-- both spools tell their pages
pub record AreTold (spools : Spools) : Type 0 where
  pub input : spools.input_told ≡ true
  pub output : spools.output_told ≡ true

-- What the files are loaded as that these items name: the file area tells it, or none is named.
abbrev pub AreFound : {L : Type 0} → Jobs L → Option (FilesAs L) → FilesAs L → List Item → Type 0
AreFound J files found items = (files ≡ Some found) ⊎ (J.named items ≡ [])

-- The holder of the disk puts or takes a page next, loads a file or releases it, or the turn of the desk is
-- handed to it.
abbrev pub GoesOn : {L : Type 0} → Jobs L → CoreState L → ℕ → Type 0
GoesOn J s p = (s.desk.claims.handed ≡ Some p) ⊎ HoldsOn (next_action (process J p) (s.histories p))

-- What was loaded is the first of what these items name, and all of it where all five are done.
pub record LoadsInOrder {L : Type 0} (J : Jobs L) (s : CoreState L) (items : List Item) : Type 0 where
  pub prefix : IsPrefixOf (files_loaded (s.histories 3)) (J.named items)
  pub all : AllDone s → files_loaded (s.histories 3) ≡ J.named items

pub record Holds {L : Type 0} {J : Jobs L} (opening : Opening J) (s : CoreState L) : Type 0 where
  -- What the paper gained is a prefix of what one thread prints, and all of it where all five ended with
  -- their work done.
  pub prints : AreTold opening.spools → (items : List Item) (found : FilesAs L) → opening.deck ≡ Some items
      → AreFound J opening.files found items
      → Gains opening.paper s.devices.paper (text (one_thread J items found)) (AllDone s)
  -- The job process loads the files that the jobs of the deck name, in order, and each as the files say.
  pub loads : AreTold opening.spools → (items : List Item) → opening.deck ≡ Some items
      → LoadsInOrder J s items
  pub loads_so : (found : FilesAs L) → opening.files ≡ Some found → (p : ℕ)
      → AreLoadedSo found (s.histories p)
  -- Where all are done nothing is left of the deck.
  pub reads : (items : List Item) → opening.deck ≡ Some items → AllDone s → s.devices.deck ≡ Some []
  -- Each buffer hands over in order what its sender sent, and who waits there has a cause to.
  pub hands_over : (b : ℕ) → IsBuffer b → StandsFor is_last (sent (s.histories b))
      (handed (taken (s.histories (suc b)))) (s.buffers b)
  -- The stops of a buffer are those of its two processes.
  pub stops : (b : ℕ) (side : Side) → is_one_of side (s.buffers b).stops
      ≡ has_stopped b (s.histories (seat b side))
  -- A side is told of a stop where the other side stopped first, and a receiver where nothing was inside.
  pub told : (b : ℕ) (side : Side) → was_told b side
      (acts (core J (process J)) (seat b side) (s.histories (seat b side))) ≡ true
      → WasToldRightly (s.buffers b) side
  -- Who waits stands in one queue, and calls there next; what was found ready is still there.
  pub queues : QueuesHold J s
  -- One process has the disk, in order of arrival, and it goes on.
  pub one_holder : HasOneHolder s.desk.requested s.desk.granted s.desk.released s.desk.claims
  pub holder : (p : ℕ) → s.desk.claims.holder ≡ Some p → GoesOn J s p
  pub ends : EndsTogether s
  pub causes : HaveCauses s
  -- Over told areas no page is damaged, whatever deck is read.
  pub undamaged : AreTold opening.spools → (p : ℕ) (c : Cause) → IsProcess p
      → HasEndedSo s (outcome.Fault c) p → IsDamaged c → ⊥
  -- Each process did what its history asks for.
  pub follows : (p : ℕ) → Follows J (process J p) (s.histories p)

-- Some process has not ended, and no event may happen in which no device fails and no memory is refused.
pub record IsStuck {L : Type 0} (J : Jobs L) (s : CoreState L) : Type 0 where
  pub not_ended : ((p : ℕ) → IsProcess p → HasEnded s p) → ⊥
  pub none_enabled : (event : CoreEvent L) → IsEnabled (core J (process J)) s event → IsSmooth event.entry → ⊥
