-- What holds of every reached state of Solo, whatever the order of the events, whichever device fails and
-- wherever memory is refused.
use Rattle.std.specs.Prelude.{◌≡◌, ◌⊎◌, ◌≤◌, ℕ, true, List, [], ◌∷◌, Some}
use Rattle.solo_base.specs.declared.outcome.Side.{Side}
use Rattle.solo_base.specs.declared.outcome.Side.TheVariants.{Sender, Receiver}
use Rattle.solo_base.specs.declared.outcome.Outcome.{Outcome}
use Rattle.solo_base.specs.declared.outcome.Outcome.TheVariants as outcome
use Rattle.solo_base.specs.declared.outcome.Cause.{Cause}
use Rattle.solo_base.specs.declared.outcome.Cause.TheVariants as cause
use Rattle.solo_base.specs.Text.{text}
use Rattle.solo_base.specs.declared.item.Item.{Item}
use Rattle.solo_devices.specs.PrinterUnit.{Gains}
use Rattle.queue_var.specs.HandsOver.{is_one_of}
use Rattle.network_law.specs.Acts.{made_stop, was_told}
use Rattle.network_law.specs.Network.{Follows}
use Rattle.network_law.specs.Kept.{StandsFor, WasToldRightly, QueuesStand, IsTold, acts_at, passed}
use Rattle.exchange_law.specs.Parcels.{mark}
use Rattle.place_law.specs.Process.{caused}
use Rattle.place_law.specs.Ending.{EndsRightly, GivenBy, HasEndedSo, HaveReasons, EndsTogether}
use Rattle.solo_law.specs.Replies.{view}
use Rattle.solo_law.specs.Work.{Plan}
use Rattle.solo_law.specs.Devices.{Devices}
use Rattle.solo_law.specs.Told.{needs, on_console, on_paper, lines_of_all, begun, needs_of}
use Rattle.solo_law.specs.Begins.{WorkHanded}
use Rattle.solo_law.specs.Solo.{process, table, solo, SoloState, IsProcess}

abbrev pub IsBuffer : ℕ → Type 0
IsBuffer b = (1 ≤ b) × (b ≤ 6)

-- ---- causes
abbrev pub IsAmong : Cause → List Cause → Type 0
IsAmong c [] = ⊥
IsAmong c (first ∷ rest) = (c ≡ first) ⊎ IsAmong c rest

abbrev pub HasFault : SoloState → ℕ → Cause → Type 0
HasFault s p c = caused view (process p) (s.histories p) ≡ Some (outcome.Fault c)

-- Each cause was given by an entry, and each fault is one that the process may have. So no page is damaged.
pub record HaveCauses (s : SoloState) : Type 0 where
  pub given : (p : ℕ) (how : Outcome) → IsProcess p → caused view (process p) (s.histories p) ≡ Some how
      → GivenBy view (process p) how (s.histories p)
  pub input : (c : Cause) → HasFault s 1 c → IsAmong c (cause.ReadFault ∷ cause.DeckLimit ∷ [])
  pub job : (c : Cause) → HasFault s 2 c
      → IsAmong c (cause.ReadFault ∷ cause.DeckLimit ∷ cause.ConsoleFault ∷ cause.DiskFault
      ∷ cause.NoMemory ∷ [])
  pub output : (c : Cause) → HasFault s 3 c → IsAmong c (cause.PrintFault ∷ cause.NoMemory ∷ [])

-- ---- all that holds
pub record Holds (devices : Devices) (s : SoloState) : Type 0 where
  -- Each buffer hands over in order what its sender put, and who waits there has a cause to.
  pub hands_over : (b : ℕ) → IsBuffer b
      → StandsFor mark (passed solo s b Sender) (passed solo s b Receiver) (s.buffers b)
  pub one_slot : (b : ℕ) → (s.buffers b).capacity ≡ 1
  pub told_inside : (b : ℕ) → IsTold (s.buffers b)
  -- Who is in a queue sits at that side, is delayed and calls there next, and nobody else is delayed there.
  pub queues : QueuesStand solo s
  -- The stops of a buffer are those of its two processes.
  pub stops : (b : ℕ) (side : Side) → is_one_of side (s.buffers b).stops
      ≡ made_stop b side (acts_at solo s b side)
  -- A side is told of a stop where the other side stopped first, and a receiver where nothing was inside.
  pub told : (b : ℕ) (side : Side) → was_told b side (acts_at solo s b side) ≡ true
      → WasToldRightly (s.buffers b) side
  -- Each process ends as its cause says: at its last place without one, and behind the stops of all its
  -- buffers with one.
  pub ends_rightly : (p : ℕ) (how : Outcome) → IsProcess p → HasEndedSo table s p how
      → EndsRightly view (process p) (s.histories p) how
  pub ends : EndsTogether table s
  pub reasons : HaveReasons table s
  pub causes : HaveCauses s
  -- Over told files the needs are those that these files make of what the work began with.
  pub works : (plan : Plan) → devices.work ≡ Some plan
      → needs (s.histories 2) ≡ needs_of plan (begun (s.histories 2))
  -- Over told cards and typed lines the work begins with what these hand on, in order.
  pub begins : (cards keys : List Item) → devices.cards ≡ Some cards → devices.keys ≡ Some keys
      → WorkHanded cards keys s
  -- What the console gained is a first part of what the needs of the commands show, in order, and all of it
  -- where the job process ended with its work done.
  pub shows : Gains devices.console s.devices.console (text (lines_of_all on_console (needs (s.histories 2))))
      (HasEndedSo table s 2 outcome.Done)
  -- What the paper gained is a first part of what they print, and all of it where the output process did so
  -- too.
  pub prints : Gains devices.paper s.devices.paper (text (lines_of_all on_paper (needs (s.histories 2))))
      (HasEndedSo table s 2 outcome.Done × HasEndedSo table s 3 outcome.Done)
  -- Each process did what its history asks for.
  pub follows : (p : ℕ) → Follows solo p (s.histories p)
