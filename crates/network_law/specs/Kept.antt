-- What holds of the buffers, of their queues and of the desk in every reached state of a network.
use Rattle.std.specs.Prelude.{◌≡◌, ◌⊎◌, ℕ, ◌<◌, Bool, true, false, List, [], ◌∷◌, ◌++◌, map, length, Some}
use Rattle.std.specs.List.{AllByRecursion}
use Rattle.solo_base.specs.declared.outcome.Side.{Side}
use Rattle.solo_base.specs.declared.outcome.Side.TheVariants.{Sender, Receiver}
use Rattle.queue_var.specs.Sides.{queue, stopped_by, other}
use Rattle.queue_var.specs.HandsOver.{HandsOver, StoppedFirst, is_one_of}
use Rattle.resource_mon.specs.Claims.{HasOneHolder}
use Rattle.network_law.specs.Acts.{At, Asks, Visit, Awaits, Passes, Act, moved, made_stop, was_told, found_ready, waits, holds}
use Rattle.network_law.specs.Buffer.{Buffer}
use Rattle.network_law.specs.Network.{Network, State, IsOne, Follows, acts}
use Rattle.network_law.specs.Processes.{CallsNext}

-- What was put and what was taken, and the buffer stands where it does after them: the marks always, the
-- parcels where they are told.
pub record StandsFor {Parcel : Type 0} (mark : Parcel → Bool) (sent taken : List Parcel)
    (buffer : Buffer Parcel) : Type 0 where
  pub marks : HandsOver buffer.capacity (map mark sent) (map mark taken) buffer.marks buffer.sides
  pub parcels : (inside : List Parcel) → buffer.inside ≡ Some inside → taken ++ inside ≡ sent
  pub stopped_first : StoppedFirst buffer.stops buffer.sides.stops

-- A sender has room, a receiver has something to take.
abbrev pub IsReady : {Parcel : Type 0} → Buffer Parcel → Side → Type 0
IsReady buffer Sender = length buffer.marks < buffer.capacity
IsReady buffer Receiver = 0 < length buffer.marks

-- Only the other side stopped first where a side was told so, and a receiver was told once nothing was
-- inside.
pub record WasToldRightly {Parcel : Type 0} (buffer : Buffer Parcel) (side : Side) : Type 0 where
  pub by_other : stopped_by buffer.sides ≡ Some (other side)
  pub empty : side ≡ Receiver → buffer.marks ≡ []

-- the acts of the process at a side of a buffer
abbrev pub acts_at : {Devices Action Entry Parcel : Type 0} → Network Devices Action Entry Parcel
    → State Devices Entry Parcel → ℕ → Side → List (Act Parcel)
acts_at network s b side = acts network (network.seat b side) (s.histories (network.seat b side))

-- the parcels that went through a side of a buffer, the first of all first
abbrev pub passed : {Devices Action Entry Parcel : Type 0} → Network Devices Action Entry Parcel
    → State Devices Entry Parcel → ℕ → Side → List Parcel
passed network s b side = moved b side (acts_at network s b side)

pub record BuffersStand {Devices Action Entry Parcel : Type 0} (network : Network Devices Action Entry Parcel)
    (s : State Devices Entry Parcel) : Type 0 where
  pub hand_over : (b : ℕ) → StandsFor network.mark (passed network s b Sender) (passed network s b Receiver)
      (s.buffers b)
  pub stops : (b : ℕ) (side : Side) → is_one_of side (s.buffers b).stops
      ≡ made_stop b side (acts_at network s b side)
  -- what was awaited is there
  pub ready : (b : ℕ) (side : Side) → found_ready b side (acts_at network s b side) ≡ true
      → IsReady (s.buffers b) side
  pub told : (b : ℕ) (side : Side) → was_told b side (acts_at network s b side) ≡ true
      → WasToldRightly (s.buffers b) side

-- a call that may wait in a queue of a buffer
abbrev pub CanWait : Visit → Type 0
CanWait Awaits = Unit {0}
CanWait Passes = Unit {0}
CanWait visit = ⊥

-- Who is in a queue sits at that side, is delayed, and calls there next.
pub record StandsInQueue {Devices Action Entry Parcel : Type 0}
    (network : Network Devices Action Entry Parcel) (s : State Devices Entry Parcel) (b : ℕ) (side : Side)
    (q : ℕ) : Type 0 where
  pub visit : Visit
  pub can_wait : CanWait visit
  pub seated : network.seat b side ≡ q
  pub waits_now : waits (acts network q (s.histories q)) ≡ true
  pub calls : CallsNext network q (s.histories q) (At b side visit)

-- Each that waits at a buffer stands in its queue, and nobody else does.
pub record QueuesStand {Devices Action Entry Parcel : Type 0} (network : Network Devices Action Entry Parcel)
    (s : State Devices Entry Parcel) : Type 0 where
  pub queued : (b : ℕ) (side : Side) (q : ℕ) → queue (s.buffers b).sides side ≡ Some q
      → StandsInQueue network s b side q
  pub delayed : (b : ℕ) (side : Side) (visit : Visit) (q : ℕ) → waits (acts network q (s.histories q)) ≡ true
      → CallsNext network q (s.histories q) (At b side visit) → queue (s.buffers b).sides side ≡ Some q

-- Who stands at the desk is delayed, asks next, and doesn't have the disk.
pub record StandsAtDesk {Devices Action Entry Parcel : Type 0} (network : Network Devices Action Entry Parcel)
    (s : State Devices Entry Parcel) (q : ℕ) : Type 0 where
  pub waits_now : waits (acts network q (s.histories q)) ≡ true
  pub calls : CallsNext network q (s.histories q) Asks
  pub holds_not : holds (acts network q (s.histories q)) ≡ false

-- it is one of these
abbrev pub IsAmong : List ℕ → ℕ → Type 0
IsAmong [] q = ⊥
IsAmong (p ∷ later) q = (p ≡ q) ⊎ IsAmong later q

-- Each that waits for the disk stands in its queue, or the turn is handed to it, and nobody else does.
pub record DeskStands {Devices Action Entry Parcel : Type 0} (network : Network Devices Action Entry Parcel)
    (s : State Devices Entry Parcel) : Type 0 where
  pub one_holder : HasOneHolder s.desk.requested s.desk.granted s.desk.released s.desk.claims
  pub waiting : AllByRecursion (StandsAtDesk network s) s.desk.claims.waiting
  pub handed : (q : ℕ) → s.desk.claims.handed ≡ Some q → StandsAtDesk network s q
  pub delayed : (q : ℕ) → waits (acts network q (s.histories q)) ≡ true
      → CallsNext network q (s.histories q) Asks
      → IsAmong s.desk.claims.waiting q ⊎ (s.desk.claims.handed ≡ Some q)
  -- the holder was granted the disk, or the turn is handed to it
  pub holder : (q : ℕ) → s.desk.claims.holder ≡ Some q
      → (s.desk.claims.handed ≡ Some q) ⊎ (holds (acts network q (s.histories q)) ≡ true)
  pub holds_alone : (q : ℕ) → holds (acts network q (s.histories q)) ≡ true → s.desk.claims.holder ≡ Some q

abbrev pub IsTold : {Parcel : Type 0} → Buffer Parcel → Type 0
IsTold buffer = (inside : List _) × (buffer.inside ≡ Some inside)

-- What every event keeps. The sizes of the buffers never change, what is inside stays told, and no process
-- has another number.
pub record Stands {Devices Action Entry Parcel : Type 0} (network : Network Devices Action Entry Parcel)
    (opening s : State Devices Entry Parcel) : Type 0 where
  pub follows : (p : ℕ) → Follows network p (s.histories p)
  pub buffers : BuffersStand network s
  pub queues : QueuesStand network s
  pub desk : DeskStands network s
  pub capacity : (b : ℕ) → (s.buffers b).capacity ≡ (opening.buffers b).capacity
  pub told : (b : ℕ) → IsTold (opening.buffers b) → IsTold (s.buffers b)
  pub others : (p : ℕ) → IsOne network p ⊎ (s.histories p ≡ [])
