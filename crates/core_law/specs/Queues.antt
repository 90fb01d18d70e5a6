-- Who stands in which queue, and what was found ready: the centre of what every event keeps.
use Rattle.std.specs.Prelude.{◌≡◌, ◌⊎◌, ℕ, true, Option, None, Some}
use Rattle.solo_base.specs.declared.outcome.Side.{Side}
use Rattle.solo_base.specs.declared.outcome.Side.TheVariants.{Sender, Receiver}
use Rattle.queue_var.specs.declared.turn.Turn.TheVariants.{Handed}
use Rattle.queue_var.specs.Sides.{queue}
use Rattle.batch_procs.specs.Jobs.{Jobs}
use Rattle.batch_procs.specs.declared.actions.Action.{Action}
use Rattle.batch_procs.specs.declared.actions.Action.TheVariants as act
use Rattle.batch_procs.specs.History.{waits}
use Rattle.batch_procs.specs.Process.{next_action}
use Rattle.batch_procs.specs.Table.{process}
use Rattle.network_law.specs.Acts.{found_ready}
use Rattle.network_law.specs.Network.{acts}
use Rattle.network_law.specs.Kept.{IsReady, IsAmong}
use Rattle.core_law.specs.Core.{core, CoreState, upstream, seat}

-- the queues: at each side of a buffer, and at the desk
pub data Queue : Type 0 where
  Beside : ℕ → Side → Queue
  AtDesk : Queue

-- A process stands there. One to which the turn of the desk is handed stands there until it goes on.
abbrev pub IsQueuedIn : {L : Type 0} → CoreState L → Queue → ℕ → Type 0
IsQueuedIn s (Beside b side) p = queue (s.buffers b).sides side ≡ Some p
IsQueuedIn s AtDesk p = IsAmong s.desk.claims.waiting p ⊎ (s.desk.claims.handed ≡ Some p)

-- the queue in which a call of a process waits, where it may wait
abbrev pub queue_of : ℕ → Action → Option Queue
queue_of p (act.PutFeed f) = Some (Beside p Sender)
queue_of p act.AwaitRoom = Some (Beside p Sender)
queue_of p act.TakeFeed = Some (Beside (upstream p) Receiver)
queue_of p act.AwaitItem = Some (Beside (upstream p) Receiver)
queue_of p act.Request = Some AtDesk
queue_of p action = None

-- Its newest entry is a delay, and it makes a call of this queue next.
pub record WaitsIn {L : Type 0} (J : Jobs L) (s : CoreState L) (q : Queue) (p : ℕ) : Type 0 where
  pub is_delayed : waits (s.histories p) ≡ true
  pub action : Action
  pub next : next_action (process J p) (s.histories p) ≡ Some action
  pub here : queue_of p action ≡ Some q

pub record QueuesHold {L : Type 0} (J : Jobs L) (s : CoreState L) : Type 0 where
  -- A process stands in a queue exactly where its newest entry is a delay, and in one; its next call is one
  -- of this queue.
  pub stands : (q : Queue) (p : ℕ) → IsQueuedIn s q p → WaitsIn J s q p
  pub delayed : (p : ℕ) → waits (s.histories p) ≡ true → (q : Queue) × IsQueuedIn s q p
  pub in_one : (q r : Queue) (p : ℕ) → IsQueuedIn s q p → IsQueuedIn s r p → q ≡ r
  -- A turn that is handed names one that stands there.
  pub handed : (b : ℕ) (side : Side) → (s.buffers b).sides.turn ≡ Handed side
      → (p : ℕ) × IsQueuedIn s (Beside b side) p
  -- What was awaited and found ready is still there.
  pub ready : (b : ℕ) (side : Side)
      → found_ready b side (acts (core J (process J)) (seat b side) (s.histories (seat b side))) ≡ true
      → IsReady (s.buffers b) side
