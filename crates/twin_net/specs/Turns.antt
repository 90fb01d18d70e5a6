-- Whether a process is at its turn.
use Rattle.std.specs.Prelude.{◌≡◌, ℕ, List, Some}
use Rattle.solo_base.specs.declared.outcome.Side.{Side}
use Rattle.resource_mon.specs.Claims.{MayRequest}
use Rattle.network_law.specs.Acts.{Visit, At}
use Rattle.network_law.specs.Desk.{MayAsk}
use Rattle.network_law.specs.Network.{MayCall}
use Rattle.twin_law.specs.Process.{Action, Request, Entry, Process, next_action}
use Rattle.twin_law.specs.Twin.{call, TwinState, IsBuffer}

-- The action is a call at one of the six buffers, and who asks for the disk hasn't got it.
pub record TwinHasPlace {L : Type 0} (s : TwinState L) (p : ℕ) (action : Action) : Type 0 where
  pub buffer : (b : ℕ) (side : Side) (visit : Visit) → call p action ≡ At b side visit → IsBuffer b
  pub asks : action ≡ Request → MayAsk s.desk.claims p → MayRequest s.desk.claims p

-- Behind this history the process has a next action, and is at its turn.
pub record TwinIsAtTurn {L : Type 0} (process : Process L) (h : List (Entry L)) (s : TwinState L) (p : ℕ)
    : Type 0 where
  pub action : Action
  pub next : next_action process h ≡ Some action
  pub may : MayCall s p (call p action)
