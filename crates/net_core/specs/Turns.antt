-- Whether a process is at its turn.
use Rattle.std.specs.Prelude.{◌≡◌, ℕ, List, Some}
use Rattle.resource_mon.specs.Claims.{MayRequest}
use Rattle.solo_base.specs.declared.outcome.Side.{Side}
use Rattle.batch_procs.specs.declared.actions.Action.{Action}
use Rattle.batch_procs.specs.declared.actions.Action.TheVariants as act
use Rattle.batch_procs.specs.History.{Entry}
use Rattle.batch_procs.specs.Process.{Process, next_action}
use Rattle.network_law.specs.Acts.{Visit, At}
use Rattle.network_law.specs.Desk.{MayAsk}
use Rattle.network_law.specs.Network.{MayCall}
use Rattle.core_law.specs.Core.{call, CoreState, IsBuffer}

-- The action is a call at one of the four buffers, and who asks for the disk hasn't got it.
pub record HasPlace {L : Type 0} (s : CoreState L) (p : ℕ) (action : Action) : Type 0 where
  pub buffer : (b : ℕ) (side : Side) (visit : Visit) → call p action ≡ At b side visit → IsBuffer b
  pub asks : action ≡ act.Request → MayAsk s.desk.claims p → MayRequest s.desk.claims p

-- Behind this history the process has a next action, and is at its turn.
pub record IsAtTurn {L : Type 0} (process : Process L) (h : List (Entry L)) (s : CoreState L) (p : ℕ)
    : Type 0 where
  pub action : Action
  pub next : next_action process h ≡ Some action
  pub may : MayCall s p (call p action)
