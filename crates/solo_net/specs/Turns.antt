-- Whether a process is at its turn.
use Rattle.std.specs.Prelude.{◌≡◌, ℕ, List, Some}
use Rattle.network_law.specs.Network.{MayCall}
use Rattle.place_law.specs.Process.{Process, next_action}
use Rattle.solo_law.specs.Actions.{Action, Reply}
use Rattle.solo_law.specs.Buffers.{call}
use Rattle.solo_law.specs.Replies.{view}
use Rattle.solo_law.specs.Solo.{SoloState, SoloEntry}

-- Behind this history the process has a next action, and is at its turn.
pub record SoloIsAtTurn (process : Process Action Reply) (h : List SoloEntry) (s : SoloState) (p : ℕ)
    : Type 0 where
  pub action : Action
  pub next : next_action view process h ≡ Some action
  pub may : MayCall s p (call p action)
