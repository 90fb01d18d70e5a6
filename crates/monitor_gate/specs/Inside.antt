-- Words on a process inside a gate. The pointer stands for the state that it keeps, so `Inside` takes the type of the state twice.
use Rattle.std.specs.Prelude.{◌≡◌, ℕ, []}
use base.Fml.{GName}
use Rattle.monitor_gate.specs.declared.inside.Inside.{Inside}
use Rattle.monitor_gate.specs.declared.view.Stage.TheVariants.{Inside as At}
use Rattle.monitor_gate.specs.Ends.{GateView, PassView, IsPassOf}

module _ {M S E : Type 0} where
  -- the state as it is now
  abbrev pub state_of : Inside M S S E → S
  state_of i = i.state

  abbrev pub gate_of : Inside M S S E → GateView S
  gate_of i = i.gate.now

  abbrev pub pass_of : Inside M S S E → PassView S E
  pass_of i = i.pass.now

  -- the process that is inside
  abbrev pub number_of : Inside M S S E → ℕ
  number_of i = i.pass.now.view.number

  -- the ghost name of the reference to the pass
  abbrev pub lender_of : Inside M S S E → GName
  lender_of i = i.pass.ghost_name

  -- the state that the latest `enter` or `delay` gave
  abbrev pub HasTaken : Inside M S S E → S → Type 0
  HasTaken i x = i.pass.now.view.stage ≡ At x

  -- the pass is one of this gate, and has joined no other
  abbrev pub IsEntered : Inside M S S E → Type 0
  IsEntered i = IsPassOf (gate_of i) (pass_of i) × (i.pass.now.view.joined ≡ [])

  -- the same after a write to the state
  abbrev pub with_state : Inside M S S E → S → Inside M S S E
  with_state i x = record { pass = i.pass; gate = i.gate; state = x }
