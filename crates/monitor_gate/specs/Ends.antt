-- What contracts see of a gate and of a pass.
use Rattle.std.specs.Prelude.{◌≡◌, ℕ, zero, suc, true, List, [], ◌∷◌, ◌++◌, Some}
pub use Rattle.atomic_table.specs.Seated.{TableId}
use Rattle.monitor_gate.specs.declared.view.Line.{Line}
use Rattle.monitor_gate.specs.declared.view.Stage.TheVariants.{Outside, Inside}
use Rattle.monitor_gate.specs.declared.view.View.{View}
use Rattle.monitor_gate.specs.Views.{fresh, at_stage, completed, both, own_line, covers}

-- which gate it is, the state that it was made with, and how many passes it has
pub record GateView (S : Type 0) : Type 0 where
  pub name : TableId
  pub opening : S
  pub passes : ℕ

-- the gate of a pass, and what the pass knows of it
pub record PassView (S E : Type 0) : Type 0 where
  pub gate : TableId
  pub view : View S E

-- the pass is one of this gate
pub record IsPassOf {S E : Type 0} (gate : GateView S) (pass : PassView S E) : Type 0 where
  pub name : pass.gate ≡ gate.name
  pub opening : pass.view.opening ≡ Some gate.opening

module _ {S E : Type 0} where
  -- the pass is in none of its entries
  abbrev pub IsOutside : PassView S E → Type 0
  IsOutside pass = pass.view.stage ≡ Outside

  -- the passes of processes 1 to n, which have made no entry yet
  abbrev pub new_passes : TableId → S → ℕ → List (PassView S E)
  new_passes gate opening zero = []
  new_passes gate opening (suc n) = new_passes gate opening n ++ record { gate = gate; view = fresh (Some opening) (suc n) } ∷ []

  -- the pass, once its process is inside and has taken the state x
  abbrev pub entered : PassView S E → S → PassView S E
  entered pass x = record { gate = pass.gate; view = at_stage (Inside x) pass.view }

  -- the pass, once its process has left with this entry
  abbrev pub left : PassView S E → E → PassView S E
  left pass entry = record { gate = pass.gate; view = completed (entry ∷ []) pass.view }

  -- the first pass, once it has joined the second
  abbrev pub joined : PassView S E → PassView S E → PassView S E
  joined pass other = record { gate = pass.gate; view = both pass.view other.view }

  -- the lists that a pass has: its own, and those of the passes that it joined
  abbrev pub lists_of : PassView S E → List (Line E)
  lists_of pass = own_line pass.view ∷ pass.view.joined

  -- the pass has joined all others of the gate
  abbrev pub HasJoinedAll : GateView S → PassView S E → Type 0
  HasJoinedAll gate pass = covers gate.passes (lists_of pass) ≡ true
