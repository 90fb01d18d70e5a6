-- Processes that use the room many times.
use Rattle.std.specs.Prelude.{◌≡◌, ℕ, zero, suc, ◌≤◌, List, [], ◌∷◌, ◌++◌}
use Rattle.monitor_gate.specs.Views.{completed}
use Rattle.monitor_gate.specs.Ends.{GateView, PassView, IsPassOf, IsOutside}
use Rattle.readers_writers.specs.declared.room.Use.{Use}
use Rattle.readers_writers.specs.declared.room.Use.TheVariants.{Begin, End}
use Rattle.readers_writers.specs.declared.room.Room.{Room}

-- it began and ended so many times
abbrev pub uses : ℕ → List Use
uses zero = []
uses (suc times) = uses times ++ Begin ∷ End ∷ []

-- the pass is of this gate, outside, and of a process of the room
abbrev pub MayRun : GateView Room → PassView Room Use → Type 0
MayRun gate pass = IsPassOf gate pass × IsOutside pass × (pass.view.joined ≡ []) × (1 ≤ pass.view.number)
    × (pass.view.number ≤ 4)

-- the pass, once its process has used the room so many times
abbrev pub used : PassView Room Use → ℕ → PassView Room Use
used pass times = record { gate = pass.gate; view = completed (uses times) pass.view }
