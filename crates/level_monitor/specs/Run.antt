-- Processes that change one level many times.
use Rattle.std.specs.Prelude.{◌≡◌, ℕ, ◌≤◌, [], replicate}
use Rattle.monitor_gate.specs.Views.{completed}
use Rattle.monitor_gate.specs.Ends.{GateView, PassView, IsPassOf, IsOutside}
use Rattle.level_monitor.specs.declared.level.Change.{Change}
use Rattle.level_monitor.specs.declared.level.Level.{Level}
use Rattle.level_monitor.specs.Level.{change_of}

-- the pass is of this gate, outside, and of a process of the level
abbrev pub CanRun : GateView Level → PassView Level Change → Type 0
CanRun gate pass = IsPassOf gate pass × IsOutside pass × (pass.view.joined ≡ []) × (1 ≤ pass.view.number) × (pass.view.number ≤ 4)

-- the pass, once its process has changed the level so many times
abbrev pub after : PassView Level Change → ℕ → PassView Level Change
after pass times = record { gate = pass.gate; view = completed (replicate times (change_of pass.view.number)) pass.view }
