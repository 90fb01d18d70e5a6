-- Three descriptions, and a run of the processes of each.
use Rattle.std.specs.Prelude.{◌≡◌, ℕ, List, [], ◌∷◌, map, codes}
use Rattle.solo_base.specs.Ident.{padded}
use Rattle.solo_base.specs.declared.item.Item.{Item}
use Rattle.solo_base.specs.declared.item.Item.TheVariants as item
use Rattle.access_check.specs.Runs.{MonitorsInside, MonitorMove, HasCycle, MayEnterMonitor, Run, WaitsFor, at_first, led_to}

-- names, as cards give them
abbrev pub process_p : List ℕ
process_p = padded (codes "P")

abbrev pub process_q : List ℕ
process_q = padded (codes "Q")

abbrev pub monitor_a : List ℕ
monitor_a = padded (codes "A")

abbrev pub monitor_b : List ℕ
monitor_b = padded (codes "B")

-- a monitor with a right to itself
abbrev pub to_itself : List Item
to_itself = map item.Line
    (codes "MONITOR A" ∷ codes "PROCESS P" ∷ codes "RIGHT P A" ∷ codes "RIGHT A A" ∷ codes "ORDER A" ∷ [])

-- two monitors, each with a right to the other
abbrev pub to_each_other : List Item
to_each_other = map item.Line
    (codes "MONITOR A" ∷ codes "MONITOR B" ∷ codes "PROCESS P" ∷ codes "PROCESS Q" ∷ codes "RIGHT P A"
    ∷ codes "RIGHT Q B" ∷ codes "RIGHT A B" ∷ codes "RIGHT B A" ∷ codes "ORDER A B" ∷ [])

-- two processes that go from one monitor to the other, which is later in the order
abbrev pub along_the_order : List Item
along_the_order = map item.Line
    (codes "MONITOR A" ∷ codes "MONITOR B" ∷ codes "PROCESS P" ∷ codes "PROCESS Q" ∷ codes "RIGHT P A"
    ∷ codes "RIGHT Q A" ∷ codes "RIGHT A B" ∷ codes "ORDER A B" ∷ [])

-- The moves may be made in turn, and behind them there is a cycle of just these processes.
pub record LeadsToCycle (items : List Item) (moves : List MonitorMove) (first : List ℕ)
    (others : List (List ℕ)) : Type 0 where
  pub run : Run items moves
  pub cycle : HasCycle items (led_to at_first moves)
  pub first_is : cycle.first ≡ first
  pub others_are : cycle.others ≡ others

-- The moves may be made in turn, and behind them a process is inside these monitors.
pub record LeadsInside (items : List Item) (moves : List MonitorMove) (process : List ℕ)
    (inside : List (List ℕ)) : Type 0 where
  pub run : Run items moves
  pub inside_is : led_to at_first moves process ≡ inside

-- A process may not enter a monitor, and waits for another.
pub record IsHeldUp (items : List Item) (state : MonitorsInside) (process monitor other : List ℕ)
    : Type 0 where
  pub may_not : MayEnterMonitor items state process monitor → ⊥
  pub waits : WaitsFor items state process other
