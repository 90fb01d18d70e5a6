-- The runs of a description: its processes enter monitors and leave them, as their rights allow.
use Rattle.std.specs.Prelude.{◌≡◌, ◌≢◌, ◌⊎◌, ℕ, List, [], ◌∷◌, if◌then◌else◌}
use Rattle.solo_base.specs.declared.item.Item.{Item}
use Rattle.access_check.specs.Places.{same}
use Rattle.access_check.specs.Description.{description, rights}

-- one of a list
abbrev pub IsListed : {T : Type 0} → T → List T → Type 0
IsListed x [] = ⊥
IsListed x (y ∷ more) = (x ≡ y) ⊎ IsListed x more

abbrev pub IsDeclaredProcess : List Item → List ℕ → Type 0
IsDeclaredProcess items name = IsListed name (description items).processes

abbrev pub HasRight : List Item → List ℕ → List ℕ → Type 0
HasRight items holder monitor = IsListed (record { holder = holder; monitor = monitor }) (rights items)

-- the monitors that each process is inside, the one that it entered last in front
abbrev pub MonitorsInside : Type 0
MonitorsInside = List ℕ → List (List ℕ)

-- at first each is inside none
abbrev pub at_first : MonitorsInside
at_first process = []

-- a process enters a monitor, or leaves the one that it entered last
pub data MonitorMove : Type 0 where
  Enters : List ℕ → List ℕ → MonitorMove
  Leaves : List ℕ → MonitorMove

-- the same state, but for one process
abbrev pub with_inside : MonitorsInside → List ℕ → List (List ℕ) → MonitorsInside
with_inside state process inside other = if same process other then inside else state other

abbrev pub without_last_entered : List (List ℕ) → List (List ℕ)
without_last_entered [] = []
without_last_entered (last ∷ others) = others

abbrev pub moved : MonitorsInside → MonitorMove → MonitorsInside
moved state (Enters process monitor) = with_inside state process (monitor ∷ state process)
moved state (Leaves process) = with_inside state process (without_last_entered (state process))

-- who calls: the monitor that the process entered last, or the process itself where it is inside none
abbrev pub caller_in : List ℕ → List (List ℕ) → List ℕ
caller_in process [] = process
caller_in process (last ∷ others) = last

abbrev pub caller : MonitorsInside → List ℕ → List ℕ
caller state process = caller_in process (state process)

-- a process enters a monitor to which its caller has a right, and which no process is inside
pub record MayEnterMonitor (items : List Item) (state : MonitorsInside) (process monitor : List ℕ)
    : Type 0 where
  pub is_process : IsDeclaredProcess items process
  pub right : HasRight items (caller state process) monitor
  pub free : (other : List ℕ) → IsDeclaredProcess items other → IsListed monitor (state other) → ⊥

-- a process leaves where it is inside a monitor
pub record MayLeaveMonitor (items : List Item) (state : MonitorsInside) (process : List ℕ) : Type 0 where
  pub is_process : IsDeclaredProcess items process
  pub inside : state process ≢ []

abbrev pub May : List Item → MonitorsInside → MonitorMove → Type 0
May items state (Enters process monitor) = MayEnterMonitor items state process monitor
May items state (Leaves process) = MayLeaveMonitor items state process

-- the moves may be made in turn from a state on
abbrev pub RunFrom : List Item → MonitorsInside → List MonitorMove → Type 0
RunFrom items state [] = Unit {0}
RunFrom items state (move ∷ moves) = May items state move × RunFrom items (moved state move) moves

abbrev pub Run : List Item → List MonitorMove → Type 0
Run items moves = RunFrom items at_first moves

-- where the moves lead
abbrev pub led_to : MonitorsInside → List MonitorMove → MonitorsInside
led_to state [] = state
led_to state (move ∷ moves) = led_to (moved state move) moves

-- a process waits for another: its caller has a right to a monitor that the other is inside
pub record WaitsFor (items : List Item) (state : MonitorsInside) (process other : List ℕ) : Type 0 where
  pub monitor : List ℕ
  pub right : HasRight items (caller state process) monitor
  pub inside : IsListed monitor (state other)

-- each waits for the next one, and the last of them for one more
abbrev pub WaitInTurn : List Item → MonitorsInside → List ℕ → List (List ℕ) → List ℕ → Type 0
WaitInTurn items state process [] end = WaitsFor items state process end
WaitInTurn items state process (next ∷ more) end =
    WaitsFor items state process next × WaitInTurn items state next more end

abbrev pub AreProcesses : List Item → List (List ℕ) → Type 0
AreProcesses items [] = Unit {0}
AreProcesses items (name ∷ more) = IsDeclaredProcess items name × AreProcesses items more

-- one or more processes, each of which waits for the next, and the last for the first
pub record HasCycle (items : List Item) (state : MonitorsInside) : Type 0 where
  pub first : List ℕ
  pub others : List (List ℕ)
  pub processes : AreProcesses items (first ∷ others)
  pub waits : WaitInTurn items state first others first

-- no list of moves leads to a cycle
abbrev pub HasNoCycle : List Item → Type 0
HasNoCycle items = (moves : List MonitorMove) → Run items moves → HasCycle items (led_to at_first moves) → ⊥
