-- The time table: the monitor that the operator and the eight tasks share.
use Rattle.std.specs.Prelude.{◌≡◌, ◌⊎◌, ℕ, suc, ◌+◌, ◌==◌, Bool, true, false, List, [], ◌∷◌, Option, None, Some, if◌then◌else◌, slice_index_or, slice_set}
use Rattle.std.specs.List.{list_all}
use Rattle.queue_var.specs.declared.turn.Turn.{Turn}
use Rattle.queue_var.specs.declared.turn.Turn.TheVariants.{Free, Handed}
use Rattle.real_time.specs.declared.table.Seat.{Seat}
use Rattle.real_time.specs.declared.table.Seat.TheVariants.{Operator, Task}
use Rattle.real_time.specs.declared.table.Woken.{Woken}
use Rattle.real_time.specs.declared.table.Woken.TheVariants as woken
use Rattle.real_time.specs.declared.table.Waited.{Waited}
use Rattle.real_time.specs.declared.table.Waited.TheVariants as waited

-- What each queue holds; the task for which the operator waits; which tasks have left; whether the table is
-- closed; whose turn it is; and the second of the latest start.
pub record Table : Type 0 where
  pub queues : List (Option ℕ)
  pub operator : Option ℕ
  pub awaited : Option ℕ
  pub left : List Bool
  pub closed : Bool
  pub turn : Turn Seat
  pub second : ℕ

abbrev pub empty_table : Table
empty_table = record {
  queues = None ∷ None ∷ None ∷ None ∷ None ∷ None ∷ None ∷ None ∷ [];
  operator = None;
  awaited = None;
  left = false ∷ false ∷ false ∷ false ∷ false ∷ false ∷ false ∷ false ∷ [];
  closed = false;
  turn = Free;
  second = 0;
}

abbrev pub sleeper_at : List (Option ℕ) → ℕ → Option ℕ
sleeper_at queues place = slice_index_or queues place None

-- the process in the queue of a seat
abbrev pub seat_queue : Table → Seat → Option ℕ
seat_queue table Operator = table.operator
seat_queue table (Task place) = sleeper_at table.queues place

abbrev pub has_left : Table → ℕ → Bool
has_left table place = slice_index_or table.left place false

-- A process that waits goes on where the turn is handed to it, and another one where the turn is free.
abbrev pub MayComeIn : Table → Seat → Type 0
MayComeIn table seat = ((seat_queue table seat ≡ None) × (table.turn ≡ Free)) ⊎ (table.turn ≡ Handed seat)

-- ---- who goes next
-- the least place at which a task sleeps, of queues of which the first has this place
abbrev pub first_asleep : ℕ → List (Option ℕ) → Option ℕ
first_asleep place [] = None
first_asleep place (None ∷ queues) = first_asleep (suc place) queues
first_asleep place (Some p ∷ queues) = Some place

abbrev pub next_turn : Option ℕ → Option ℕ → Turn Seat
next_turn (Some place) operator = Handed (Task place)
next_turn None (Some p) = Handed Operator
next_turn None None = Free

-- the task that sleeps at the least place goes on, or else the operator where it waits
abbrev pub handed_on : Table → Table
handed_on table = record table { turn = next_turn (first_asleep 0 table.queues) table.operator }

-- ---- the operator wakes a task
abbrev pub woken_by : Bool → Option ℕ → Woken
woken_by false sleeper = woken.NotDue
woken_by true (Some p) = woken.Continued
woken_by true None = woken.Delayed

-- in this second
abbrev pub after_wake : Table → ℕ → ℕ → Woken → Table
after_wake table place second woken.NotDue = table
after_wake table place second woken.Continued = record table { turn = Handed (Task place); second = second }
after_wake table place second woken.Delayed =
    record table { operator = Some 1; awaited = Some place; second = second }

-- ---- a task waits for its next start
abbrev pub is_awaited : Option ℕ → ℕ → Bool
is_awaited None place = false
is_awaited (Some awaited) place = awaited == place

abbrev pub waited_by : Table → ℕ → Waited
waited_by table place =
    if table.closed then waited.Leaves
    else (if is_awaited table.awaited place then waited.Starts table.second else waited.Delayed)

abbrev pub behind_leave : Table → ℕ → Table
behind_leave table place = handed_on (record table { left = slice_set table.left place true })

abbrev pub behind_wait : Table → ℕ → Waited → Table
behind_wait table place waited.Leaves = behind_leave table place
behind_wait table place (waited.Starts second) = record table { awaited = None; turn = Handed Operator }
behind_wait table place waited.Delayed =
    record table { queues = slice_set table.queues place (Some (place + 2)) }

-- it goes on
abbrev pub out_of_queue : Table → ℕ → Table
out_of_queue table place = record table { queues = slice_set table.queues place None; turn = Free }

abbrev pub resumed_by : Table → Waited
resumed_by table = if table.closed then waited.Leaves else waited.Starts table.second

abbrev pub after_resume : Table → ℕ → Table
after_resume table place =
    if table.closed then behind_leave (out_of_queue table place) place else out_of_queue table place

-- ---- the operator closes the table, and joins
abbrev pub after_close : Table → Table
after_close table = handed_on (record table { closed = true })

abbrev pub all_left : Table → Bool
all_left table = list_all (λ left. left) table.left

abbrev pub behind_join : Table → Table
behind_join table = if all_left table then table else record table { operator = Some 1 }

abbrev pub operator_resumed : Table → Table
operator_resumed table = record table { operator = None; turn = Free }
