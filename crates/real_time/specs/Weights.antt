-- How many events may still happen: each event leaves less to do, but for what a typed line adds.
use Rattle.std.specs.Prelude.{ℕ, zero, suc, ◌+◌, Bool, true, false, Option, None, Some, List, [], ◌∷◌, length, slice_index_or}
use Rattle.solo_devices.specs.CardUnit.{item_of}
use Rattle.queue_var.specs.declared.turn.Turn.{Turn}
use Rattle.queue_var.specs.declared.turn.Turn.TheVariants.{Free, Handed}
use Rattle.real_time.specs.declared.table.Seat.{Seat}
use Rattle.real_time.specs.Table.{Table, has_left, sleeper_at}
use Rattle.real_time.specs.Deeds.{Deed, Enters, Shows, Wakes, Returns}
use Rattle.real_time.specs.States.{Stage, Works, Closes, Joins, Tells, Ended, TimeState, TimeEvent, Accepts, Displays, Moves}

-- ---- what is weighed
abbrev pub deed_weight : Deed → ℕ
deed_weight (Enters line) = 1
deed_weight (Shows text) = 1
deed_weight (Wakes place second due) = 10
deed_weight Returns = 4

abbrev pub deeds_weight : List Deed → ℕ
deeds_weight [] = 0
deeds_weight (deed ∷ deeds) = deed_weight deed + deeds_weight deeds

abbrev pub stage_weight : Stage → ℕ
stage_weight (Works deeds) = 50 + deeds_weight deeds
stage_weight Closes = 40
stage_weight Joins = 30
stage_weight (Tells place names) = 10 + length names
stage_weight Ended = 0

abbrev pub operator_weight : Option ℕ → ℕ
operator_weight None = 5
operator_weight (Some p) = 0

abbrev pub turn_weight : Turn Seat → ℕ
turn_weight Free = 0
turn_weight (Handed seat) = 2

-- of a task, by whether it has ended, whether it has left, and what its queue holds
abbrev pub task_weight : Bool → Bool → Option ℕ → ℕ
task_weight true left held = 0
task_weight false true held = 1
task_weight false false (Some p) = 3
task_weight false false None = 4

abbrev pub task_work_at : List Bool → Table → ℕ → ℕ
task_work_at ended t place =
    task_weight (slice_index_or ended place true) (has_left t place) (sleeper_at t.queues place)

-- of so many tasks
abbrev pub tasks_weight : ℕ → List Bool → Table → ℕ
tasks_weight zero ended t = 0
tasks_weight (suc place) ended t = tasks_weight place ended t + task_work_at ended t place

abbrev pub work_left : TimeState → ℕ
work_left s = stage_weight s.stage + operator_weight s.table.operator + turn_weight s.table.turn
    + tasks_weight 8 s.ended s.table

-- whether a line is read
abbrev pub lines_read : TimeEvent → ℕ
lines_read (Accepts answer) = length (item_of answer)
lines_read (Displays fault now) = 0
lines_read (Moves p how) = 0
