-- What a step of a task is, by where it is and by the table.
use Rattle.std.specs.Prelude.{◌≡◌, ◌<◌, ◌+◌, ℕ, Bool, true, false, List, length, min, None, Option, IsSome, slice_index_or}
use Rattle.queue_var.specs.declared.turn.Turn.TheVariants.{Free, Handed}
use Rattle.network_run.specs.declared.stepped.Stepped.{Stepped}
use Rattle.network_run.specs.declared.stepped.Stepped.TheVariants as stepped
use Rattle.real_time.specs.declared.table.Seat.TheVariants.{Task}
use Rattle.real_time.specs.declared.table.Waited.{Waited}
use Rattle.real_time.specs.declared.table.Waited.TheVariants as waited
use Rattle.real_time.specs.Table.{Table, after_resume, behind_wait, has_left, resumed_by, sleeper_at, waited_by}
use Rattle.real_time.specs.States.{TimeState, ended_at, seen_at, how_waited}
use Rattle.time_net.specs.declared.task_proc.Phase.{Phase}
use Rattle.time_net.specs.declared.task_proc.Phase.TheVariants.{Runs, Waits, Left, Ended}
use Rattle.time_net.specs.declared.task_proc.TaskProc.{TaskProc}

-- a task that goes on with an answer of the table
abbrev pub told : TaskProc → Waited → TaskProc
told task (waited.Starts second) = record { runs = min (task.runs + 1) 4294967295; phase = Runs }
told task waited.Leaves = record { runs = task.runs; phase = Left }
told task waited.Delayed = record { runs = task.runs; phase = Waits }

-- ---- a step
-- the task's call may be made
pub record MayCallIn (table : Table) (place : ℕ) : Type 0 where
  pub one : place < 8
  pub queues : length table.queues ≡ 8
  pub seats : length table.left ≡ 8

abbrev pub MayCallBy : Phase → Table → ℕ → Type 0
MayCallBy Runs table place =
    MayCallIn table place × (table.turn ≡ Free) × (sleeper_at table.queues place ≡ None)
MayCallBy Waits table place =
    MayCallIn table place × (table.turn ≡ Handed (Task place)) × IsSome (sleeper_at table.queues place)
MayCallBy Left table place = Unit {0}
MayCallBy Ended table place = Unit {0}

abbrev pub stepped_how : Phase → Table → ℕ → Stepped
stepped_how Runs table place = how_waited (waited_by table place)
stepped_how Waits table place = stepped.Resumed
stepped_how Left table place = stepped.Ended
stepped_how Ended table place = stepped.Ended

abbrev pub stepped_table : Phase → Table → ℕ → Table
stepped_table Runs table place = behind_wait table place (waited_by table place)
stepped_table Waits table place = after_resume table place
stepped_table Left table place = table
stepped_table Ended table place = table

abbrev pub stepped_by : Phase → TaskProc → Table → ℕ → TaskProc
stepped_by Runs task table place = told task (waited_by table place)
stepped_by Waits task table place = told task (resumed_by table)
stepped_by Left task table place = record { runs = task.runs; phase = Ended }
stepped_by Ended task table place = record { runs = task.runs; phase = Ended }

abbrev pub stepped_task : TaskProc → Table → ℕ → TaskProc
stepped_task task table place = stepped_by task.phase task table place

-- ---- what a task stands for
-- by whether it has ended, whether it has left, and what its queue holds
abbrev pub PhaseFits : Phase → Bool → Bool → Option ℕ → Type 0
PhaseFits Runs ended left held = (ended ≡ false) × (left ≡ false) × (held ≡ None)
PhaseFits Waits ended left held = (ended ≡ false) × (left ≡ false) × IsSome held
PhaseFits Left ended left held = (ended ≡ false) × (left ≡ true)
PhaseFits Ended ended left held = ended ≡ true

pub record TaskStands (task : TaskProc) (place : ℕ) (s : TimeState) : Type 0 where
  pub runs_are : task.runs ≡ length (seen_at s place)
  pub phase_is : PhaseFits task.phase (ended_at s place) (has_left s.table place)
      (sleeper_at s.table.queues place)

-- each of the eight tasks
pub record TasksStand (tasks : List TaskProc) (s : TimeState) : Type 0 where
  pub eight : length tasks ≡ 8
  pub each : (place : ℕ) (d : TaskProc) → place < 8 → TaskStands (slice_index_or tasks place d) place s
