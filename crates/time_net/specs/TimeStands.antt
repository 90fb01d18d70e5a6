-- The operator and the tasks over their table and the typewriter, and the states that they stand for.
use Rattle.std.specs.Prelude.{◌≡◌, ◌≤◌, ◌<◌, ◌+◌, ◌*◌, ℕ, Bool, true, false, List, [], Option, None, Some, length, map, refl}
use Rattle.solo_base.specs.declared.outcome.Cause.{Cause}
use Rattle.solo_base.specs.declared.outcome.Cause.TheVariants as cause
use Rattle.solo_base.specs.declared.outcome.Outcome.{Outcome}
use Rattle.solo_base.specs.declared.outcome.Outcome.TheVariants as outcome
use Rattle.solo_devices.specs.Count.{Rose}
use Rattle.solo_devices.specs.CardUnit.{IsAllTaken, byte_limit, bytes_total, item_of, items_ahead, work_ahead}
use Rattle.solo_devices.specs.Typewriter.{Typing}
use Rattle.network_run.specs.Law.{AllEnded, Placed}
use Rattle.network_run.specs.Runs.{most_events}
use Rattle.real_time.specs.States.{Stage, Works, Closes, Joins, Tells, Ended, TimeState, TimeEvent, Accepts, Displays, Moves, opened}
use Rattle.real_time.specs.TimesLaw.{timing}
use Rattle.real_time.specs.Weights.{work_left}
use Rattle.time_net.specs.declared.net.TimeNet.{TimeNet}
use Rattle.time_net.specs.Standing.{OperatorIsAt}
use Rattle.time_net.specs.TaskSteps.{TasksStand}

-- what the keys and the console tell: what is left of a source, how many bytes were taken of it and how often
-- it failed; what a sink was given, and how often it failed
pub record Tellers (Y T : Type 0) : Type 0 where
  pub left : Y → Option (List ℕ)
  pub taken : Y → ℕ
  pub read_faults : Y → ℕ
  pub given : T → Option (List ℕ)
  pub shown_faults : T → ℕ

abbrev pub tellers : {Y T : Type 0} → (Y → Option (List ℕ)) → (Y → ℕ) → (Y → ℕ) → (T → Option (List ℕ))
    → (T → ℕ) → Tellers Y T
tellers left taken read_faults given shown_faults = record {
  left = left;
  taken = taken;
  read_faults = read_faults;
  given = given;
  shown_faults = shown_faults;
}

-- ---- how many events may still happen
-- how many lines may still be typed, at most
abbrev pub keys_ahead : {Y T : Type 0} → Tellers Y T → Typing Y T → ℕ
keys_ahead tells t = work_ahead (tells.taken t.keys.source) t.keys.pending t.keys.ended

-- each of them is work for the operator, as long as it reads
abbrev pub reading_work : Stage → ℕ → ℕ
reading_work (Works deeds) ahead = 90000000 * ahead
reading_work Closes ahead = 0
reading_work Joins ahead = 0
reading_work (Tells place names) ahead = 0
reading_work Ended ahead = 0

abbrev pub events_ahead : {Y T : Type 0} → Tellers Y T → TimeNet Y T → TimeState → ℕ
events_ahead tells net s = work_left s + reading_work s.stage (keys_ahead tells net.typewriter)

-- ---- what it stands for
-- who waits in the operator's queue
abbrev pub operator_held : Bool → Option ℕ
operator_held true = Some 1
operator_held false = None

-- Behind the keys all of them was taken, where they tell it.
abbrev pub IsReadOut : Stage → Option Cause → Option (List ℕ) → Type 0
IsReadOut (Works deeds) fault left = Unit {0}
IsReadOut Closes fault left = fault ≡ None → IsAllTaken left
IsReadOut Joins fault left = fault ≡ None → IsAllTaken left
IsReadOut (Tells place names) fault left = fault ≡ None → IsAllTaken left
IsReadOut Ended fault left = fault ≡ None → IsAllTaken left

-- The keys and the console tell what is still to come and what was displayed, and may be used as long as
-- nothing has failed.
pub record NineStand {Y T : Type 0} (tells : Tellers Y T) (net : TimeNet Y T) (s : TimeState) : Type 0 where
  pub keys : s.keys ≡ items_ahead (tells.left net.typewriter.keys.source) net.typewriter.keys.pending
  pub console : s.console ≡ tells.given net.typewriter.console.sink
  pub keys_live : s.fault ≡ None → net.typewriter.keys.live ≡ true
  pub console_live : s.fault ≡ None → net.typewriter.console.live ≡ true
  pub table : net.table ≡ s.table
  pub held : s.table.operator ≡ operator_held net.waits
  pub operator : OperatorIsAt net.operator s
  pub tasks : TasksStand net.tasks s
  pub read_out : IsReadOut s.stage s.fault (tells.left net.typewriter.keys.source)

-- No run from there has more events than can be counted.
pub record TimesStand {Y T : Type 0} (tells : Tellers Y T) (net : TimeNet Y T) (s : TimeState) : Type 0 where
  pub is : NineStand tells net s
  pub within : events_ahead tells net s ≤ most_events

-- ---- where a fault comes from
-- A fault was counted by its own device since. The limit is told exactly where too many bytes were taken. No
-- count falls, and no byte of the keys is lost.
pub record IsCounted {Y T : Type 0} (tells : Tellers Y T) (keys : Y) (console : T) (fault : Option Cause)
    (now : Typing Y T) : Type 0 where
  pub read : fault ≡ Some cause.ReadFault → Rose (tells.read_faults keys) (tells.read_faults now.keys.source)
  pub limit : fault ≡ Some cause.DeckLimit → byte_limit < tells.taken now.keys.source
  pub beyond : byte_limit < tells.taken now.keys.source → fault ≡ Some cause.DeckLimit
  pub shown : fault ≡ Some cause.ConsoleFault
      → Rose (tells.shown_faults console) (tells.shown_faults now.console.sink)
  pub read_on : tells.read_faults keys ≤ tells.read_faults now.keys.source
  pub shown_on : tells.shown_faults console ≤ tells.shown_faults now.console.sink
  pub total : bytes_total (tells.taken now.keys.source) (tells.left now.keys.source)
      ≡ bytes_total (tells.taken keys) (tells.left keys)

-- Nothing else is a fault of the operator.
abbrev pub IsTimesCause : Cause → Type 0
IsTimesCause cause.ReadFault = Unit {0}
IsTimesCause cause.DeckLimit = Unit {0}
IsTimesCause cause.ConsoleFault = Unit {0}
IsTimesCause cause.NoMemory = Unit {0}
IsTimesCause cause.Usage = ⊥
IsTimesCause cause.DiskFault = ⊥
IsTimesCause cause.PrintFault = ⊥
IsTimesCause (cause.NotSolo page) = ⊥
IsTimesCause (cause.Damaged expected found at) = ⊥

abbrev pub IsFaultOfTimes : Option Cause → Type 0
IsFaultOfTimes None = Unit {0}
IsFaultOfTimes (Some cause) = IsTimesCause cause

-- what every run keeps
pub record KeepsCounts {Y T : Type 0} (tells : Tellers Y T) (old new : TimeNet Y T) : Type 0 where
  pub counted : (keys : Y) (console : T) → IsCounted tells keys console old.operator.fault old.typewriter
      → IsCounted tells keys console new.operator.fault new.typewriter
  pub known : IsFaultOfTimes old.operator.fault → IsFaultOfTimes new.operator.fault

-- what an event leaves of the lines ahead
abbrev pub LeavesLines : TimeEvent → ℕ → ℕ → Type 0
LeavesLines (Accepts answer) before now = 0 < length (item_of answer) → now < before
LeavesLines (Displays fault console) before now = now ≡ before
LeavesLines (Moves p how) before now = now ≡ before

pub record TimesMoves {Y T : Type 0} (tells : Tellers Y T) (old : TimeNet Y T) (event : TimeEvent)
    (new : TimeNet Y T) : Type 0 where
  pub lines : LeavesLines event (keys_ahead tells old.typewriter) (keys_ahead tells new.typewriter)
  pub keeps : KeepsCounts tells old new

-- ---- where it stands
-- It stands for the state with which the nine open over these.
pub record OpensOver {Y T : Type 0} (tells : Tellers Y T) (net : TimeNet Y T) (keys : Y) (console : T)
    : Type 0 where
  pub stands : TimesStand tells net (opened record {
    keys = items_ahead (tells.left keys) [];
    console = tells.given console;
  })
  pub devices : (net.typewriter.keys.source ≡ keys) × (net.typewriter.console.sink ≡ console)
  pub well : net.operator.fault ≡ None

-- the place where it stands at its opening
abbrev pub times_place : {Y T : Type 0} {tells : Tellers Y T} {net : TimeNet Y T} {keys : Y} {console : T}
    → OpensOver tells net keys console → Placed timing (TimesStand tells net)
times_place {tells = tells} {keys = keys} {console = console} at = record {
  opening = record { keys = items_ahead (tells.left keys) []; console = tells.given console };
  state = opened record { keys = items_ahead (tells.left keys) []; console = tells.given console };
  reached = record { events = []; enabled = tt; leads = refl };
  stands = at.stands;
}

-- It stands at a place where all nine have ended.
pub record NineHaveEnded {Y T : Type 0} (tells : Tellers Y T) (net : TimeNet Y T) : Type 0 where
  pub at : Placed timing (TimesStand tells net)
  pub ended : AllEnded timing at.state

-- ---- how it ended
abbrev pub outcome_with : Option Cause → Outcome
outcome_with None = outcome.Done
outcome_with (Some cause) = outcome.Fault cause

abbrev pub all_runs : TimeState → List ℕ
all_runs s = map length s.seen
