-- The operator, the eight tasks and their time table: the states, and what happens in an event.
use Rattle.std.specs.Prelude.{◌≡◌, ◌<◌, ℕ, zero, suc, Bool, true, false, List, [], ◌∷◌, ◌++◌, length, drop, codes, Option, None, Some, slice_index_or, slice_set}
use Rattle.std.specs.Option.{option_map}
use Rattle.std.specs.Fmt.{decimal}
use Rattle.solo_base.specs.Blanks.{trimmed}
use Rattle.solo_base.specs.Text.{line_text}
use Rattle.solo_base.specs.declared.item.Item.{Item}
use Rattle.solo_base.specs.declared.item.Item.TheVariants as item
use Rattle.solo_base.specs.declared.outcome.Cause.{Cause}
use Rattle.solo_base.specs.declared.outcome.Cause.TheVariants as cause
use Rattle.solo_devices.specs.declared.card_read.CardRead.{CardRead}
use Rattle.solo_devices.specs.declared.card_read.CardRead.TheVariants as read
use Rattle.solo_devices.specs.declared.printer_unit.PrintFault.{PrintFault}
use Rattle.solo_devices.specs.declared.printer_unit.PrintFault.TheVariants as print
use Rattle.solo_devices.specs.CardUnit.{GivesNext, item_of}
use Rattle.solo_devices.specs.PrinterUnit.{Gains}
use Rattle.network_run.specs.declared.stepped.Stepped.{Stepped}
use Rattle.network_run.specs.declared.stepped.Stepped.TheVariants as stepped
use Rattle.real_time.specs.declared.table.Seat.TheVariants.{Operator, Task}
use Rattle.real_time.specs.declared.table.Woken.{Woken}
use Rattle.real_time.specs.declared.table.Woken.TheVariants as woken
use Rattle.real_time.specs.declared.table.Waited.{Waited}
use Rattle.real_time.specs.declared.table.Waited.TheVariants as waited
use Rattle.real_time.specs.Table.{Table, MayComeIn, after_close, after_resume, behind_wait, after_wake, all_left, empty_table, has_left, sleeper_at, operator_resumed, resumed_by, waited_by, woken_by}
use Rattle.real_time.specs.Typed.{typed}
use Rattle.real_time.specs.Starts.{Script, behind_line, opening}
use Rattle.real_time.specs.Deeds.{Deed, Enters, Shows, Wakes, Returns, deeds_of}

-- Where the operator is: what it has still to do of the line that it reads, and then it reads the next.
-- Behind the keys it closes, joins, and tells the runs of the tasks from a place on.
pub data Stage : Type 0 where
  Works : List Deed → Stage
  Closes : Stage
  Joins : Stage
  Tells : ℕ → List (List ℕ) → Stage
  Ended : Stage

-- What is still to come of the keys, and what the console has, where they tell it; the lines that were typed,
-- the script behind all of them, and the lines that were displayed; the operator, and its fault; the table;
-- the starts that each task saw, and which tasks have ended.
pub record TimeState : Type 0 where
  pub keys : Option (List Item)
  pub console : Option (List ℕ)
  pub given : List Item
  pub script : Script
  pub shown : List (List ℕ)
  pub stage : Stage
  pub fault : Option Cause
  pub table : Table
  pub seen : List (List ℕ)
  pub ended : List Bool

-- what the devices tell at first
pub record Opening : Type 0 where
  pub keys : Option (List Item)
  pub console : Option (List ℕ)

abbrev pub opened : Opening → TimeState
opened o = record {
  keys = o.keys;
  console = o.console;
  given = [];
  script = opening;
  shown = [];
  stage = Works [];
  fault = None;
  table = empty_table;
  seen = [] ∷ [] ∷ [] ∷ [] ∷ [] ∷ [] ∷ [] ∷ [] ∷ [];
  ended = false ∷ false ∷ false ∷ false ∷ false ∷ false ∷ false ∷ false ∷ [];
}

abbrev pub seen_at : TimeState → ℕ → List ℕ
seen_at s place = slice_index_or s.seen place []

abbrev pub ended_at : TimeState → ℕ → Bool
ended_at s place = slice_index_or s.ended place true

-- ---- what the operator does next
pub data Action : Type 0 where
  Reads : Action
  Prints : List ℕ → Action
  Calls : Action
  Ends : Action
  Nothing : Action

-- `A: 2 RUNS`, by the task's own count
abbrev pub told_line : List (List ℕ) → ℕ → List ℕ → List ℕ
told_line seen place name =
    trimmed name ++ codes ": " ++ decimal (length (slice_index_or seen place [])) ++ codes " RUNS"

abbrev pub action_at : Stage → List (List ℕ) → Action
action_at (Works []) seen = Reads
action_at (Works (Enters line ∷ deeds)) seen = Calls
action_at (Works (Shows text ∷ deeds)) seen = Prints text
action_at (Works (Wakes place second due ∷ deeds)) seen = Calls
action_at (Works (Returns ∷ deeds)) seen = Calls
action_at Closes seen = Calls
action_at Joins seen = Calls
action_at (Tells place []) seen = Ends
action_at (Tells place (name ∷ names)) seen = Prints (told_line seen place name)
action_at Ended seen = Nothing

-- ---- events
-- A line is read; a line is displayed, and what the console has then; or a process makes a call of the table,
-- or ends.
pub data TimeEvent : Type 0 where
  Accepts : CardRead → TimeEvent
  Displays : Option PrintFault → Option (List ℕ) → TimeEvent
  Moves : ℕ → Stepped → TimeEvent

abbrev pub process_of : TimeEvent → ℕ
process_of (Accepts answer) = 1
process_of (Displays fault now) = 1
process_of (Moves p how) = p

abbrev pub how_went : TimeEvent → Stepped
how_went (Accepts answer) = stepped.Acted
how_went (Displays fault now) = stepped.Acted
how_went (Moves p how) = how

-- ---- a line is read
abbrev pub keys_behind : Option (List Item) → CardRead → Option (List Item)
keys_behind keys answer = option_map (drop (length (item_of answer))) keys

abbrev pub after_item : TimeState → Item → TimeState
after_item s line = record s {
  given = s.given ++ line ∷ [];
  script = behind_line s.script (typed line);
  stage = Works (deeds_of s.script (typed line));
}

abbrev pub after_answer : TimeState → CardRead → TimeState
after_answer s (read.Card line) = after_item s (item.Line line)
after_answer s read.Spoiled = after_item s item.Spoiled
after_answer s read.End = record s { stage = Closes }
after_answer s read.Failed = record s { stage = Closes; fault = Some cause.ReadFault }
after_answer s read.Limit = record s { stage = Closes; fault = Some cause.DeckLimit }

abbrev pub after_accept : TimeState → CardRead → TimeState
after_accept s answer = record (after_answer s answer) { keys = keys_behind s.keys answer }

-- ---- a line is displayed
abbrev pub behind_display : Stage → Stage
behind_display (Works []) = Works []
behind_display (Works (deed ∷ deeds)) = Works deeds
behind_display Closes = Closes
behind_display Joins = Joins
behind_display (Tells place []) = Tells place []
behind_display (Tells place (name ∷ names)) = Tells (suc place) names
behind_display Ended = Ended

-- Behind the keys the table is closed already.
abbrev pub behind_fault : Stage → Stage
behind_fault (Works deeds) = Closes
behind_fault Closes = Closes
behind_fault Joins = Joins
behind_fault (Tells place names) = Tells place []
behind_fault Ended = Ended

abbrev pub display_cause : PrintFault → Cause
display_cause print.Failed = cause.ConsoleFault
display_cause print.NoMemory = cause.NoMemory

abbrev pub lines_printed : Action → List (List ℕ)
lines_printed (Prints text) = text ∷ []
lines_printed Reads = []
lines_printed Calls = []
lines_printed Ends = []
lines_printed Nothing = []

abbrev pub displayed : TimeState → Option PrintFault → TimeState
displayed s None = record s {
  shown = s.shown ++ lines_printed (action_at s.stage s.seen);
  stage = behind_display s.stage;
}
displayed s (Some fault) = record s { stage = behind_fault s.stage; fault = Some (display_cause fault) }

abbrev pub after_display : TimeState → Option PrintFault → Option (List ℕ) → TimeState
after_display s fault now = record (displayed s fault) { console = now }

-- ---- a call of the table, or an end: how it goes, and the state behind it
pub record Moved : Type 0 where
  pub how : Stepped
  pub to : TimeState

-- the operator is after_answer so by a wake
abbrev pub after_woken : Woken → TimeState → ℕ → ℕ → List Deed → Moved
after_woken woken.NotDue s place second deeds =
    record { how = stepped.Acted; to = record s { stage = Works deeds } }
after_woken woken.Continued s place second deeds = record {
  how = stepped.Acted;
  to = record s { table = after_wake s.table place second woken.Continued; stage = Works deeds };
}
after_woken woken.Delayed s place second deeds = record {
  how = stepped.Delayed;
  to = record s {
    table = after_wake s.table place second woken.Delayed;
    stage = Works (Wakes place second true ∷ deeds);
  };
}

-- behind the keys the runs of all tasks are told, and behind a fault of none
abbrev pub names_by : Option Cause → List (List ℕ) → List (List ℕ)
names_by None names = names
names_by (Some cause) names = []

abbrev pub names_told : TimeState → List (List ℕ)
names_told s = names_by s.fault s.script.tasks

-- it tests whether all have left; how it goes on where they have
abbrev pub joined_by : Bool → Stepped → TimeState → Table → Moved
joined_by true how s table =
    record { how = how; to = record s { table = table; stage = Tells 0 (names_told s) } }
joined_by false how s table =
    record {
      how = stepped.Delayed;
      to = record s { table = record table { operator = Some 1 }; stage = Joins };
    }

abbrev pub join_move : Option ℕ → TimeState → Moved
join_move None s = joined_by (all_left s.table) stepped.Acted s s.table
join_move (Some p) s = joined_by (all_left s.table) stepped.Resumed s (operator_resumed s.table)

abbrev pub stays : TimeState → Moved
stays s = record { how = stepped.Acted; to = s }

abbrev pub operator_move : Stage → TimeState → Moved
operator_move (Works []) s = stays s
operator_move (Works (Enters line ∷ deeds)) s =
    record { how = stepped.Acted; to = record s { stage = Works deeds } }
operator_move (Works (Shows text ∷ deeds)) s = stays s
operator_move (Works (Wakes place second due ∷ deeds)) s =
    after_woken (woken_by due (sleeper_at s.table.queues place)) s place second deeds
operator_move (Works (Returns ∷ deeds)) s = record {
  how = stepped.Resumed;
  to = record s { table = operator_resumed s.table; stage = Works deeds };
}
operator_move Closes s =
    record { how = stepped.Acted; to = record s { table = after_close s.table; stage = Joins } }
operator_move Joins s = join_move s.table.operator s
operator_move (Tells place []) s = record { how = stepped.Ended; to = record s { stage = Ended } }
operator_move (Tells place (name ∷ names)) s = stays s
operator_move Ended s = stays s

-- a task is told a start
abbrev pub with_start : List (List ℕ) → ℕ → Waited → List (List ℕ)
with_start seen place (waited.Starts second) =
    slice_set seen place (slice_index_or seen place [] ++ second ∷ [])
with_start seen place waited.Leaves = seen
with_start seen place waited.Delayed = seen

-- which ends the wake in which the operator waits for it
abbrev pub stage_told : Waited → Stage → Stage
stage_told (waited.Starts second) (Works (deed ∷ deeds)) = Works (Returns ∷ deeds)
stage_told (waited.Starts second) (Works []) = Works []
stage_told (waited.Starts second) Closes = Closes
stage_told (waited.Starts second) Joins = Joins
stage_told (waited.Starts second) (Tells place names) = Tells place names
stage_told (waited.Starts second) Ended = Ended
stage_told waited.Leaves stage = stage
stage_told waited.Delayed stage = stage

abbrev pub how_waited : Waited → Stepped
how_waited (waited.Starts second) = stepped.Acted
how_waited waited.Leaves = stepped.Acted
how_waited waited.Delayed = stepped.Delayed

abbrev pub waits : Waited → TimeState → ℕ → Moved
waits answer s place = record {
  how = how_waited answer;
  to = record s {
    table = behind_wait s.table place answer;
    seen = with_start s.seen place answer;
    stage = stage_told answer s.stage;
  };
}

abbrev pub goes_on : TimeState → ℕ → Moved
goes_on s place = record {
  how = stepped.Resumed;
  to = record s { table = after_resume s.table place; seen = with_start s.seen place (resumed_by s.table) };
}

-- by whether it has left, and by what its queue holds
abbrev pub task_move : Bool → Option ℕ → TimeState → ℕ → Moved
task_move true held s place =
    record { how = stepped.Ended; to = record s { ended = slice_set s.ended place true } }
task_move false (Some p) s place = goes_on s place
task_move false None s place = waits (waited_by s.table place) s place

-- process 1 is the operator, and 2 to 9 are the tasks
abbrev pub move_of : TimeState → ℕ → Moved
move_of s zero = stays s
move_of s (suc zero) = operator_move s.stage s
move_of s (suc (suc place)) = task_move (has_left s.table place) (sleeper_at s.table.queues place) s place

abbrev pub occurs : TimeState → TimeEvent → TimeState
occurs s (Accepts answer) = after_accept s answer
occurs s (Displays fault now) = after_display s fault now
occurs s (Moves p how) = (move_of s p).to

-- ---- who may go on
abbrev pub OperatorMay : Action → Table → Type 0
OperatorMay Reads table = Unit {0}
OperatorMay (Prints text) table = Unit {0}
OperatorMay Calls table = MayComeIn table Operator
OperatorMay Ends table = Unit {0}
OperatorMay Nothing table = ⊥

-- one that has left ends
abbrev pub TaskMay : Bool → Table → ℕ → Type 0
TaskMay true table place = Unit {0}
TaskMay false table place = MayComeIn table (Task place)

abbrev pub MayMove : TimeState → ℕ → Type 0
MayMove s zero = ⊥
MayMove s (suc zero) = OperatorMay (action_at s.stage s.seen) s.table
MayMove s (suc (suc place)) =
    (place < 8) × (ended_at s place ≡ false) × TaskMay (has_left s.table place) s.table place

abbrev pub HasEnded : TimeState → ℕ → Type 0
HasEnded s zero = ⊥
HasEnded s (suc zero) = s.stage ≡ Ended
HasEnded s (suc (suc place)) = ended_at s place ≡ true

-- neither reads nor displays
abbrev pub IsMove : Action → Type 0
IsMove Reads = ⊥
IsMove (Prints text) = ⊥
IsMove Calls = Unit {0}
IsMove Ends = Unit {0}
IsMove Nothing = ⊥

abbrev pub MovesOf : TimeState → ℕ → Type 0
MovesOf s zero = ⊥
MovesOf s (suc zero) = IsMove (action_at s.stage s.seen)
MovesOf s (suc (suc place)) = Unit {0}

abbrev pub MayHappen : TimeState → TimeEvent → Type 0
MayHappen s (Accepts answer) =
    (action_at s.stage s.seen ≡ Reads) × GivesNext s.keys (keys_behind s.keys answer) answer
MayHappen s (Displays fault now) =
    (text : List ℕ) × (action_at s.stage s.seen ≡ Prints text)
    × Gains s.console now (line_text text) (fault ≡ None)
MayHappen s (Moves p how) = MayMove s p × MovesOf s p × (how ≡ (move_of s p).how)
