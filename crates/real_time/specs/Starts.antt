-- What the console shows of a timetable, by the lines that are typed.
use Rattle.std.specs.Prelude.{ℕ, zero, suc, ◌+◌, ◌-◌, ◌%◌, nat_lt, nat_le, ◌==◌, ◌&&◌, ◌||◌, not, Bool, false, List, [], ◌∷◌, ◌++◌, length, map, filter, codes, if◌then◌else◌}
use Rattle.std.specs.List.{list_any}
use Rattle.std.specs.Fmt.{decimal}
use Rattle.std.specs.Str.{bytes_eq}
use Rattle.solo_base.specs.Blanks.{trimmed}
use Rattle.solo_base.specs.declared.item.Item.{Item}
use Rattle.real_time.specs.declared.plan.Plan.{Plan}
use Rattle.real_time.specs.declared.plan.Plan.TheVariants.{Never, First}
use Rattle.real_time.specs.Typed.{Typed, Blank, Names, Plans, Stops, Passes, Bad, typed}

-- ---- the plan of a task
-- The task starts in this second.
abbrev pub is_due : Plan → ℕ → Bool
is_due Never second = false
is_due (First start period) second =
    (second == start) || (nat_lt start second && not (period == 0) && ((second - start) % period == 0))

-- an accepted START or STOP: the task's name, and its plan from then on
pub record Change : Type 0 where
  pub name : List ℕ
  pub plan : Plan

-- of all that was accepted, the latest first
abbrev pub plan_of : List ℕ → List Change → Plan
plan_of name [] = Never
plan_of name (change ∷ earlier) = if bytes_eq change.name name then change.plan else plan_of name earlier

-- ---- a place of the script
-- the names of the tasks in order, the second, what was accepted, and who started, the latest first
pub record Script : Type 0 where
  pub tasks : List (List ℕ)
  pub now : ℕ
  pub accepted : List Change
  pub started : List (List ℕ)

abbrev pub opening : Script
opening = record { tasks = []; now = 0; accepted = []; started = [] }

abbrev pub is_task : Script → List ℕ → Bool
is_task s name = list_any (bytes_eq name) s.tasks

-- ---- a second passes
-- who starts in a second, in order of number
abbrev pub starters : Script → ℕ → List (List ℕ)
starters s second = filter (λ name. is_due (plan_of name s.accepted) second) s.tasks

abbrev pub next_second : Script → Script
next_second s = record s { now = s.now + 1; started = starters s (s.now + 1) ++ s.started }

-- `2 A`
abbrev pub start_line : ℕ → List ℕ → List ℕ
start_line second name = decimal second ++ codes " " ++ trimmed name

abbrev pub second_lines : Script → List (List ℕ)
second_lines s = map (start_line (s.now + 1)) (starters s (s.now + 1))

abbrev pub behind_seconds : ℕ → Script → Script
behind_seconds zero s = s
behind_seconds (suc seconds) s = behind_seconds seconds (next_second s)

abbrev pub lines_of_seconds : ℕ → Script → List (List ℕ)
lines_of_seconds zero s = []
lines_of_seconds (suc seconds) s = second_lines s ++ lines_of_seconds seconds (next_second s)

-- ---- a line is typed
abbrev pub within_clock : Script → ℕ → Bool
within_clock s seconds = nat_le (s.now + seconds) 1000000

-- no task has the name, and there are not eight tasks yet
abbrev pub may_name : Script → List ℕ → Bool
may_name s name = not (is_task s name) && nat_lt (length s.tasks) 8

-- a task has the name, and the time has not passed
abbrev pub may_plan : Script → List ℕ → ℕ → Bool
may_plan s name time = is_task s name && nat_lt s.now time

abbrev pub behind_line : Script → Typed → Script
behind_line s Blank = s
behind_line s (Names name) = if may_name s name then record s { tasks = s.tasks ++ name ∷ [] } else s
behind_line s (Plans name time period) =
    if may_plan s name time
    then record s { accepted = record { name = name; plan = First time period } ∷ s.accepted } else s
behind_line s (Stops name) =
    if is_task s name then record s { accepted = record { name = name; plan = Never } ∷ s.accepted } else s
behind_line s (Passes seconds) = if within_clock s seconds then behind_seconds seconds s else s
behind_line s Bad = s

abbrev pub answer : Script → Typed → List (List ℕ)
answer s Blank = []
answer s (Names name) =
    (if is_task s name then codes "TASK: TASK EXISTS"
    else (if nat_lt (length s.tasks) 8 then codes "TASK: OK" else codes "TASK: TABLE FULL")) ∷ []
answer s (Plans name time period) =
    (if is_task s name then (if nat_lt s.now time then codes "START: OK" else codes "START: TIME IS PAST")
    else codes "START: NO TASK") ∷ []
answer s (Stops name) = (if is_task s name then codes "STOP: OK" else codes "STOP: NO TASK") ∷ []
answer s (Passes seconds) =
    if within_clock s seconds
    then lines_of_seconds seconds s ++ (codes "TIME " ++ decimal (s.now + seconds)) ∷ []
    else codes "TICK: CLOCK LIMIT" ∷ []
answer s Bad = codes "BAD COMMAND" ∷ []

-- ---- the whole script
abbrev pub times_started : List ℕ → Script → ℕ
times_started name s = length (filter (λ started. bytes_eq started name) s.started)

-- `A: 2 RUNS`
abbrev pub runs_line : Script → List ℕ → List ℕ
runs_line s name = trimmed name ++ codes ": " ++ decimal (times_started name s) ++ codes " RUNS"

abbrev pub times_from : Script → List Item → List (List ℕ)
times_from s [] = map (runs_line s) s.tasks
times_from s (item ∷ items) = answer s (typed item) ++ times_from (behind_line s (typed item)) items

-- the lines that the console shows of a script
abbrev pub times : List Item → List (List ℕ)
times items = times_from opening items
