-- What TASK, START and STOP answer, and which rows stand for a script.
use Rattle.std.specs.Prelude.{◌≡◌, ℕ, ◌+◌, Bool, true, List, [], ◌∷◌, map, take, drop, codes, slice_index_or}
use Rattle.std.specs.List.{list_any}
use Rattle.std.specs.Str.{bytes_eq}
use Rattle.real_time.specs.declared.plan.Named.{Named}
use Rattle.real_time.specs.declared.plan.Named.TheVariants as named
use Rattle.real_time.specs.declared.plan.Planned.{Planned}
use Rattle.real_time.specs.declared.plan.Planned.TheVariants.{NoTask, TimeIsPast, Done}
use Rattle.real_time.specs.Typed.{Typed}
use Rattle.real_time.specs.Starts.{Script, Change, answer, behind_line, is_due, plan_of}
use Rattle.real_time.specs.Awaiting.{Row, AllAwait}

abbrev pub start_text : Planned → List ℕ
start_text NoTask = codes "START: NO TASK"
start_text TimeIsPast = codes "START: TIME IS PAST"
start_text Done = codes "START: OK"

abbrev pub stop_text : Planned → List ℕ
stop_text NoTask = codes "STOP: NO TASK"
stop_text TimeIsPast = codes "STOP: TIME IS PAST"
stop_text Done = codes "STOP: OK"

abbrev pub name_text : Named → List ℕ
name_text named.TaskExists = codes "TASK: TASK EXISTS"
name_text named.TableFull = codes "TASK: TABLE FULL"
name_text named.Done = codes "TASK: OK"

-- Each of these changes has the name of a task.
abbrev pub AllNamed : List (List ℕ) → List Change → Type 0
AllNamed tasks [] = Unit {0}
AllNamed tasks (change ∷ earlier) = (list_any (bytes_eq change.name) tasks ≡ true) × AllNamed tasks earlier

-- The rows are those of the script's tasks, in order, and stand for what was accepted, which is of tasks
-- alone.
pub record StandsForScript (s : Script) (rows : List Row) : Type 0 where
  pub names : map (λ row. row.name) rows ≡ s.tasks
  pub await : AllAwait s.accepted s.now rows
  pub known : AllNamed s.tasks s.accepted

-- In the second that passes the rows in front of a place are done: they stand for their plans once it has
-- passed, and the others before it.
pub record StandsWithin (s : Script) (place : ℕ) (rows : List Row) : Type 0 where
  pub names : map (λ row. row.name) rows ≡ s.tasks
  pub front : AllAwait s.accepted (s.now + 1) (take place rows)
  pub back : AllAwait s.accepted s.now (drop place rows)
  pub known : AllNamed s.tasks s.accepted

-- The task at a place starts in the second that passes.
abbrev pub starts_at : Script → ℕ → Bool
starts_at s place = is_due (plan_of (slice_index_or s.tasks place []) s.accepted) (s.now + 1)

-- The line of the console is the script's, and the rows stand for the script behind it.
pub record AnswersLine (s : Script) (line : Typed) (text : List ℕ) (rows : List Row) : Type 0 where
  pub shows : answer s line ≡ text ∷ []
  pub stands : StandsForScript (behind_line s line) rows
