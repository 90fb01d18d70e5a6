-- What is still owed of a script: lines to the console, and starts to each task.
use Rattle.std.specs.Prelude.{◌≡◌, ℕ, ◌==◌, ◌&&◌, Bool, true, false, List, [], ◌∷◌, ◌++◌, map, Option, None, if◌then◌else◌}
use Rattle.solo_base.specs.declared.item.Item.{Item}
use Rattle.solo_base.specs.Text.{text}
use Rattle.queue_var.specs.declared.turn.Turn.{Turn}
use Rattle.queue_var.specs.declared.turn.Turn.TheVariants.{Free, Handed}
use Rattle.real_time.specs.declared.table.Seat.{Seat}
use Rattle.real_time.specs.declared.table.Seat.TheVariants.{Operator, Task}
use Rattle.real_time.specs.Starts.{Script, runs_line, times_from}
use Rattle.real_time.specs.Deeds.{Deed, Enters, Shows, Wakes, Returns, starts_from}
use Rattle.real_time.specs.States.{Stage, Works, Closes, Joins, Tells, Ended, TimeState, seen_at}
use Rattle.solo_base.specs.declared.outcome.Cause.{Cause}

-- the lines that deeds display
abbrev pub lines_shown : List Deed → List (List ℕ)
lines_shown [] = []
lines_shown (Enters line ∷ deeds) = lines_shown deeds
lines_shown (Shows text ∷ deeds) = text ∷ lines_shown deeds
lines_shown (Wakes place second due ∷ deeds) = lines_shown deeds
lines_shown (Returns ∷ deeds) = lines_shown deeds

-- the seconds in which they start the task at a place
abbrev pub starts_by : ℕ → List Deed → List ℕ
starts_by place [] = []
starts_by place (Enters line ∷ deeds) = starts_by place deeds
starts_by place (Shows text ∷ deeds) = starts_by place deeds
starts_by place (Wakes q second due ∷ deeds) =
    (if (q == place) && due then second ∷ [] else []) ++ starts_by place deeds
starts_by place (Returns ∷ deeds) = starts_by place deeds

-- where these lines are still to be typed
abbrev pub lines_owed : Stage → Script → List Item → List (List ℕ)
lines_owed (Works deeds) script rest = lines_shown deeds ++ times_from script rest
lines_owed Closes script rest = map (runs_line script) script.tasks
lines_owed Joins script rest = map (runs_line script) script.tasks
lines_owed (Tells place names) script rest = map (runs_line script) names
lines_owed Ended script rest = []

abbrev pub starts_owed : ℕ → Stage → Script → List Item → List ℕ
starts_owed place (Works deeds) script rest = starts_by place deeds ++ starts_from place script rest
starts_owed place Closes script rest = []
starts_owed place Joins script rest = []
starts_owed place (Tells first names) script rest = []
starts_owed place Ended script rest = []

-- a start that the task at a place has and hasn't seen yet: the turn is handed to it, and the table is open
abbrev pub pending : Turn Seat → Bool → ℕ → ℕ → List ℕ
pending (Handed (Task q)) false second place = if q == place then second ∷ [] else []
pending (Handed (Task q)) true second place = []
pending (Handed Operator) closed second place = []
pending Free closed second place = []

abbrev pub pending_of : TimeState → ℕ → List ℕ
pending_of s place = pending s.table.turn s.table.closed s.table.second place

-- the lines are these, and more
pub record LinesAdd (s : TimeState) (rest : List Item) (all : List (List ℕ)) : Type 0 where
  pub more : List (List ℕ)
  pub all_are : s.shown ++ more ≡ all
  pub are : s.fault ≡ None → more ≡ lines_owed s.stage s.script rest

-- the task has seen these starts, and then come more
pub record StartsAdd (s : TimeState) (rest : List Item) (place : ℕ) (all : List ℕ) : Type 0 where
  pub more : List ℕ
  pub all_are : seen_at s place ++ (pending_of s place ++ more) ≡ all
  pub are : s.fault ≡ None → more ≡ starts_owed place s.stage s.script rest

-- behind the keys nothing is left of them, and there was no fault while a line was being worked on
abbrev pub IsBehind : Stage → Option Cause → List Item → Type 0
IsBehind (Works deeds) fault rest = fault ≡ None
IsBehind Closes fault rest = fault ≡ None → rest ≡ []
IsBehind Joins fault rest = fault ≡ None → rest ≡ []
IsBehind (Tells place names) fault rest = fault ≡ None → rest ≡ []
IsBehind Ended fault rest = fault ≡ None → rest ≡ []
