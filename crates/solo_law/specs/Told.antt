-- What the needs of the commands tell console and paper, and what a process gave them.
use Rattle.std.specs.Prelude.{ℕ, List, [], ◌∷◌, ◌++◌, Option, None, Some}
use Rattle.place_law.specs.Process.{Does, LacksMemory, Delays}
use Rattle.solo_law.specs.Work.{Plan, Given, Need, DisplayNeeded, PageNeeded, EndNeeded}
use Rattle.solo_law.specs.Actions.{Action, Reply}
use Rattle.solo_law.specs.Devices.{plan_behind}
use Rattle.solo_law.specs.Actions as act
use Rattle.solo_law.specs.Solo.{SoloEntry}

-- ---- needs
abbrev pub need_by : Action → Reply → List Need
need_by (act.Works work) (act.Found need) = need ∷ []
need_by action reply = []

-- what all pieces of work came to, the first of all first
abbrev pub needs : List SoloEntry → List Need
needs [] = []
needs (Does action reply ∷ before) = needs before ++ need_by action reply
needs (LacksMemory action reply ∷ before) = needs before
needs (Delays action ∷ before) = needs before

-- and what they began with
abbrev pub begun_by : Action → Reply → List Given
begun_by (act.Works work) (act.Found need) = work.given ∷ []
begun_by action reply = []

abbrev pub begun : List SoloEntry → List Given
begun [] = []
begun (Does action reply ∷ before) = begun before ++ begun_by action reply
begun (LacksMemory action reply ∷ before) = begun before
begun (Delays action ∷ before) = begun before

-- what told files make of pieces of work that begin so, one after the other
abbrev pub needs_of : Plan → List Given → List Need
needs_of plan [] = []
needs_of plan (given ∷ rest) = plan [] given ∷ needs_of (plan_behind given plan) rest

-- the lines that a need shows on the console, and those that it prints
abbrev pub on_console : Need → List (List ℕ)
on_console (DisplayNeeded line) = line ∷ []
on_console (EndNeeded printed answers) = answers
on_console need = []

abbrev pub on_paper : Need → List (List ℕ)
on_paper (PageNeeded printed) = printed
on_paper (EndNeeded printed answers) = printed
on_paper need = []

abbrev pub lines_of_all : (Need → List (List ℕ)) → List Need → List (List ℕ)
lines_of_all by [] = []
lines_of_all by (need ∷ rest) = by need ++ lines_of_all by rest

-- ---- what was given
abbrev pub displays : Action → Option (List ℕ)
displays (act.Display line) = Some line
displays action = None

abbrev pub prints_line : Action → Option (List ℕ)
prints_line (act.Print line) = Some line
prints_line action = None

abbrev pub written_by : Option (List ℕ) → Reply → List (List ℕ)
written_by (Some line) act.Done = line ∷ []
written_by line reply = []

-- the lines that it wrote whole
abbrev pub written : (Action → Option (List ℕ)) → List SoloEntry → List (List ℕ)
written writes [] = []
written writes (Does action reply ∷ before) = written writes before ++ written_by (writes action) reply
written writes (LacksMemory action reply ∷ before) = written writes before
written writes (Delays action ∷ before) = written writes before
