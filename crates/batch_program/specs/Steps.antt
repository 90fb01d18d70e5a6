-- What a program tells at a pause of its machine.
use Rattle.std.specs.Prelude.{ℕ, List, [], ◌∷◌, length, Option, Some, None}
use Rattle.stack_machine.specs.declared.state.Finish.{Finish}
use Rattle.batch_program.specs.Outcome.{Work}
use Rattle.batch_program.specs.Told.{Tells, line_in}
use Rattle.batch_program.specs.declared.told.Told.{Told}
use Rattle.batch_program.specs.declared.told.Told.TheVariants as told

-- at the end, with this line in hand
abbrev pub last_told : List ℕ → Finish → Told
last_told [] finish = told.Ended finish.result finish.line
last_told (code ∷ rest) finish = told.Line (code ∷ rest)

-- behind a call that completed a line, or none
abbrev pub told_of : Option (List ℕ) → Option Told
told_of None = None
told_of (Some line) = Some (told.Line line)

-- ---- A step, which may tell nothing
abbrev pub TellsIf : Work → List (List ℕ) → Option Told → Type 0
TellsIf w given None = Unit {0}
TellsIf w given (Some t) = Tells w given t

abbrev pub lines_in_told : Option Told → List (List ℕ)
lines_in_told None = []
lines_in_told (Some t) = line_in t

-- by how much a step lowers the most lines that are left: by one, unless it tells only why it stops
abbrev pub lowers : Option Told → ℕ
lowers None = 1
lowers (Some t) = length (line_in t)
