-- Which statuses a command may end with beside 0.
use Rattle.std.specs.Prelude.{◌≡◌, ◌==◌, ℕ, List, [], ◌∷◌, Bool, true, false, Option, Some, None, if◌then◌else◌}
use Rattle.solo_base.specs.declared.outcome.Cause.{Cause}
use Rattle.run_report.specs.Status.{number_of}
use Rattle.solo_cli.specs.declared.refusal.Refusal.{Refusal}
use Rattle.solo_cli.specs.declared.words.Command.{Command}
use Rattle.solo_cli.specs.declared.words.Command.TheVariants as command
use Rattle.solo_cli.specs.Status.{status_of}

-- what may end a run of the five processes: all but words, the console and a page of the files
abbrev pub run_statuses : List ℕ
run_statuses = 2 ∷ 3 ∷ 4 ∷ 6 ∷ 8 ∷ 9 ∷ []

-- and a run of a deck that is made: nothing is read
abbrev pub make_statuses : List ℕ
make_statuses = 3 ∷ 4 ∷ 8 ∷ 9 ∷ []

-- a session: no page is damaged
abbrev pub session_statuses : List ℕ
session_statuses = 2 ∷ 3 ∷ 4 ∷ 5 ∷ 6 ∷ 9 ∷ []

-- what may end the reading of a deck into memory, and the printing of a line
abbrev pub read_statuses : List ℕ
read_statuses = 2 ∷ 6 ∷ 9 ∷ []

abbrev pub print_statuses : List ℕ
print_statuses = 4 ∷ 9 ∷ []

-- each command; who mounts the files may find a page of them broken
abbrev pub statuses : Option Command → List ℕ
statuses None = 1 ∷ []
statuses (Some command.Batch) = 7 ∷ run_statuses
statuses (Some (command.Core schedule)) = 7 ∷ run_statuses
statuses (Some (command.Make number)) = 7 ∷ make_statuses
statuses (Some command.Format) = 3 ∷ []
statuses (Some command.Migrate) = 3 ∷ 7 ∷ 9 ∷ 10 ∷ []
statuses (Some command.Check) = 4 ∷ read_statuses
statuses (Some (command.Times schedule)) = 5 ∷ read_statuses
statuses (Some command.Solo) = 7 ∷ session_statuses

-- ---- one of them
abbrev pub is_listed : List ℕ → ℕ → Bool
is_listed [] status = false
is_listed (first ∷ others) status = if status == first then true else is_listed others status

abbrev pub FaultBy : List ℕ → Cause → Type 0
FaultBy all why = is_listed all (number_of why) ≡ true

abbrev pub EndsBy : List ℕ → Refusal → Type 0
EndsBy all refusal = is_listed all (status_of (Some refusal)) ≡ true

-- why each command may be refused
abbrev pub MayBeRefused : Option Command → Refusal → Type 0
MayBeRefused asked = EndsBy (statuses asked)
