-- What the session makes of the work of Solo's job process: its plan.
use Rattle.std.specs.Prelude.{◌≡◌, List, [], ◌∷◌, ◌++◌}
use Rattle.solo_base.specs.declared.item.Item.{Item}
use Rattle.disk_layout.specs.Files.{Files}
use Rattle.solo_needs.specs.Needs.{Given, Need}
use Rattle.solo_needs.specs.Handing.{Ahead, no_command, HandsOn}
use Rattle.solo_task.specs.Needs.{Pause, Idle, Paused, resumes, session_needs}
use Rattle.solo_law.specs.Work.{Plan, PlanFits}
use Rattle.solo_law.specs.Told.{needs_of}

-- the files, and where the command under way pauses
pub record FilesAndPause : Type 0 where
  pub files : Files
  pub pause : Pause

abbrev pub at_rest : Files → FilesAndPause
at_rest files = record { files = files; pause = Idle }

-- what a piece of work that begins so comes to
abbrev pub piece : Given → FilesAndPause → Paused
piece given s = resumes given s.files s.pause

-- how it leaves them
abbrev pub behind : Given → FilesAndPause → FilesAndPause
behind given s = record { files = (piece given s).files; pause = (piece given s).pause }

abbrev pub behind_pieces : List Given → FilesAndPause → FilesAndPause
behind_pieces [] s = s
behind_pieces (given ∷ rest) s = behind_pieces rest (behind given s)

-- the need of each piece, by what those before it began with
abbrev pub plan_from : FilesAndPause → Plan
plan_from s before given = (piece given (behind_pieces before s)).need

-- the plan of a session
abbrev pub session_plan : Files → Plan
session_plan files = plan_from (at_rest files)

-- the files that pieces of work that begin so change to, one after the other
abbrev pub maps_passed : List Given → FilesAndPause → List Files
maps_passed [] s = []
maps_passed (given ∷ rest) s = (piece given s).maps ++ maps_passed rest (behind given s)

-- ---- Laws

abbrev pub PlansFit : Type 0
PlansFit = (files : Files) → PlanFits (session_plan files)

-- all needs of a session, one after the other
abbrev pub all_needs : List (List Need) → List Need
all_needs [] = []
all_needs (first ∷ rest) = first ++ all_needs rest

-- Where the work begins with what the cards and the typed lines hand on, its needs are the first of the
-- session's.
abbrev pub NeedsAreTheSession : Type 0
NeedsAreTheSession =
    (cards keys : List Item) (files : Files) (givens : List Given) (found : List Need) (last : Need)
    (left : Ahead)
    → HandsOn no_command (record { cards = cards; keys = keys }) givens found last left
    → found ≡ needs_of (session_plan files) givens
    → (more : List Need) × (all_needs (session_needs keys cards files) ≡ found ++ more)
