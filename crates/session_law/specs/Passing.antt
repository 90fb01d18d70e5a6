-- To which files the work of a session comes.
use Rattle.std.specs.Prelude.{◌≡◌, ◌⊎◌, List, [], ◌∷◌, ◌++◌}
use Rattle.disk_layout.specs.Files.{Files}
use Rattle.solo_needs.specs.Needs.{Given}
use Rattle.session_law.specs.Plans.{FilesAndPause, at_rest, piece, behind, behind_pieces, plan_from, maps_passed}
use Rattle.solo_law.specs.Devices.{plan_behind}

-- these files are the first, or some to which those were changed
abbrev pub IsAmong : Files → Files → List Files → Type 0
IsAmong all first [] = all ≡ first
IsAmong all first (next ∷ rest) = (all ≡ first) ⊎ IsAmong all next rest

-- From these opening files work that began so comes to these: behind its last piece, or in the middle of it.
abbrev pub ComesBy : Files → List Given → Files → Type 0
ComesBy opening givens all = IsAmong all opening (maps_passed givens (at_rest opening))

-- where files and command stand behind work that began so
abbrev pub stands_behind : Files → List Given → FilesAndPause
stands_behind opening givens = behind_pieces givens (at_rest opening)

-- ---- Laws

-- A piece more leads from where the work before it led; what all later work comes to is the rest of the plan.
pub record OnePieceMore (opening : Files) (before : List Given) (given : Given) : Type 0 where
  pub leads : stands_behind opening (before ++ given ∷ []) ≡ behind given (stands_behind opening before)
  pub need : plan_from (stands_behind opening before) [] given
      ≡ (piece given (stands_behind opening before)).need
  pub plan : plan_behind given (plan_from (stands_behind opening before))
      ≡ plan_from (stands_behind opening (before ++ given ∷ []))
  -- and to the files that it changes to, also in its middle
  pub passes : (all : Files)
      → IsAmong all (stands_behind opening before).files (piece given (stands_behind opening before)).maps
      → ComesBy opening (before ++ given ∷ []) all

abbrev pub EachPieceLeadsOn : Type 0
EachPieceLeadsOn = (opening : Files) (before : List Given) (given : Given) → OnePieceMore opening before given

-- the files behind all pieces are some to which they come
abbrev pub BehindIsPassed : Type 0
BehindIsPassed =
    (opening : Files) (givens : List Given) → ComesBy opening givens (stands_behind opening givens).files
