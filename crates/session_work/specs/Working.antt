-- What a piece of the work of a session comes to.
use Rattle.std.specs.Prelude.{◌≡◌, ℕ, List, [], Option, Some, None, Result, Ok, Err}
use Rattle.disk_layout.specs.Files.{Files, files as file_map}
use Rattle.disk_files.specs.declared.fault.FileFault.{FileFault}
use Rattle.disk_files.specs.declared.fault.FileFault.TheVariants as file
use Rattle.solo_task.specs.Needs.{Paused, Pause, resumes}
use Rattle.solo_law.specs.Work.{Given, NeedFits}
use Rattle.solo_law.specs.Work as law
use Rattle.solo_procs.specs.declared.commands.Need.{Need}
use Rattle.solo_procs.specs.declared.commands.Need.TheVariants as needs
use Rattle.solo_procs.specs.declared.commands.WorkFault.{WorkFault}
use Rattle.solo_procs.specs.declared.commands.WorkFault.TheVariants.{Failed, NoMemory}
use Rattle.solo_procs.specs.Commands.{kind_given, kind_behind, pages_behind, IsNeed}
use Rattle.solo_work.specs.Paper.{IsHand}
use Rattle.session_law.specs.Passing.{IsAmong}
use Rattle.file_commands.specs.declared.fault.CommandFault.{CommandFault}
use Rattle.file_commands.specs.declared.fault.CommandFault.TheVariants.{DiskFault}
use Rattle.file_commands.specs.declared.fault.CommandFault.TheVariants as lacks
use Rattle.session_work.specs.declared.session.Session.{Session}
use Rattle.session_work.specs.declared.session.UnderWay.{UnderWay}
use Rattle.session_work.specs.declared.session.UnderWay.TheVariants as under_way
use Rattle.program_run.specs.Sight.{Sight}
use Rattle.session_work.specs.Pausing.{StandsAt, Awaits}

-- the answer as far as the file area gave it
abbrev pub of_work : {T : Type 0} → Result T WorkFault → Result (Unit {0}) FileFault
of_work (Ok x) = Ok tt
of_work (Err Failed) = Err file.DiskFault
of_work (Err NoMemory) = Err file.NoMemory

abbrev pub as_work : CommandFault → WorkFault
as_work DiskFault = Failed
as_work lacks.NoMemory = NoMemory

-- it paused for this need, the area tells its files then, and the session stands at its pause
pub record Reaches (c : Paused) (needed : law.Need) (after : Option (List (List ℕ))) (now : Session)
    : Type 0 where
  pub left : List (List ℕ)
  pub told : after ≡ Some left
  pub need : c.need ≡ needed
  pub files : c.files ≡ file_map left
  pub stands : StandsAt now (file_map left) c.pause

-- It came to a need that fits. Over told files this is what they make of it, if these come to that.
pub record CameTo (pages : ℕ) (Makes : Files → Paused → Type 0) (before : Option (List (List ℕ)))
    (came_to : Need) (now : Session) (after : Option (List (List ℕ))) : Type 0 where
  pub needed : law.Need
  pub is : IsNeed pages came_to needed
  pub fits : NeedFits needed
  pub awaited : Awaits now (pages_behind needed pages) (kind_behind needed)
  pub told : (told : List (List ℕ)) → before ≡ Some told → (c : Paused) → Makes (file_map told) c
      → Reaches c needed after now

-- where memory was refused: the files are some to which it comes
pub record StopsAmong (told : List (List ℕ)) (c : Paused) (after : Option (List (List ℕ))) : Type 0 where
  pub left : List (List ℕ)
  pub told_left : after ≡ Some left
  pub among : IsAmong (file_map left) (file_map told) c.maps

-- Where the files failed nothing is said.
abbrev pub WorkedSo : ℕ → (Files → Paused → Type 0) → Option (List (List ℕ)) → Result Need WorkFault → Session
    → Option (List (List ℕ)) → Type 0
WorkedSo pages Makes before (Ok need) now after = CameTo pages Makes before need now after
WorkedSo pages Makes before (Err Failed) now after = Unit {0}
WorkedSo pages Makes before (Err NoMemory) now after =
    (told : List (List ℕ)) → before ≡ Some told → (c : Paused) → Makes (file_map told) c
    → StopsAmong told c after

-- the same, of the files alone
abbrev pub LeadsTo : List (List ℕ) → Paused → Result Need WorkFault → Session → Option (List (List ℕ))
    → Type 0
LeadsTo told c (Ok need) now after = Reaches c c.need after now
LeadsTo told c (Err Failed) now after = Unit {0}
LeadsTo told c (Err NoMemory) now after = StopsAmong told c after

-- ---- A piece of work

-- it ends, without a line, where nothing is under way that could begin so
pub record IsOver (came_to : Need) (now : Session) : Type 0 where
  pub is : came_to ≡ needs.End None []
  pub idle : now.under_way ≡ under_way.Idle
  pub hand_is : IsHand now.paper 0 []

-- what a piece that begins so comes to, from where a session stands
abbrev pub PieceIs : Given → Session → Files → Paused → Type 0
PieceIs given old all c = (pause : Pause) × StandsAt old all pause × (c ≡ resumes given all pause)

pub record PieceSo (given : Given) (old : Session) (before : Option (List (List ℕ)))
    (result : Result Need WorkFault) (now : Session) (after : Option (List (List ℕ))) : Type 0 where
  pub comes : (pages : ℕ) → Awaits old pages (kind_given given)
      → WorkedSo pages (PieceIs given old) before result now after
  pub leads : (told : List (List ℕ)) → before ≡ Some told → (c : Paused) → PieceIs given old (file_map told) c
      → LeadsTo told c result now after

-- ---- A program under way

abbrev pub awaiting : Need → Sight → UnderWay
awaiting needs.Cards program = under_way.ReadsCards program
awaiting needs.Line program = under_way.AcceptsLine program
awaiting (needs.Display line) program = under_way.GoesOn program
awaiting (needs.Page page) program = under_way.GoesOn program
awaiting (needs.End last answers) program = under_way.GoesOn program
