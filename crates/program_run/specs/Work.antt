-- What a piece of work on a program comes to.
use Rattle.std.specs.Prelude.{◌≡◌, ℕ, List, [], ◌∷◌, ◌++◌, Option, Some, Result, Ok, Err}
use Rattle.solo_base.specs.declared.system_call.Arg.{Arg}
use Rattle.disk_layout.specs.Files.{Files, files}
use Rattle.solo_commands.specs.declared.command.Command.TheVariants as command
use Rattle.program_task.specs.Task.{Gives}
use Rattle.file_commands.specs.declared.fault.CommandFault.{CommandFault}
use Rattle.file_commands.specs.declared.fault.CommandFault.TheVariants.{DiskFault, NoMemory}
use Rattle.solo_law.specs.Work.{NeedFits}
use Rattle.solo_law.specs.Work as law
use Rattle.solo_procs.specs.Commands.{Kind, AtLine, AtCards, AtTyped, AtNothing, IsNeed, kind_behind, pages_behind}
use Rattle.solo_procs.specs.declared.commands.Need.{Need}
use Rattle.solo_procs.specs.declared.commands.Need.TheVariants as need
use Rattle.solo_task.specs.Answers.{Doing}
use Rattle.solo_task.specs.Doing.{does}
use Rattle.solo_task.specs.Laws.{last_of}
use Rattle.solo_task.specs.Needs.{Pause, Paused, comes_to}
use Rattle.solo_work.specs.declared.paper.Paper.{Paper}
use Rattle.solo_work.specs.declared.printing.Printing.{Printing}
use Rattle.solo_work.specs.Paper.{IsHand}
use Rattle.session_law.specs.Passing.{IsAmong}
use Rattle.solo_work.specs.Printing.{prints_then}
use Rattle.program_run.specs.Sight.{Sight, IsLeftOf, MayTake, StandsFor}
use Rattle.program_run.specs.declared.program_run.Begun.{Begun}
use Rattle.program_run.specs.declared.program_run.Begun.TheVariants.{Runs, Answer}
use Rattle.program_run.specs.declared.progress.Progress.{Progress}
use Rattle.program_run.specs.declared.progress.Progress.TheVariants.{Needs, Ends}

-- ---- The beginning

-- a program is begun, or there is none, and this line answers
abbrev pub Begins : List ℕ → List Arg → Option (List (List ℕ)) → Result Begun CommandFault → Type 0
Begins name args before (Ok (Runs program)) =
    MayTake AtNothing program
    × ((pages : List (List ℕ)) → before ≡ Some pages
    → IsLeftOf program (files pages) (does (command.Program name args) (files pages)))
Begins name args before (Ok (Answer line)) =
    (pages : List (List ℕ)) → before ≡ Some pages
    → does (command.Program name args) (files pages) ≡ Gives (line ∷ [])
Begins name args before (Err fault) = Unit {0}

-- ---- A need

-- the task came to this need by told files, and it pauses there
pub record CameTo (hand : List (List ℕ)) (all : Files) (doing : Doing) (needed : law.Need) (now : Sight)
    (hand_now : List (List ℕ)) (after : Option (List (List ℕ))) : Type 0 where
  pub pages : List (List ℕ)
  pub told : after ≡ Some pages
  pub maps : List Files
  pub pause : Pause
  pub comes : comes_to hand all doing
      ≡ record { need = needed; maps = maps; files = files pages; pause = pause }
  pub stands : StandsFor (kind_behind needed) now hand_now (files pages) pause

-- Of a command that has put so many pages, with these lines in hand: the need fits, over every area, and by
-- told files it is what the task comes to.
pub record ComesTo (pages : ℕ) (hand : List (List ℕ)) (before : Option (List (List ℕ))) (p : Sight)
    (need : Need) (now : Sight) (paper : Paper) (after : Option (List (List ℕ))) : Type 0 where
  pub needed : law.Need
  pub hand_now : List (List ℕ)
  pub is : IsNeed pages need needed
  pub fits : NeedFits needed
  pub hand_is : IsHand paper (pages_behind needed pages) hand_now
  pub may : MayTake (kind_behind needed) now
  pub told : (old : List (List ℕ)) (doing : Doing) → before ≡ Some old → IsLeftOf p (files old) doing
      → CameTo hand (files old) doing needed now hand_now after

-- ---- The end

-- these files were passed before
abbrev pub passes_all : List Files → Paused → Paused
passes_all maps c = record c { maps = maps ++ c.maps }

-- the task goes on so, with no need on the way
pub record Reaches (hand : List (List ℕ)) (all : Files) (doing : Doing) (hand_now : List (List ℕ))
    (later : Doing) (after : Option (List (List ℕ))) : Type 0 where
  pub pages : List (List ℕ)
  pub told : after ≡ Some pages
  pub maps : List Files
  pub last : files pages ≡ last_of all maps
  pub comes : comes_to hand all doing ≡ passes_all maps (comes_to hand_now (files pages) later)

-- the program has ended, and these lines are left to be printed before these answers
pub record EndsSo (pages : ℕ) (hand : List (List ℕ)) (before : Option (List (List ℕ))) (p : Sight)
    (printing : Printing) (paper : Paper) (after : Option (List (List ℕ))) : Type 0 where
  pub hand_now : List (List ℕ)
  pub hand_is : IsHand paper pages hand_now
  pub told : (old : List (List ℕ)) (doing : Doing) → before ≡ Some old → IsLeftOf p (files old) doing
      → Reaches hand (files old) doing hand_now
      (prints_then printing.lines printing.next printing.answers) after

-- ---- A piece of work

-- what it begins with behind a need
abbrev pub kind_of : Need → Kind
kind_of need.Cards = AtCards
kind_of need.Line = AtTyped
kind_of (need.Display line) = AtNothing
kind_of (need.Page page) = AtNothing
kind_of (need.End last answers) = AtLine

-- and that it may be done then, over every area
abbrev pub MayGoOn : Progress → Sight → Type 0
MayGoOn (Needs n) now = MayTake (kind_of n) now
MayGoOn (Ends printing) now = Unit {0}

-- Where memory lacks, the files are some of those to which the task changes. Where the area failed, nothing
-- is said.
abbrev pub Came : ℕ → List (List ℕ) → Option (List (List ℕ)) → Sight → Result Progress CommandFault → Sight
    → Paper → Option (List (List ℕ)) → Type 0
Came pages hand before p (Ok (Needs need)) now paper after = ComesTo pages hand before p need now paper after
Came pages hand before p (Ok (Ends printing)) now paper after =
    EndsSo pages hand before p printing paper after
Came pages hand before p (Err NoMemory) now paper after =
    (old : List (List ℕ)) (doing : Doing) → before ≡ Some old → IsLeftOf p (files old) doing
    → (left : List (List ℕ)) × (after ≡ Some left)
    × IsAmong (files left) (files old) (comes_to hand (files old) doing).maps
Came pages hand before p (Err DiskFault) now paper after = Unit {0}
