-- A command that runs a program: where it stands, and what is left of its task.
use Rattle.std.specs.Prelude.{◌≡◌, ℕ, false, List, [], ◌∷◌, Some, None}
use Rattle.solo_base.specs.Text.{text}
use Rattle.solo_base.specs.declared.item.Feed.{Feed}
use Rattle.solo_base.specs.declared.system_call.Arg.{Arg}
use Rattle.solo_base.specs.declared.system_call.SysCall.TheVariants as calls
use Rattle.solo_base.specs.declared.system_call.SysReply.TheVariants as replies
use Rattle.disk_layout.specs.Files.{Files}
use Rattle.pascal_mean.specs.Batch.{next_character, but_the_first}
use Rattle.stack_code.specs.CodeLists.{CodeLists}
use Rattle.program_task.specs.Task.{Task, CardFile, and_then}
use Rattle.program_task.specs.Program.{Ended}
use Rattle.program_task.specs.Run.{program_room}
use Rattle.program_task.specs.Characters.{typed_text}
use Rattle.prog_stack.specs.declared.frame.Frame.{Frame}
use Rattle.prog_stack.specs.Answers.{Hand, sharing}
use Rattle.prog_stack.specs.Callers.{IsStack, TopAsks, TopWell, with_reply}
use Rattle.prog_stack.specs.Programs.{begun}
use Rattle.prog_stack.specs.Rest.{IsAt}
use Rattle.prog_stack.specs.WorkLeft.{AllWithin}
use Rattle.solo_procs.specs.Commands.{Kind, AtLine, AtCards, AtTyped, AtNothing}
use Rattle.solo_task.specs.Answers.{Doing}
use Rattle.solo_task.specs.Doing.{ends_program, tick_limit}
use Rattle.solo_task.specs.Needs.{Pause, WantsCards, WantsLine, GoesOn}
use Rattle.program_run.specs.declared.program_run.ProgramRun.{ProgramRun}

-- the name of the program, the programs on the stack, the top one first, and what they share but for the
-- files
abbrev pub Sight : Type 0
Sight = ProgramRun

-- nothing was read, typed or printed yet
abbrev pub no_hand : Hand
no_hand = record { input = None; spoiled = false; typed = []; display = []; print = [] }

abbrev pub at_beginning : List ℕ → List Arg → CodeLists → Sight
at_beginning name args code =
    record { name = name; programs = begun code tick_limit args ∷ []; hand = no_hand }

-- Over these files this is left of the command: what is left of its program, and then its answers.
pub record IsLeftOf (p : Sight) (all : Files) (doing : Doing) : Type 0 where
  pub task : Task Ended
  pub left : IsAt program_room p.programs (sharing all p.hand) task
  pub is : doing ≡ and_then task (ends_program p.name)

-- ---- Over every area

abbrev pub IsThere : List Frame → Type 0
IsThere [] = ⊥
IsThere (top ∷ below) = Unit {0}

-- a program is under way
pub record IsUnderWay (p : Sight) : Type 0 where
  pub there : IsThere p.programs
  pub stack : IsStack program_room p.programs
  pub within : AllWithin tick_limit p.programs

-- a piece of work that begins with one of this kind may be done
abbrev pub MayTake : Kind → Sight → Type 0
MayTake AtCards p = IsUnderWay p × TopAsks calls.Read p.programs
MayTake AtTyped p = IsUnderWay p × TopAsks calls.Accept p.programs
MayTake AtNothing p = IsUnderWay p
MayTake AtLine p = ⊥

-- ---- A card file or a typed line is taken

-- The top program is given the first of these characters, and these are left in hand.
pub record Takes (code : ℕ) (hand : Hand) (p now : Sight) : Type 0 where
  pub is : now ≡ record { name = p.name; programs = with_reply (replies.Char code) p.programs; hand = hand }
  pub well : TopWell now.programs
  pub may : MayTake AtNothing now

-- the characters of the cards are read from now on, the first one at once
abbrev pub TakesCards : CardFile → Sight → Sight → Type 0
TakesCards file p now =
    Takes (next_character (text file.cards))
    (record p.hand { input = Some (but_the_first (text file.cards)); spoiled = file.spoiled }) p now

-- and so are those of the typed line
abbrev pub TakesLine : Feed → Sight → Sight → Type 0
TakesLine typed p now =
    Takes (next_character (typed_text typed)) (record p.hand { typed = but_the_first (typed_text typed) }) p
    now

-- ---- Where it pauses

-- once it has a card file, this is left
abbrev pub WaitsForCards : Sight → Files → (CardFile → Doing) → Type 0
WaitsForCards p all more =
    (file : CardFile) (now : Sight) → TakesCards file p now → IsLeftOf now all (more file)

abbrev pub WaitsForLine : Sight → Files → (Feed → Doing) → Type 0
WaitsForLine p all more = (typed : Feed) (now : Sight) → TakesLine typed p now → IsLeftOf now all (more typed)

-- the pause for which it stands, with these lines on the page in hand, by what it is given next
abbrev pub StandsFor : Kind → Sight → List (List ℕ) → Files → Pause → Type 0
StandsFor AtCards p hand all pause =
    (more : CardFile → Doing) × (pause ≡ WantsCards hand more) × WaitsForCards p all more
StandsFor AtTyped p hand all pause =
    (more : Feed → Doing) × (pause ≡ WantsLine hand more) × WaitsForLine p all more
StandsFor AtNothing p hand all pause = (doing : Doing) × (pause ≡ GoesOn hand doing) × IsLeftOf p all doing
StandsFor AtLine p hand all pause = ⊥
