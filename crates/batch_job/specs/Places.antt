-- What the code keeps of where a stream stands in its deck, and of the lines that are made.
use Rattle.std.specs.Prelude.{◌≡◌, ℕ, ◌+◌, Bool, true, false, List, [], ◌∷◌, ◌++◌, Option, Some, None, option_to_list, length}
use Rattle.solo_base.specs.declared.item.Item.{Item}
use Rattle.deck_format.specs.declared.control.Opener.{Opener}
use Rattle.deck_format.specs.declared.control.Opener.TheVariants as opener
use Rattle.deck_format.specs.declared.job.CardFault.{CardFault}
use Rattle.deck_format.specs.declared.group.Group.{Group}
use Rattle.deck_format.specs.JobReader.{control_in}
use Rattle.deck_format.specs.Jobs.{is_some}
use Rattle.program_lines.specs.Task.{Task, task_lines}
use Rattle.program_lines.specs.Standing.{StandsFor, IsSpent, lines_left}
use Rattle.program_lines.specs.declared.program_lines.ProgramLines.{ProgramLines}
use Rattle.program_lines.specs.declared.program_lines.ProgramLines.TheVariants as made
use Rattle.disk_contents.specs.declared.loading.Loaded.{Loaded}
use Rattle.disk_contents.specs.declared.loading.Loaded.TheVariants.{NoFile}
use Rattle.batch_job.specs.Report.{heading}
use Rattle.batch_job.specs.Loads.{load_for}
use Rattle.batch_job.specs.LinesAhead.{Where, Outside, InList, InProgram, Dropped, name_of, task_in, lines_ahead, closed_lines, opened, added_lines, added}
use Rattle.batch_job.specs.declared.part.Part.{Part}
use Rattle.batch_job.specs.declared.part.Part.TheVariants as part
use Rattle.batch_job.specs.declared.item_lines.ItemLines.{ItemLines}

-- the group of a program before its input, with these cards
abbrev pub program_group : List ℕ → ℕ → ℕ → List (List ℕ) → Group
program_group name limit number cards = record {
  opener = opener.Job name limit;
  kept = record { cards = cards; input = []; fault = None };
  in_input = false;
  number = number;
}

-- A program that reads its input, which has no fault, is at the task of its group, and has given the lines
-- that were given of it.
pub record IsInput (name : List ℕ) (number : ℕ) (lines : ProgramLines) (place : Where) : Type 0 where
  pub load : Loaded
  pub group : Group
  pub given : List (List ℕ)
  pub place_is : place ≡ InProgram load group given
  pub name_is : name_of group.opener ≡ name
  pub begun : group.in_input ≡ true
  pub fine : group.kept.fault ≡ None
  pub number_is : group.number ≡ number
  pub stands : StandsFor lines (task_in load group) given

-- a part of the code is this place
abbrev pub IsPart : Part → Where → Type 0
IsPart (part.Stretch count) place = place ≡ Outside count
IsPart (part.List name count) place = place ≡ InList name count
IsPart (part.Program name limit number cards) place =
    place ≡ InProgram NoFile (program_group name limit number cards) []
IsPart (part.Input name number lines) place = IsInput name number lines place
IsPart part.Dropped place = place ≡ Dropped

abbrev pub is_in_a_group : Part → Bool
is_in_a_group (part.Stretch count) = false
is_in_a_group (part.List name count) = true
is_in_a_group (part.Program name limit number cards) = true
is_in_a_group (part.Input name number lines) = true
is_in_a_group part.Dropped = true

-- it gives no more lines before the next item
abbrev pub IsSpentPart : Part → Type 0
IsSpentPart (part.Stretch count) = Unit {0}
IsSpentPart (part.List name count) = Unit {0}
IsSpentPart (part.Program name limit number cards) = Unit {0}
IsSpentPart (part.Input name number lines) = IsSpent lines
IsSpentPart part.Dropped = Unit {0}

-- ---- lines that are made
-- a program to which no further card comes still gives these lines
pub record StillGives (lines : ProgramLines) (rest : List (List ℕ)) : Type 0 where
  pub task : Task
  pub given : List (List ℕ)
  pub stands : StandsFor lines task given
  pub closed : task.closed ≡ true
  pub all : task_lines task ≡ given ++ rest

-- the lines of an item, in order
pub record Holds (lines : ItemLines) (all : List (List ℕ)) : Type 0 where
  pub rest : List (List ℕ)
  pub ending : StillGives lines.ending rest
  pub all_are : all ≡ rest ++ option_to_list lines.own ++ option_to_list lines.note

abbrev pub no_lines : ItemLines
no_lines = record { ending = made.Over; own = None; note = None }

-- no more lines than these are left
abbrev pub lines_left_of : ItemLines → ℕ
lines_left_of lines =
    lines_left lines.ending + length (option_to_list lines.own) + length (option_to_list lines.note)

-- ---- what an item does
-- what an opener needs is loaded
abbrev pub HasLoad : Option Opener → List Loaded → Type 0
HasLoad None loads = Unit {0}
HasLoad (Some o) loads = (load : Loaded) × (left : List Loaded) × (load_for o loads ≡ Some (load, left))

-- and these loads are left behind it
abbrev pub LeavesLoads : Option Opener → List Loaded → List Loaded → Type 0
LeavesLoads None loads left = left ≡ loads
LeavesLoads (Some o) loads left = (load : Loaded) × (load_for o loads ≡ Some (load, left))

-- a group that is none of a file has no load of its own
abbrev pub IsLoadOf : Opener → Loaded → Type 0
IsLoadOf (opener.List name) load = Unit {0}
IsLoadOf (opener.Job name limit) load = load ≡ NoFile
IsLoadOf (opener.Run name file) load = Unit {0}

-- it gives these lines, takes the first of the loads if it opens a job of a file, and leads to this part
pub record Leads (place : Where) (item : Item) (loads left : List Loaded) (lines : ItemLines)
    (part : Part) : Type 0 where
  pub to : Where
  pub part_is : IsPart part to
  pub all : List (List ℕ)
  pub holds : Holds lines all
  pub more : (more : List Item) (later : List Loaded) (ended : Bool)
      → lines_ahead place (item ∷ more) (loads ++ later) ended
      ≡ all ++ lines_ahead to more (left ++ later) ended

-- an opener ends the part before it, and its heading is told
pub record Opens (place : Where) (o : Opener) (loads left : List Loaded) (lines : ItemLines)
    (part : Part) : Type 0 where
  pub load : Loaded
  pub load_is : load_for o loads ≡ Some (load, left)
  pub part_is : IsPart part (opened load o)
  pub holds : Holds lines (closed_lines place ++ heading (name_of o) ∷ [])

-- the end of a group
pub record Ends (place : Where) (lines : ItemLines) (part : Part) : Type 0 where
  pub part_is : IsPart part (Outside 0)
  pub holds : Holds lines (closed_lines place)

-- an item that neither opens nor ends a group
pub record Adds (place : Where) (item : Item) (lines : ItemLines) (part : Part) : Type 0 where
  pub to : Where
  pub part_is : IsPart part to
  pub all : List (List ℕ)
  pub holds : Holds lines all
  pub more : (more : List Item) (loads : List Loaded) (ended : Bool)
      → added_lines place item (is_some (control_in item))
      ++ lines_ahead (added place item (is_some (control_in item))) more loads ended
      ≡ all ++ lines_ahead to more loads ended

-- ---- a whole run
-- a program with this fault is run, unless the fault is its own
abbrev pub is_run : Option CardFault → Bool
is_run None = true
is_run (Some fault) = fault.in_input

-- a program gave these lines, which were pushed
pub record Gave (t : Task) (given before after : List (List ℕ)) (lines : ProgramLines) : Type 0 where
  pub more : List (List ℕ)
  pub pushed : after ≡ before ++ more
  pub stands : StandsFor lines t (given ++ more)

-- and these are all that come with the cards so far
pub record Made (t : Task) (given before after : List (List ℕ)) (lines : ProgramLines) : Type 0 where
  pub gave : Gave t given before after lines
  pub all : task_lines t ≡ given ++ gave.more

-- ---- a program's next line
-- no more lines than these come before the next item
abbrev pub part_left : Part → ℕ
part_left (part.Stretch count) = 0
part_left (part.List name count) = 0
part_left (part.Program name limit number cards) = 0
part_left (part.Input name number lines) = lines_left lines
part_left part.Dropped = 0

-- it gave these lines, and stands elsewhere then
pub record GivesOn (place : Where) (now : Part) (lines : List (List ℕ)) : Type 0 where
  pub to : Where
  pub part_is : IsPart now to
  pub gives : (more : List Item) (loads : List Loaded) (ended : Bool)
      → lines_ahead place more loads ended ≡ lines ++ lines_ahead to more loads ended

-- it gave none, and none is ahead before the next item
pub record RestsAt (place : Where) (now : Part) : Type 0 where
  pub part_is : IsPart now place
  pub nothing : lines_ahead place [] [] false ≡ []
