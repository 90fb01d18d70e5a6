-- The laws of commands and of the session.
use Rattle.std.specs.Prelude.{◌≡◌, ◌⊎◌, ◌≤◌, ◌+◌, ℕ, zero, suc, List, [], ◌∷◌, ◌++◌, length, codes, Option, Some, None}
use Rattle.solo_base.specs.Line.{IsLine}
use Rattle.solo_base.specs.LineList.{AreLines}
use Rattle.solo_base.specs.declared.item.Item.{Item}
use Rattle.solo_base.specs.declared.item.Feed.{Feed}
use Rattle.solo_base.specs.declared.system_call.Arg.{Arg}
use Rattle.disk_layout.specs.Files.{Files}
use Rattle.disk_contents.specs.Loading.{program_of}
use Rattle.disk_contents.specs.declared.loading.Loaded.TheVariants.{Code}
use Rattle.stack_code.specs.CodeLists.{CodeLists}
use Rattle.solo_commands.specs.declared.command.Command.{Command}
use Rattle.solo_commands.specs.declared.command.Command.TheVariants as command
use Rattle.program_task.specs.Task.{CardFile, Task, Gives, ReadsCards, Accepts, Displays, Prints, Changes}
use Rattle.solo_task.specs.Answers.{Doing, answer_line}
use Rattle.solo_task.specs.Doing.{does, line_does}
use Rattle.solo_task.specs.Session.{SoloWorld, Transcript, silent, first_file, next_feed, after_cards, after_line, with_files, tells, world_after, given_by, lines_told, opening, session, last_map}
use Rattle.solo_task.specs.Needs.{Need, CardsNeeded, LineNeeded, DisplayNeeded, PageNeeded, EndNeeded, Pause, Idle, WantsCards, WantsLine, GoesOn, comes_to, needs_of, or_idle}

-- ---- Lines

-- whatever it is given, what a task prints and displays are lines, and this holds of what it gives
abbrev pub MakesLines : {A : Type 0} → (A → Type 0) → Task A → Type 0
MakesLines P (Gives a) = P a
MakesLines P (ReadsCards more) = (file : CardFile) → MakesLines P (more file)
MakesLines P (Accepts more) = (typed : Feed) → MakesLines P (more typed)
MakesLines P (Displays line later) = IsLine line × MakesLines P later
MakesLines P (Prints line later) = IsLine line × MakesLines P later
MakesLines P (Changes files later) = MakesLines P later

abbrev pub Any : {A : Type 0} → A → Type 0
Any a = Unit {0}

-- a command prints and displays lines, whatever was typed and whatever the files are
abbrev pub CommandsMakeLines : Type 0
CommandsMakeLines = (item : Item) (all : Files) → MakesLines Any (or_idle (line_does item all))

-- and so the paper of a session has lines
abbrev pub PaperHasLines : Type 0
PaperHasLines = (keys cards : List Item) (all : Files) → AreLines (session keys cards all).paper

-- ---- Needs

-- what is printed by some needs: the lines of the pages, and those that are left at the end
abbrev pub paper_of : List Need → List (List ℕ)
paper_of [] = []
paper_of (CardsNeeded ∷ more) = paper_of more
paper_of (LineNeeded ∷ more) = paper_of more
paper_of (DisplayNeeded line ∷ more) = paper_of more
paper_of (PageNeeded lines ∷ more) = lines ++ paper_of more
paper_of (EndNeeded lines answers ∷ more) = lines ++ paper_of more

-- what is displayed by them: each line that is needed to be, and the answers at the end
abbrev pub console_of : List Need → List (List ℕ)
console_of [] = []
console_of (CardsNeeded ∷ more) = console_of more
console_of (LineNeeded ∷ more) = console_of more
console_of (DisplayNeeded line ∷ more) = line ∷ console_of more
console_of (PageNeeded lines ∷ more) = console_of more
console_of (EndNeeded lines answers ∷ more) = answers ++ console_of more

-- the needs of a command, one after the other, print the lines in hand and what its task tells
abbrev pub NeedsPrint : Type 0
NeedsPrint =
    (hand : List (List ℕ)) (doing : Doing) (w : SoloWorld)
    → paper_of (needs_of hand doing w) ≡ hand ++ (tells doing w).paper

-- and display what it tells and the answers that it gives
abbrev pub NeedsDisplay : Type 0
NeedsDisplay =
    (hand : List (List ℕ)) (doing : Doing) (w : SoloWorld)
    → console_of (needs_of hand doing w) ≡ (tells doing w).console ++ given_by doing w

-- ---- One need after the other

-- what is still needed of a command that has paused, once it gets what the world has for it
abbrev pub needs_behind : Pause → SoloWorld → List Need
needs_behind Idle w = []
needs_behind (WantsCards hand more) w = needs_of hand (more (first_file w.cards)) (after_cards w)
needs_behind (WantsLine hand more) w = needs_of hand (more (next_feed w.keys)) (after_line w)
needs_behind (GoesOn hand later) w = needs_of hand later w

-- the files to which it still changes
abbrev pub maps_behind : Pause → SoloWorld → List Files
maps_behind Idle w = []
maps_behind (WantsCards hand more) w = (tells (more (first_file w.cards)) (after_cards w)).maps
maps_behind (WantsLine hand more) w = (tells (more (next_feed w.keys)) (after_line w)).maps
maps_behind (GoesOn hand later) w = (tells later w).maps

-- a piece of work comes to the first of the needs that are left, and what is left behind it are the others
abbrev pub ComesToEachNeed : Type 0
ComesToEachNeed =
    (hand : List (List ℕ)) (doing : Doing) (w : SoloWorld)
    → let c = comes_to hand w.files doing in
    needs_of hand doing w ≡ c.need ∷ needs_behind c.pause (with_files c.files w)

-- it changes to the first of the maps that the session tells, and leaves the last of these
abbrev pub ChangesToEachMap : Type 0
ChangesToEachMap =
    (hand : List (List ℕ)) (doing : Doing) (w : SoloWorld)
    → let c = comes_to hand w.files doing in
    (tells doing w).maps ≡ c.maps ++ maps_behind c.pause (with_files c.files w)

-- the last of some maps, or the first one where there are no others
abbrev pub last_of : Files → List Files → Files
last_of first [] = first
last_of first (next ∷ rest) = last_of next rest

abbrev pub LeavesTheLastMap : Type 0
LeavesTheLastMap =
    (hand : List (List ℕ)) (doing : Doing) (all : Files)
    → let c = comes_to hand all doing in c.files ≡ last_of all c.maps

-- ---- The session

-- the files behind a session are the last of its maps, the first of which are the opening files
abbrev pub LastMapIsTheLast : Type 0
LastMapIsTheLast =
    (keys cards : List Item) (all : Files)
    → last_map keys cards all ≡ last_of all (session keys cards all).maps

-- all that is told goes on with more
pub record GoesOnWith (first all : Transcript) : Type 0 where
  pub rest : Transcript
  pub console : all.console ≡ first.console ++ rest.console
  pub paper : all.paper ≡ first.paper ++ rest.paper
  pub maps : all.maps ≡ first.maps ++ rest.maps

-- what the first commands tell is the first of what all of them tell
abbrev pub MoreCommandsGoOn : Type 0
MoreCommandsGoOn =
    (first more : ℕ) (w : SoloWorld) → GoesOnWith (lines_told first w) (lines_told (first + more) w)

-- no command needs a typed line where none is left
abbrev pub HasKeys : {A : Type 0} → Task A → SoloWorld → Type 0
HasKeys (Gives a) w = Unit {0}
HasKeys (ReadsCards more) w = HasKeys (more (first_file w.cards)) (after_cards w)
HasKeys (Accepts more) w = (1 ≤ length w.keys) × HasKeys (more (next_feed w.keys)) (after_line w)
HasKeys (Displays line later) w = HasKeys later w
HasKeys (Prints line later) w = HasKeys later w
HasKeys (Changes files later) w = HasKeys later (with_files files w)

abbrev pub OneHasKeys : Option Doing → SoloWorld → (SoloWorld → Type 0) → Type 0
OneHasKeys None w Later = Later w
OneHasKeys (Some doing) w Later = HasKeys doing w × Later (world_after doing w)

abbrev pub NextHasKeys : List Item → SoloWorld → (SoloWorld → Type 0) → Type 0
NextHasKeys [] w Later = Unit {0}
NextHasKeys (item ∷ rest) w Later = OneHasKeys (line_does item w.files) (record w { keys = rest }) Later

abbrev pub LinesHaveKeys : ℕ → SoloWorld → Type 0
LinesHaveKeys zero w = Unit {0}
LinesHaveKeys (suc n) w = NextHasKeys w.keys w (LinesHaveKeys n)

-- The session of a first part of the typed lines tells the first of what the whole tells, where none of its
-- commands is told that the typed lines have ended: a program may do other things then.
abbrev pub MoreKeysGoOn : Type 0
MoreKeysGoOn =
    (keys more cards : List Item) (all : Files) → LinesHaveKeys (length keys) (opening keys cards all)
    → GoesOnWith (session keys cards all) (session (keys ++ more) cards all)

-- ---- Refusals

-- the word of a command that is no program
abbrev pub word_of : Command → Option (List ℕ)
word_of (command.Copy from to) = Some (codes "COPY")
word_of (command.Compile from to) = Some (codes "COMPILE")
word_of command.List = Some (codes "LIST")
word_of (command.Delete name) = Some (codes "DELETE")
word_of (command.Rename old new) = Some (codes "RENAME")
word_of (command.Protect name on) = Some (codes "PROTECT")
word_of (command.Program name args) = None

-- it displays and prints nothing but its answer, and changes no file
pub record TellsNothing (doing : Doing) (w : SoloWorld) : Type 0 where
  pub told : tells doing w ≡ silent
  pub files : (world_after doing w).files ≡ w.files

-- a command is answered OK, or it tells nothing
abbrev pub RefusedChangesNothing : Type 0
RefusedChangesNothing =
    (asked : Command) (word : List ℕ) (w : SoloWorld) → word_of asked ≡ Some word
    → let doing = does asked w.files in
    (given_by doing w ≡ answer_line word (codes "OK") ∷ []) ⊎ TellsNothing doing w

-- and so does a program that isn't run
abbrev pub RefusedProgramChangesNothing : Type 0
RefusedProgramChangesNothing =
    (name : List ℕ) (args : List Arg) (w : SoloWorld)
    → ((code : CodeLists) × (program_of w.files name ≡ Code code))
    ⊎ TellsNothing (does (command.Program name args) w.files) w

-- a command that is refused since a file exists leaves all as it was: it reads no card
abbrev pub ExistsReadsNoCard : Type 0
ExistsReadsNoCard =
    (asked : Command) (word : List ℕ) (w : SoloWorld) → word_of asked ≡ Some word
    → given_by (does asked w.files) w ≡ answer_line word (codes "FILE EXISTS") ∷ []
    → world_after (does asked w.files) w ≡ w
