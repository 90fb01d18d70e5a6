-- What one thread makes of all that is typed: the session.
use Rattle.std.specs.Prelude.{ℕ, zero, suc, true, false, List, [], ◌∷◌, ◌++◌, length, Option, Some, None, if◌then◌else◌}
use Rattle.solo_base.specs.declared.item.Item.{Item}
use Rattle.solo_base.specs.declared.item.Item.TheVariants.{Line, Spoiled}
use Rattle.deck_format.specs.Jobs.{is_end}
pub use Rattle.solo_needs.specs.Handing.{behind_file, next_feed, later_lines}
use Rattle.disk_layout.specs.Files.{Files}
use Rattle.program_task.specs.Task.{CardFile, Task, Gives, ReadsCards, Accepts, Displays, Prints, Changes}
use Rattle.solo_task.specs.Answers.{Doing}
use Rattle.solo_task.specs.Doing.{line_does}

-- ---- Card files

abbrev pub card_before : Item → CardFile → CardFile
card_before (Line line) file = record file { cards = line ∷ file.cards }
card_before Spoiled file = record { cards = []; spoiled = true }

-- The cards up to `#END`, which is taken and not passed on, or to the end of the deck; behind it card files
-- are empty. The cards behind a spoiled one are dropped.
abbrev pub first_file : List Item → CardFile
first_file [] = record { cards = []; spoiled = false }
first_file (item ∷ rest) =
    if is_end item then record { cards = []; spoiled = false } else card_before item (first_file rest)

-- ---- What a task tells

-- the files, and the cards and typed lines that are still unread
pub record SoloWorld : Type 0 where
  pub files : Files
  pub cards : List Item
  pub keys : List Item

abbrev pub with_files : Files → SoloWorld → SoloWorld
with_files files w = record w { files = files }

abbrev pub after_cards : SoloWorld → SoloWorld
after_cards w = record w { cards = behind_file w.cards }

abbrev pub after_line : SoloWorld → SoloWorld
after_line w = record w { keys = later_lines w.keys }

-- the lines of the console and of the paper, and the files after each change
pub record Transcript : Type 0 where
  pub console : List (List ℕ)
  pub paper : List (List ℕ)
  pub maps : List Files

abbrev pub silent : Transcript
silent = record { console = []; paper = []; maps = [] }

abbrev pub and_told : Transcript → Transcript → Transcript
and_told first later = record {
  console = first.console ++ later.console;
  paper = first.paper ++ later.paper;
  maps = first.maps ++ later.maps;
}

abbrev pub console_line : List ℕ → Transcript → Transcript
console_line line told = record told { console = line ∷ told.console }

abbrev pub paper_line : List ℕ → Transcript → Transcript
paper_line line told = record told { paper = line ∷ told.paper }

abbrev pub changed : Files → Transcript → Transcript
changed files told = record told { maps = files ∷ told.maps }

-- what a task tells in a world
abbrev pub tells : {A : Type 0} → Task A → SoloWorld → Transcript
tells (Gives a) w = silent
tells (ReadsCards more) w = tells (more (first_file w.cards)) (after_cards w)
tells (Accepts more) w = tells (more (next_feed w.keys)) (after_line w)
tells (Displays line later) w = console_line line (tells later w)
tells (Prints line later) w = paper_line line (tells later w)
tells (Changes files later) w = changed files (tells later (with_files files w))

-- the world that it leaves
abbrev pub world_after : {A : Type 0} → Task A → SoloWorld → SoloWorld
world_after (Gives a) w = w
world_after (ReadsCards more) w = world_after (more (first_file w.cards)) (after_cards w)
world_after (Accepts more) w = world_after (more (next_feed w.keys)) (after_line w)
world_after (Displays line later) w = world_after later w
world_after (Prints line later) w = world_after later w
world_after (Changes files later) w = world_after later (with_files files w)

-- what it gives
abbrev pub given_by : {A : Type 0} → Task A → SoloWorld → A
given_by (Gives a) w = a
given_by (ReadsCards more) w = given_by (more (first_file w.cards)) (after_cards w)
given_by (Accepts more) w = given_by (more (next_feed w.keys)) (after_line w)
given_by (Displays line later) w = given_by later w
given_by (Prints line later) w = given_by later w
given_by (Changes files later) w = given_by later (with_files files w)

-- what a command tells: its answers come last
abbrev pub command_told : Doing → SoloWorld → Transcript
command_told doing w = and_told (tells doing w) (record { console = given_by doing w; paper = []; maps = [] })

-- ---- All lines

abbrev pub one_tells : Option Doing → SoloWorld → (SoloWorld → Transcript) → Transcript
one_tells None w later = later w
one_tells (Some doing) w later = and_told (command_told doing w) (later (world_after doing w))

abbrev pub next_tells : List Item → SoloWorld → (SoloWorld → Transcript) → Transcript
next_tells [] w later = silent
next_tells (item ∷ rest) w later = one_tells (line_does item w.files) (record w { keys = rest }) later

-- The typed lines one after the other, at most so many: each takes the cards and the typed lines that it
-- needs, and the next one has what is left.
abbrev pub lines_told : ℕ → SoloWorld → Transcript
lines_told zero w = silent
lines_told (suc n) w = next_tells w.keys w (lines_told n)

abbrev pub opening : List Item → List Item → Files → SoloWorld
opening keys cards files = record { files = files; cards = cards; keys = keys }

-- the whole session, with the opening files as the first map
abbrev pub session : List Item → List Item → Files → Transcript
session keys cards files = changed files (lines_told (length keys) (opening keys cards files))

-- ---- The last map

abbrev pub one_left : Option Doing → SoloWorld → (SoloWorld → SoloWorld) → SoloWorld
one_left None w later = later w
one_left (Some doing) w later = later (world_after doing w)

abbrev pub next_left : List Item → SoloWorld → (SoloWorld → SoloWorld) → SoloWorld
next_left [] w later = w
next_left (item ∷ rest) w later = one_left (line_does item w.files) (record w { keys = rest }) later

-- the world behind at most so many typed lines
abbrev pub lines_leave : ℕ → SoloWorld → SoloWorld
lines_leave zero w = w
lines_leave (suc n) w = next_left w.keys w (lines_leave n)

-- the files behind the session
abbrev pub last_map : List Item → List Item → Files → Files
last_map keys cards files = (lines_leave (length keys) (opening keys cards files)).files
