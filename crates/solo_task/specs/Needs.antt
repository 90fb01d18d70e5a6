-- What a command needs, one after the other, where its printed lines are cut into pages.
use Rattle.std.specs.Prelude.{ℕ, zero, suc, Bool, true, false, if◌then◌else◌, List, [], ◌∷◌, ◌++◌, length, map, nat_le, Option, None, Some}
use Rattle.solo_base.specs.declared.item.Item.{Item}
use Rattle.solo_base.specs.declared.item.Item.TheVariants.{Line}
use Rattle.solo_base.specs.declared.item.Feed.{Feed}
pub use Rattle.solo_needs.specs.Needs.{Given, OfLine, OfCards, OfTyped, OfNothing}
pub use Rattle.solo_needs.specs.Needs.{Need, CardsNeeded, LineNeeded, DisplayNeeded, PageNeeded, EndNeeded}
use Rattle.page_codec.specs.declared.form.TheConstants.{CONTENT_ROOM}
use Rattle.page_codec.specs.Items.{items_bytes}
use Rattle.disk_layout.specs.Files.{Files}
use Rattle.program_task.specs.Task.{CardFile, Gives, ReadsCards, Accepts, Displays, Prints, Changes}
use Rattle.solo_task.specs.Answers.{Doing}
use Rattle.solo_task.specs.Doing.{line_does}
use Rattle.solo_task.specs.Session.{SoloWorld, first_file, next_feed, after_cards, after_line, with_files, world_after, opening}

-- ---- The lines of the page in hand

-- whether a line has room behind them
abbrev pub fits_behind : List (List ℕ) → List ℕ → Bool
fits_behind hand line = nat_le (length (items_bytes (map Line (hand ++ line ∷ [])))) CONTENT_ROOM

-- the lines in hand behind one more
abbrev pub with_line : List (List ℕ) → List ℕ → List (List ℕ)
with_line hand line = if fits_behind hand line then hand ++ line ∷ [] else line ∷ []

-- ---- A command that pauses

-- nothing is under way; a card file or a typed line is needed; or it goes on
pub data Pause : Type 0 where
  Idle : Pause
  WantsCards : List (List ℕ) → (CardFile → Doing) → Pause
  WantsLine : List (List ℕ) → (Feed → Doing) → Pause
  GoesOn : List (List ℕ) → Doing → Pause

-- where it pauses: its need, the files that it changed to on the way, those then, and what follows
pub record Paused : Type 0 where
  pub need : Need
  pub maps : List Files
  pub files : Files
  pub pause : Pause

abbrev pub needs : Need → Files → Pause → Paused
needs need files pause = record { need = need; maps = []; files = files; pause = pause }

abbrev pub passes : Files → Paused → Paused
passes files c = record c { maps = files ∷ c.maps }

abbrev pub either : Bool → Paused → Paused → Paused
either true first second = first
either false first second = second

-- a task up to its next need, with this page in hand
abbrev pub comes_to : List (List ℕ) → Files → Doing → Paused
comes_to hand files (Gives lines) = needs (EndNeeded hand lines) files Idle
comes_to hand files (ReadsCards more) = needs CardsNeeded files (WantsCards hand more)
comes_to hand files (Accepts more) = needs LineNeeded files (WantsLine hand more)
comes_to hand files (Displays line later) = needs (DisplayNeeded line) files (GoesOn hand later)
comes_to hand files (Prints line later) =
    either (fits_behind hand line) (comes_to (hand ++ line ∷ []) files later)
    (needs (PageNeeded hand) files (GoesOn (line ∷ []) later))
comes_to hand files (Changes now later) = passes now (comes_to hand now later)

abbrev pub or_idle : Option Doing → Doing
or_idle None = Gives []
or_idle (Some doing) = doing

-- a piece of work: by what it begins with, and where the command paused
abbrev pub resumes : Given → Files → Pause → Paused
resumes (OfLine item) files pause = comes_to [] files (or_idle (line_does item files))
resumes (OfCards cards spoiled) files (WantsCards hand more) =
    comes_to hand files (more (record { cards = cards; spoiled = spoiled }))
resumes (OfTyped typed) files (WantsLine hand more) = comes_to hand files (more typed)
resumes OfNothing files (GoesOn hand later) = comes_to hand files later
resumes given files pause = needs (EndNeeded [] []) files Idle

-- ---- All needs of a command

abbrev pub needs_of : List (List ℕ) → Doing → SoloWorld → List Need
needs_of hand (Gives lines) w = EndNeeded hand lines ∷ []
needs_of hand (ReadsCards more) w = CardsNeeded ∷ needs_of hand (more (first_file w.cards)) (after_cards w)
needs_of hand (Accepts more) w = LineNeeded ∷ needs_of hand (more (next_feed w.keys)) (after_line w)
needs_of hand (Displays line later) w = DisplayNeeded line ∷ needs_of hand later w
needs_of hand (Prints line later) w =
    (if fits_behind hand line then [] else PageNeeded hand ∷ []) ++ needs_of (with_line hand line) later w
needs_of hand (Changes files later) w = needs_of hand later (with_files files w)

-- ---- Of each typed line

abbrev pub line_needs : Option Doing → SoloWorld → (SoloWorld → List (List Need)) → List (List Need)
line_needs None w later = later w
line_needs (Some doing) w later = needs_of [] doing w ∷ later (world_after doing w)

abbrev pub next_needs : List Item → SoloWorld → (SoloWorld → List (List Need)) → List (List Need)
next_needs [] w later = []
next_needs (item ∷ rest) w later = line_needs (line_does item w.files) (record w { keys = rest }) later

abbrev pub lines_need : ℕ → SoloWorld → List (List Need)
lines_need zero w = []
lines_need (suc n) w = next_needs w.keys w (lines_need n)

-- of the session, for each line that isn't blank, in order
abbrev pub session_needs : List Item → List Item → Files → List (List Need)
session_needs keys cards files = lines_need (length keys) (opening keys cards files)
