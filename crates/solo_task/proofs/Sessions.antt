-- A session leaves the last of its maps, and goes on where more is typed.
use Rattle.std.proofs.Common.{◌≡◌, ℕ, zero, suc, ◌+◌, ◌≤◌, List, [], ◌∷◌, ◌++◌, length, Option, None, Some, refl, sym, ◌∙◌, ap, arith, append_assoc}
use Rattle.std.proofs.lemmas.List.{append-nil, length-append}
use Rattle.solo_base.specs.declared.item.Item.{Item}
use Rattle.disk_layout.specs.Files.{Files}
use Rattle.program_task.specs.Task.{Task, Gives, ReadsCards, Accepts, Displays, Prints, Changes}
use Rattle.solo_task.specs.Answers.{Doing}
use Rattle.solo_task.specs.Doing.{line_does}
use Rattle.solo_task.specs.Session.{SoloWorld, Transcript, silent, and_told, console_line, paper_line, changed, first_file, next_feed, later_lines, after_cards, after_line, with_files, tells, world_after, given_by, command_told, one_tells, next_tells, lines_told, opening, one_left, next_left, lines_leave}
use Rattle.solo_task.specs.Laws.{last_of, LastMapIsTheLast, GoesOnWith, MoreCommandsGoOn, HasKeys, OneHasKeys, NextHasKeys, LinesHaveKeys, MoreKeysGoOn}

-- ---- The last map

pub last-append : (all : Files) (some more : List Files) → last_of all (some ++ more) ≡ last_of (last_of all some) more
last-append all [] more = refl
last-append all (first ∷ some) more = last-append first some more

task-last : {A : Type 0} (t : Task A) (w : SoloWorld) → (world_after t w).files ≡ last_of w.files (tells t w).maps
task-last (Gives a) w = refl
task-last (ReadsCards more) w = task-last (more (first_file w.cards)) (after_cards w)
task-last (Accepts more) w = task-last (more (next_feed w.keys)) (after_line w)
task-last (Displays line later) w = task-last later w
task-last (Prints line later) w = task-last later w
task-last (Changes files later) w = task-last later (with_files files w)

one-last : (doing : Option Doing) (w : SoloWorld) (n : ℕ) → ((v : SoloWorld) → (lines_leave n v).files ≡ last_of v.files (lines_told n v).maps)
    → (one_left doing w (lines_leave n)).files ≡ last_of w.files (one_tells doing w (lines_told n)).maps
one-last None w n later = later w
one-last (Some doing) w n later =
    let told = tells doing w in
    let after = world_after doing w in
    let maps = (lines_told n after).maps in
    later after ∙ ap (λ all. last_of all maps) (task-last doing w ∙ ap (λ some. last_of w.files some) (sym (append-nil told.maps)))
    ∙ sym (last-append w.files (told.maps ++ []) maps)

next-last : (keys : List Item) (w : SoloWorld) (n : ℕ) → ((v : SoloWorld) → (lines_leave n v).files ≡ last_of v.files (lines_told n v).maps)
    → (next_left keys w (lines_leave n)).files ≡ last_of w.files (next_tells keys w (lines_told n)).maps
next-last [] w n later = refl
next-last (item ∷ rest) w n later = one-last (line_does item w.files) (record w { keys = rest }) n later

lines-last : (n : ℕ) (w : SoloWorld) → (lines_leave n w).files ≡ last_of w.files (lines_told n w).maps
lines-last zero w = refl
lines-last (suc n) w = next-last w.keys w n (lines-last n)

pub last-is-last : LastMapIsTheLast
last-is-last keys cards all = lines-last (length keys) (opening keys cards all)

-- ---- More commands

goes-behind : (first some all : Transcript) → GoesOnWith some all → GoesOnWith (and_told first some) (and_told first all)
goes-behind first some all on = record {
  rest = on.rest;
  console = ap (λ lines. first.console ++ lines) on.console ∙ sym (append_assoc first.console some.console on.rest.console);
  paper = ap (λ lines. first.paper ++ lines) on.paper ∙ sym (append_assoc first.paper some.paper on.rest.paper);
  maps = ap (λ maps. first.maps ++ maps) on.maps ∙ sym (append_assoc first.maps some.maps on.rest.maps);
}

from-nothing : (all : Transcript) → GoesOnWith silent all
from-nothing all = record { rest = all; console = refl; paper = refl; maps = refl }

one-more : (doing : Option Doing) (w : SoloWorld) (n m : ℕ) → ((v : SoloWorld) → GoesOnWith (lines_told n v) (lines_told m v))
    → GoesOnWith (one_tells doing w (lines_told n)) (one_tells doing w (lines_told m))
one-more None w n m later = later w
one-more (Some doing) w n m later =
    goes-behind (command_told doing w) (lines_told n (world_after doing w)) (lines_told m (world_after doing w)) (later (world_after doing w))

next-more : (keys : List Item) (w : SoloWorld) (n m : ℕ) → ((v : SoloWorld) → GoesOnWith (lines_told n v) (lines_told m v))
    → GoesOnWith (next_tells keys w (lines_told n)) (next_tells keys w (lines_told m))
next-more [] w n m later = from-nothing silent
next-more (item ∷ rest) w n m later = one-more (line_does item w.files) (record w { keys = rest }) n m later

pub more-commands : MoreCommandsGoOn
more-commands zero more w = from-nothing (lines_told (zero + more) w)
more-commands (suc first) more w =
    let one : suc first + more ≡ suc (first + more) = omega arith in
    rw one (next-more w.keys w first (first + more) (λ v. more-commands first more v))

-- ---- More typed lines

-- with further lines to be typed
abbrev longer : List Item → SoloWorld → SoloWorld
longer more w = record w { keys = w.keys ++ more }

first-same : (keys more : List Item) → 1 ≤ length keys → next_feed (keys ++ more) ≡ next_feed keys
first-same [] more some = absurd (omega (arith, some))
first-same (item ∷ rest) more some = refl

later-same : (keys more : List Item) → 1 ≤ length keys → later_lines (keys ++ more) ≡ later_lines keys ++ more
later-same [] more some = absurd (omega (arith, some))
later-same (item ∷ rest) more some = refl

-- a task that has its typed lines does the same where more are there behind them
record DoesTheSame {A : Type 0} (t : Task A) (more : List Item) (w : SoloWorld) : Type 0 where
  told : tells t (longer more w) ≡ tells t w
  given : given_by t (longer more w) ≡ given_by t w
  world : world_after t (longer more w) ≡ longer more (world_after t w)

does-same : {A : Type 0} (t : Task A) (more : List Item) (w : SoloWorld) → HasKeys t w → DoesTheSame t more w
does-same (Gives a) more w has = record { told = refl; given = refl; world = refl }
does-same (ReadsCards go) more w has =
    let r = does-same (go (first_file w.cards)) more (after_cards w) has in record { told = r.told; given = r.given; world = r.world }
does-same (Accepts go) more w has =
    let r = does-same (go (next_feed w.keys)) more (after_line w) has.1 in
    let first = first-same w.keys more has.0 in
    let rest = later-same w.keys more has.0 in
    record { told = rw (first, rest) r.told; given = rw (first, rest) r.given; world = rw (first, rest) r.world }
does-same (Displays line later) more w has =
    let r = does-same later more w has in record { told = ap (λ told. console_line line told) r.told; given = r.given; world = r.world }
does-same (Prints line later) more w has =
    let r = does-same later more w has in record { told = ap (λ told. paper_line line told) r.told; given = r.given; world = r.world }
does-same (Changes files later) more w has =
    let r = does-same later more (with_files files w) has in record { told = ap (λ told. changed files told) r.told; given = r.given; world = r.world }

one-keys : (doing : Option Doing) (more : List Item) (w : SoloWorld) (n m : ℕ) → OneHasKeys doing w (LinesHaveKeys n)
    → ((v : SoloWorld) → LinesHaveKeys n v → GoesOnWith (lines_told n v) (lines_told m (longer more v)))
    → GoesOnWith (one_tells doing w (lines_told n)) (one_tells doing (longer more w) (lines_told m))
one-keys None more w n m has later = later w has
one-keys (Some doing) more w n m has later =
    let same = does-same doing more w has.0 in
    rw (same.told, same.given, same.world)
    (goes-behind (command_told doing w) (lines_told n (world_after doing w)) (lines_told m (longer more (world_after doing w)))
    (later (world_after doing w) has.1))

next-keys : (keys more : List Item) (w : SoloWorld) (n m : ℕ) → NextHasKeys keys w (LinesHaveKeys n)
    → ((v : SoloWorld) → LinesHaveKeys n v → GoesOnWith (lines_told n v) (lines_told m (longer more v)))
    → GoesOnWith (next_tells keys w (lines_told n)) (next_tells (keys ++ more) (longer more w) (lines_told m))
next-keys [] more w n m has later = from-nothing (next_tells more (longer more w) (lines_told m))
next-keys (item ∷ rest) more w n m has later = one-keys (line_does item w.files) more (record w { keys = rest }) n m has later

lines-keys : (n m : ℕ) (more : List Item) (w : SoloWorld) → LinesHaveKeys n w → GoesOnWith (lines_told n w) (lines_told (n + m) (longer more w))
lines-keys zero m more w has = from-nothing (lines_told (zero + m) (longer more w))
lines-keys (suc n) m more w has =
    let one : suc n + m ≡ suc (n + m) = omega arith in
    rw one (next-keys w.keys more w n (n + m) has (λ v v_has. lines-keys n m more v v_has))

goes-changed : (all : Files) (some told : Transcript) → GoesOnWith some told → GoesOnWith (changed all some) (changed all told)
goes-changed all some told on = record { rest = on.rest; console = on.console; paper = on.paper; maps = ap (λ maps. all ∷ maps) on.maps }

pub more-keys : MoreKeysGoOn
more-keys keys more cards all has =
    let w = opening keys cards all in
    goes-changed all (lines_told (length keys) w) (lines_told (length (keys ++ more)) (longer more w))
    (rw (length-append keys more) (lines-keys (length keys) (length more) more w has))
