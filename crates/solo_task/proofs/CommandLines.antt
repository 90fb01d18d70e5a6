-- Each command prints and displays lines, and so the paper of a session has lines.
use Rattle.std.proofs.Common.{ℕ, zero, suc, Bool, true, false, List, [], ◌∷◌, ◌++◌, length, Option, None, Some}
use Rattle.std.specs.Prelude.{if◌then◌else◌, codes, Result, Ok, Err}
use Rattle.std.specs.FinMap as fin
use Rattle.solo_base.specs.LineList.{AreLines}
use Rattle.solo_base.specs.Text.{text}
use Rattle.solo_base.specs.declared.item.Item.{Item}
use Rattle.solo_base.specs.declared.system_call.Arg.{Arg}
use Rattle.disk_layout.specs.declared.kind.FileKind.{FileKind}
use Rattle.disk_layout.specs.declared.kind.FileKind.TheVariants.{Scratch, Ascii, SeqCode, ConCode}
use Rattle.disk_layout.specs.Files.{File, Files, with_protection}
use Rattle.disk_files.specs.declared.fault.FileFault.{FileFault}
use Rattle.disk_files.specs.Answers.{delete_answer, rename_answer, protect_answer}
use Rattle.disk_system.specs.Calls.{room_answer}
use Rattle.disk_contents.specs.Contents.{file_bytes, text_in, text_file, code_file}
use Rattle.disk_contents.specs.Loading.{program_of}
use Rattle.disk_contents.specs.declared.loading.Loaded.{Loaded}
use Rattle.disk_contents.specs.declared.loading.Loaded.TheVariants as load
use Rattle.pascal_code.specs.Code.{code_of}
use Rattle.code_law.specs.Compiling.{Compiling, compiled, bad_word, syntax_error, semantic_error, code_limit}
use Rattle.pascal_mean.specs.Batch.{nothing_printed, with_characters, last_line, lines_in}
use Rattle.solo_commands.specs.declared.command.Command.{Command}
use Rattle.solo_commands.specs.declared.command.Command.TheVariants as command
use Rattle.solo_commands.specs.Commands.{Said, Blank, Asks, Bad, item_says, is_cards, is_printer}
use Rattle.program_task.specs.OpenFiles.{pages_free}
use Rattle.program_task.specs.Task.{CardFile, Task, Gives, ReadsCards, Accepts, Displays, Prints, Changes}
use Rattle.program_task.specs.Program.{Ended, Runner, begins_with}
use Rattle.program_task.specs.Run.{runner, program_room}
use Rattle.solo_task.specs.Answers.{Doing, answers, becomes, stores}
use Rattle.solo_task.specs.Copying.{copier, prints_text, prints_file, stores_file, copies_file, with_cards, stores_cards, copies_cards, copies}
use Rattle.solo_task.specs.Compiles.{compiler, compiling_text, stores_program, compiles_file, compiles_to, compiles_from}
use Rattle.solo_task.specs.Doing.{renamed, protected, program_answers, ends_program, tick_limit, first_share, runs_loaded, does, done_if, line_does}
use Rattle.solo_task.specs.Needs.{or_idle}
use Rattle.solo_task.specs.Session.{SoloWorld, first_file, next_feed, after_cards, after_line, with_files, tells, world_after, lines_told, next_tells, one_tells, opening, session}
use Rattle.solo_task.specs.Laws.{MakesLines, Any}
use Rattle.solo_task.proofs.ProgramLines.{lines-then, lines-printed, are-both, empty-line, characters-printed, last-printed, LeavesHands, RunsInLines, runner-lines}

abbrev InLines : Doing → Type 0
InLines doing = MakesLines Any doing

either-lines : (b : Bool) (t u : Doing) → InLines t → InLines u → InLines (if b then t else u)
either-lines true t u is also = is
either-lines false t u is also = also

becomes-lines : (word : List ℕ) (answer : Result (Unit {0}) FileFault) (now : Files) → InLines (becomes word answer now)
becomes-lines word (Ok done) now = tt
becomes-lines word (Err why) now = tt

stores-lines : (word : List ℕ) (all : Files) (name : List ℕ) (file : File) → InLines (stores word all name file)
stores-lines word all name file =
    becomes-lines word (room_answer (fin.len all) (pages_free all) (length file.pages)) (fin.insert all name file)

text-lines : (characters : List ℕ) → InLines (prints_text characters)
text-lines characters =
    let made = with_characters nothing_printed characters in
    let are = characters-printed nothing_printed characters record { lines = tt; line = empty-line } in
    lines-printed Any (lines_in made) (answers copier (codes "OK")) (are-both made.lines (last_line made.line) are.lines (last-printed made.line are.line)) tt

-- ---- copy

file-lines : (kind : FileKind) (bytes : List ℕ) → InLines (prints_file kind bytes)
file-lines Ascii bytes = text-lines (text_in bytes)
file-lines Scratch bytes = tt
file-lines SeqCode bytes = tt
file-lines ConCode bytes = tt

stores_file-lines : (file : File) (all : Files) (to : List ℕ) (other : Option File) → InLines (stores_file file all to other)
stores_file-lines file all to (Some other) = tt
stores_file-lines file all to None = stores-lines copier all to (with_protection file false)

copies_file-lines : (file : Option File) (all : Files) (to : List ℕ) → InLines (copies_file file all to)
copies_file-lines None all to = tt
copies_file-lines (Some file) all to =
    either-lines (is_printer to) _ _ (file-lines file.kind (file_bytes file)) (stores_file-lines file all to (fin.get all to))

with_cards-lines : (use_cards : List (List ℕ) → Doing) (file : CardFile) → ((cards : List (List ℕ)) → InLines (use_cards cards))
    → InLines (with_cards use_cards file)
with_cards-lines use_cards file uses = either-lines file.spoiled _ _ tt (uses file.cards)

stores_cards-lines : (all : Files) (to : List ℕ) (other : Option File) → InLines (stores_cards all to other)
stores_cards-lines all to (Some other) = tt
stores_cards-lines all to None =
    λ file. with_cards-lines (λ cards. stores copier all to (text_file (text cards))) file (λ cards. stores-lines copier all to (text_file (text cards)))

copies_cards-lines : (all : Files) (to : List ℕ) → InLines (copies_cards all to)
copies_cards-lines all to =
    either-lines (is_printer to) (ReadsCards (with_cards (λ cards. prints_text (text cards)))) (stores_cards all to (fin.get all to))
    (λ file. with_cards-lines (λ cards. prints_text (text cards)) file (λ cards. text-lines (text cards)))
    (stores_cards-lines all to (fin.get all to))

copies-lines : (all : Files) (from to : List ℕ) → InLines (copies all from to)
copies-lines all from to =
    either-lines (is_cards from) (copies_cards all to) (copies_file (fin.get all from) all to) (copies_cards-lines all to)
    (copies_file-lines (fin.get all from) all to)

-- ---- compile

stores_program-lines : (all : Files) (to : List ℕ) (c : Compiling) → InLines (stores_program all to c)
stores_program-lines all to (compiled program) = stores-lines compiler all to (code_file (code_of program))
stores_program-lines all to (bad_word line) = tt
stores_program-lines all to (syntax_error line) = tt
stores_program-lines all to (semantic_error line rule) = tt
stores_program-lines all to code_limit = tt

compiles_file-lines : (kind : FileKind) (bytes : List ℕ) (all : Files) (to : List ℕ) → InLines (compiles_file kind bytes all to)
compiles_file-lines Ascii bytes all to = stores_program-lines all to (compiling_text (text_in bytes))
compiles_file-lines Scratch bytes all to = tt
compiles_file-lines SeqCode bytes all to = tt
compiles_file-lines ConCode bytes all to = tt

compiles_to-lines : (file : File) (all : Files) (to : List ℕ) (other : Option File) → InLines (compiles_to file all to other)
compiles_to-lines file all to (Some other) = tt
compiles_to-lines file all to None = compiles_file-lines file.kind (file_bytes file) all to

compiles-lines : (file : Option File) (all : Files) (to : List ℕ) → InLines (compiles_from file all to)
compiles-lines None all to = tt
compiles-lines (Some file) all to = compiles_to-lines file all to (fin.get all to)

-- ---- A program

ends-lines : (name : List ℕ) (e : Ended) → LeavesHands e → InLines (ends_program name e)
ends-lines name e is = lines-printed Any (last_line e.shared.print) (Gives (program_answers name e)) (last-printed e.shared.print is.0) tt

runs_loaded-lines : (run : Option Runner) (name : List ℕ) (args : List Arg) (all : Files) (loaded : Loaded) → RunsInLines run
    → InLines (runs_loaded run name args all loaded)
runs_loaded-lines (Some run) name args all (load.Code code) runs =
    lines-then LeavesHands Any (run code tick_limit (begins_with args) (first_share all)) (ends_program name)
    (runs code tick_limit (begins_with args) (first_share all) (empty-line, empty-line)) (λ e is. ends-lines name e is)
runs_loaded-lines None name args all (load.Code code) runs = tt
runs_loaded-lines run name args all load.NoFile runs = tt
runs_loaded-lines run name args all load.NotCode runs = tt
runs_loaded-lines run name args all (load.BadCode at) runs = tt

-- ---- Each command

does-lines : (asked : Command) (all : Files) → InLines (does asked all)
does-lines (command.Copy from to) all = copies-lines all from to
does-lines (command.Compile from to) all = compiles-lines (fin.get all from) all to
does-lines command.List all = tt
does-lines (command.Delete name) all = becomes-lines (codes "DELETE") (delete_answer (fin.get all name)) (fin.remove all name)
does-lines (command.Rename old new) all =
    becomes-lines (codes "RENAME") (rename_answer (fin.get all old) (fin.get all new)) (renamed all old new (fin.get all old))
does-lines (command.Protect name on) all =
    becomes-lines (codes "PROTECT") (protect_answer (fin.get all name)) (protected all name on (fin.get all name))
does-lines (command.Program name args) all = runs_loaded-lines (runner program_room) name args all (program_of all name) (runner-lines program_room)

done-lines : (t : Said) (all : Files) → InLines (or_idle (done_if t all))
done-lines Blank all = tt
done-lines (Asks asked) all = does-lines asked all
done-lines Bad all = tt

pub line-lines : (item : Item) (all : Files) → InLines (or_idle (line_does item all))
line-lines item all = done-lines (item_says item) all

-- ---- The session

paper-lines : {A : Type 0} (P : A → Type 0) (t : Task A) (w : SoloWorld) → MakesLines P t → AreLines (tells t w).paper
paper-lines P (Gives a) w is = tt
paper-lines P (ReadsCards more) w is = paper-lines P (more (first_file w.cards)) (after_cards w) (is (first_file w.cards))
paper-lines P (Accepts more) w is = paper-lines P (more (next_feed w.keys)) (after_line w) (is (next_feed w.keys))
paper-lines P (Displays line later) w is = paper-lines P later w is.1
paper-lines P (Prints line later) w is = (is.0, paper-lines P later w is.1)
paper-lines P (Changes files later) w is = paper-lines P later (with_files files w) is

one-paper : (doing : Option Doing) (w : SoloWorld) (n : ℕ) → InLines (or_idle doing) → ((v : SoloWorld) → AreLines (lines_told n v).paper)
    → AreLines (one_tells doing w (lines_told n)).paper
one-paper None w n is later = later w
one-paper (Some doing) w n is later =
    are-both ((tells doing w).paper ++ []) (lines_told n (world_after doing w)).paper (are-both (tells doing w).paper [] (paper-lines Any doing w is) tt)
    (later (world_after doing w))

next-paper : (keys : List Item) (w : SoloWorld) (n : ℕ) → ((v : SoloWorld) → AreLines (lines_told n v).paper)
    → AreLines (next_tells keys w (lines_told n)).paper
next-paper [] w n later = tt
next-paper (item ∷ rest) w n later = one-paper (line_does item w.files) (record w { keys = rest }) n (line-lines item w.files) later

lines-paper : (n : ℕ) (w : SoloWorld) → AreLines (lines_told n w).paper
lines-paper zero w = tt
lines-paper (suc n) w = next-paper w.keys w n (lines-paper n)

pub session-paper : (keys cards : List Item) (all : Files) → AreLines (session keys cards all).paper
session-paper keys cards all = lines-paper (length keys) (opening keys cards all)
