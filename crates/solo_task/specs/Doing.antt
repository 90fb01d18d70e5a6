-- What each command does, as a task over the files: it gives the lines that answer it.
use Rattle.std.specs.Prelude.{ℕ, ◌++◌, Bool, false, List, [], ◌∷◌, codes, Option, Some, None, if◌then◌else◌}
use Rattle.std.specs.Fmt.{decimal}
use Rattle.std.specs.FinMap as fin
use Rattle.solo_base.specs.declared.item.Item.{Item}
use Rattle.solo_base.specs.declared.system_call.Arg.{Arg}
use Rattle.disk_layout.specs.Files.{File, Files, with_protection}
use Rattle.disk_files.specs.Answers.{delete_answer, rename_answer, protect_answer}
use Rattle.disk_system.specs.Listing.{file_lines}
use Rattle.disk_contents.specs.Loading.{program_of}
use Rattle.disk_contents.specs.declared.loading.Loaded.{Loaded}
use Rattle.disk_contents.specs.declared.loading.Loaded.TheVariants as load
use Rattle.pascal_mean.specs.Batch.{last_line}
use Rattle.code_law.specs.Texts.{note, result_line, no_file_line, not_code_line, bad_code_line}
use Rattle.solo_commands.specs.declared.command.Command.{Command}
use Rattle.solo_commands.specs.declared.command.Command.TheVariants as command
use Rattle.solo_commands.specs.Commands.{Said, Blank, Asks, Bad, item_says}
use Rattle.program_task.specs.Task.{Gives, and_then, prints_all}
use Rattle.program_task.specs.Program.{Shared, Ended, Runner, begins_with}
use Rattle.program_task.specs.Run.{runner, program_room}
use Rattle.solo_task.specs.Answers.{Doing, becomes}
use Rattle.solo_task.specs.Copying.{copies}
use Rattle.solo_task.specs.Compiles.{compiles}

-- ---- The catalogue

-- a line for each file, in the order of their names, and how many they are
abbrev pub lists : Files → Doing
lists all = Gives (file_lines all ++ (codes "LIST: " ++ decimal (fin.len all) ++ codes " FILES") ∷ [])

abbrev pub deletes : Files → List ℕ → Doing
deletes all name = becomes (codes "DELETE") (delete_answer (fin.get all name)) (fin.remove all name)

-- the same file under the new name
abbrev pub renamed : Files → List ℕ → List ℕ → Option File → Files
renamed all old new None = all
renamed all old new (Some file) = fin.insert (fin.remove all old) new file

abbrev pub renames : Files → List ℕ → List ℕ → Doing
renames all old new =
    becomes (codes "RENAME") (rename_answer (fin.get all old) (fin.get all new))
    (renamed all old new (fin.get all old))

abbrev pub protected : Files → List ℕ → Bool → Option File → Files
protected all name on None = all
protected all name on (Some file) = fin.insert all name (with_protection file on)

abbrev pub protects : Files → List ℕ → Bool → Doing
protects all name on =
    becomes (codes "PROTECT") (protect_answer (fin.get all name)) (protected all name on (fin.get all name))

-- ---- A program

-- the line that it displayed and didn't complete, how it ended, and whether its card file had a spoiled card
abbrev pub program_answers : List ℕ → Ended → List (List ℕ)
program_answers name e =
    last_line e.shared.display ++ result_line name e.result e.line
    ∷ (if e.shared.spoiled then note name (codes ": SPOILED CARD") ∷ [] else [])

-- the line that it printed and didn't complete is printed
abbrev pub ends_program : List ℕ → Ended → Doing
ends_program name e = prints_all (last_line e.shared.print) (Gives (program_answers name e))

-- the ticks that the programs of a command may take together
abbrev pub tick_limit : ℕ
tick_limit = 1000000

abbrev pub first_share : Files → Shared
first_share all = record {
  files = all;
  input = None;
  spoiled = false;
  typed = [];
  display = [];
  print = [];
}

abbrev pub runs_loaded : Option Runner → List ℕ → List Arg → Files → Loaded → Doing
runs_loaded (Some run) name args all (load.Code code) =
    and_then (run code tick_limit (begins_with args) (first_share all)) (ends_program name)
runs_loaded None name args all (load.Code code) = Gives []
runs_loaded run name args all load.NoFile = Gives (no_file_line name ∷ [])
runs_loaded run name args all load.NotCode = Gives (not_code_line name ∷ [])
runs_loaded run name args all (load.BadCode at) = Gives (bad_code_line name at ∷ [])

-- ---- Each command

abbrev pub does : Command → Files → Doing
does (command.Copy from to) all = copies all from to
does (command.Compile from to) all = compiles all from to
does command.List all = lists all
does (command.Delete name) all = deletes all name
does (command.Rename old new) all = renames all old new
does (command.Protect name on) all = protects all name on
does (command.Program name args) all = runs_loaded (runner program_room) name args all (program_of all name)

abbrev pub done_if : Said → Files → Option Doing
done_if Blank all = None
done_if (Asks asked) all = Some (does asked all)
done_if Bad all = Some (Gives (codes "BAD COMMAND" ∷ []))

-- what a typed line does; a blank one does nothing
abbrev pub line_does : Item → Files → Option Doing
line_does item all = done_if (item_says item) all
