-- What a program command begins with, by what its file is loaded as.
use Rattle.std.specs.Prelude.{◌≡◌, ℕ, List, Result, Ok, Err}
use Rattle.solo_base.specs.declared.system_call.Arg.{Arg}
use Rattle.stack_code.specs.CodeLists.{CodeLists}
use Rattle.disk_contents.specs.declared.loading.Loaded.{Loaded}
use Rattle.disk_contents.specs.declared.loading.Loaded.TheVariants as load
use Rattle.file_commands.specs.declared.fault.CommandFault.{CommandFault}
use Rattle.file_commands.specs.declared.fault.CommandFault.TheVariants.{DiskFault, NoMemory}
use Rattle.code_law.specs.Texts.{no_file_line, not_code_line, bad_code_line}
use Rattle.prog_stack.specs.Callers.{TopBegins}
use Rattle.program_run.specs.Sight.{Sight, at_beginning, IsUnderWay}
use Rattle.program_run.specs.declared.program_run.Begun.{Begun}
use Rattle.program_run.specs.declared.program_run.Begun.TheVariants.{Runs, Answer}

-- good code is run
pub record RunsCode (name : List ℕ) (args : List Arg) (loaded : Loaded) (program : Sight) : Type 0 where
  pub code : CodeLists
  pub found : loaded ≡ load.Code code
  pub is : program ≡ at_beginning name args code
  pub under_way : IsUnderWay program
  pub well : TopBegins program.programs

-- of anything else this line tells
abbrev pub TellsOf : List ℕ → Loaded → List ℕ → Type 0
TellsOf name load.NoFile line = line ≡ no_file_line name
TellsOf name load.NotCode line = line ≡ not_code_line name
TellsOf name (load.BadCode at) line = line ≡ bad_code_line name at
TellsOf name (load.Code code) line = ⊥

-- only memory may lack then
abbrev pub BeginsSo : List ℕ → List Arg → Loaded → Result Begun CommandFault → Type 0
BeginsSo name args loaded (Ok (Runs program)) = RunsCode name args loaded program
BeginsSo name args loaded (Ok (Answer line)) = TellsOf name loaded line
BeginsSo name args loaded (Err NoMemory) = Unit {0}
BeginsSo name args loaded (Err DiskFault) = ⊥
