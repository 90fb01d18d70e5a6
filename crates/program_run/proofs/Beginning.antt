-- A program command, by what its file is loaded as.
use Rattle.std.proofs.Common.{◌≡◌, inl, inr, ℕ, ◌+◌, List, [], ◌∷◌, Option, Some, Result, Ok, Err, refl, sym, ◌∙◌, ap, subst, arith}
use Rattle.solo_base.specs.declared.system_call.Arg.{Arg}
use Rattle.disk_layout.specs.Files.{Files, files}
use Rattle.disk_contents.specs.Loading.{program_of}
use Rattle.disk_system.specs.Loading.{FindsSo}
use Rattle.disk_contents.specs.declared.loading.Loaded.{Loaded}
use Rattle.disk_contents.specs.declared.loading.Loaded.TheVariants as load
use Rattle.disk_system.specs.declared.loading.LoadFault.{LoadFault}
use Rattle.file_commands.specs.declared.fault.CommandFault.{CommandFault}
use Rattle.file_commands.specs.declared.fault.CommandFault.TheVariants.{DiskFault, NoMemory}
use Rattle.stack_code.specs.CodeLists.{CodeLists}
use Rattle.program_task.specs.Task.{Gives}
use Rattle.program_task.specs.Program.{Runner, begins_with}
use Rattle.program_task.specs.Run.{runner, program_room, run_for}
use Rattle.stack_machine.specs.Left.{left_until_end}
use Rattle.stack_machine.specs.Machine.{start_state}
use Rattle.prog_stack.specs.declared.frame.Frame.{Frame}
use Rattle.prog_stack.specs.Answers.{Hand}
use Rattle.prog_stack.specs.Programs.{begun}
use Rattle.prog_stack.specs.Callers.{TopBegins}
use Rattle.prog_stack.proofs.Measure.{begins_within}
use Rattle.prog_stack.proofs.Steps.{begins}
use Rattle.solo_task.specs.Doing.{runs_loaded, tick_limit, first_share}
use Rattle.program_run.specs.Sight.{Sight, IsLeftOf, IsUnderWay, at_beginning}
use Rattle.program_run.specs.Beginning.{RunsCode, TellsOf, BeginsSo}
use Rattle.program_run.specs.Work.{Begins}
use Rattle.program_run.specs.declared.program_run.Begun.{Begun}
use Rattle.program_run.specs.declared.program_run.Begun.TheVariants.{Runs, Answer}

pub begun_way : (name : List ℕ) (args : List Arg) (code : CodeLists) (programs rest : List Frame) (hand : Hand) → programs ≡ begun code tick_limit args ∷ rest → rest ≡ []
    → TopBegins programs → IsUnderWay (record { name = name; programs = programs; hand = hand })
begun_way name args code programs rest hand some none begins =
    let is : programs ≡ begun code tick_limit args ∷ [] = some ∙ ap (λ l. begun code tick_limit args ∷ l) none in
    let first = subst TopBegins is begins in
    subst (λ l. IsUnderWay (record { name = name; programs = l; hand = hand })) (sym is)
    (record { there = tt; stack = (omega arith, tt); within = (begins_within code tick_limit args first.1, tt) })

-- ---- By what is found

found_is : (found loaded : Loaded) (r : Result Loaded LoadFault) → r ≡ Ok loaded → FindsSo r found → found ≡ loaded
found_is found loaded (Ok other) is (inl fails) = absurd cc
found_is found loaded (Ok other) is (inr (inl fails)) = absurd cc
found_is found loaded (Ok other) is (inr (inr same)) = cc
found_is found loaded (Err fault) is finds = absurd cc

-- the lowest program of a stack
top_runner : Runner
top_runner = λ c limit own w. run_for (left_until_end c limit (start_state c) + 1) (runner 4) c limit (start_state c) own w

begun_left : (name : List ℕ) (args : List Arg) (code : CodeLists) (all : Files) → TopBegins (at_beginning name args code).programs
    → IsLeftOf (at_beginning name args code) all (runs_loaded (runner program_room) name args all (load.Code code))
unfolding top_runner
begun_left name args code all begun = record {
  task = top_runner code tick_limit (begins_with args) (first_share all);
  left = begins program_room code tick_limit args (first_share all) top_runner begun.0 refl;
  is = refl;
}

runs_code : (name : List ℕ) (args : List Arg) (all : Files) (found loaded : Loaded) (program : Sight) → found ≡ loaded → RunsCode name args loaded program
    → IsLeftOf program all (runs_loaded (runner program_room) name args all found)
runs_code name args all found loaded program same is =
    let begun = subst (λ (s : Sight). TopBegins s.programs) is.is is.well in
    subst (λ s. IsLeftOf s all (runs_loaded (runner program_room) name args all found)) (sym is.is)
    (subst (λ l. IsLeftOf (at_beginning name args is.code) all (runs_loaded (runner program_room) name args all l)) (sym (same ∙ is.found))
    (begun_left name args is.code all begun))

tells_line : (name : List ℕ) (args : List Arg) (all : Files) (loaded : Loaded) (line : List ℕ) → TellsOf name loaded line
    → runs_loaded (runner program_room) name args all loaded ≡ Gives (line ∷ [])
tells_line name args all (load.Code code) line is = absurd is
tells_line name args all load.NoFile line is = ap (λ l. Gives (l ∷ [])) (sym is)
tells_line name args all load.NotCode line is = ap (λ l. Gives (l ∷ [])) (sym is)
tells_line name args all (load.BadCode at) line is = ap (λ l. Gives (l ∷ [])) (sym is)

pub begins_of : (name : List ℕ) (args : List Arg) (before : Option (List (List ℕ))) (r : Result Loaded LoadFault) (loaded : Loaded) (result : Result Begun CommandFault) → r ≡ Ok loaded
    → BeginsSo name args loaded result → ((pages : List (List ℕ)) → before ≡ Some pages → FindsSo r (program_of (files pages) name)) → Begins name args before result
begins_of name args before r loaded (Ok (Runs program)) is begun finds = (
  begun.under_way,
  λ pages told. runs_code name args (files pages) (program_of (files pages) name) loaded program
      (found_is (program_of (files pages) name) loaded r is (finds pages told)) begun,
)
begins_of name args before r loaded (Ok (Answer line)) is tells finds =
    λ pages told. ap (runs_loaded (runner program_room) name args (files pages)) (found_is (program_of (files pages) name) loaded r is (finds pages told))
    ∙ tells_line name args (files pages) loaded line tells
begins_of name args before r loaded (Err fault) is begun finds = tt

-- only memory lacks where a program was loaded
pub only_memory : (name : List ℕ) (args : List Arg) (loaded : Loaded) (fault : CommandFault) → BeginsSo name args loaded (Err fault) → fault ≡ NoMemory
only_memory name args loaded NoMemory begun = refl
only_memory name args loaded DiskFault begun = absurd begun
