-- The session of a program that runs itself: each level goes on to its call of RUN, and does what the level above it does.
use Rattle.std.proofs.Common.{◌≡◌, ℕ, zero, suc, ◌+◌, ◌-◌, ◌≤◌, true, List, [], ◌∷◌, map, Option, None, refl, sym, ◌∙◌, ap, subst, lit≤}
use Rattle.std.specs.Prelude.{codes, pos}
use Rattle.std.specs.Fmt.{digits}
use Rattle.solo_base.specs.declared.item.Item.{Item}
use Rattle.solo_base.specs.declared.outcome.ProgResult.TheVariants as result
use Rattle.solo_base.specs.declared.system_call.SysCall.TheVariants as calls
use Rattle.disk_layout.specs.Files.{Files}
use Rattle.disk_contents.specs.Loading.{program_of}
use Rattle.disk_contents.specs.declared.loading.Loaded.{Loaded}
use Rattle.disk_contents.specs.declared.loading.Loaded.TheVariants.{Code}
use Rattle.stack_machine.specs.States.{State}
use Rattle.stack_machine.specs.State.{Asks}
use Rattle.stack_machine.specs.Machine.{effect, next, answered, start_state}
use Rattle.stack_machine.specs.Left.{left_until_end}
use Rattle.pascal_tree.specs.Program.{Program}
use Rattle.pascal_code.specs.Code.{code_of}
use Rattle.code_law.specs.Compiling.{compiling, compiled}
use Rattle.program_task.specs.Task.{Task, Gives, Prints, and_then}
use Rattle.program_task.specs.Program.{Answer, Ended, Runner, begins_with}
use Rattle.program_task.specs.Table.{runs, runs_nothing, returned}
use Rattle.program_task.specs.Run.{run_for, runner, program_room}
use Rattle.solo_task.specs.Doing.{runs_loaded, ends_program, first_share}
use Rattle.solo_task.specs.Session.{SoloWorld, Transcript, and_told, changed, command_told, world_after, lines_told, opening, session}
use Rattle.solo_task.specs.Answers.{Doing}
use Rattle.solo_task.specs.Rows.{lines_of, told_over}
use Rattle.solo_task.specs.WholeRows.{DeepRows, deep_name, deep_lines}
use Rattle.solo_task.proofs.RunsOn.{goes_by, all_go, run-to-call}
use Rattle.solo_task.proofs.DeepProgram.{deep_program, deep_code, deep-compiles, deep-code}

-- what so many levels below the last one do: the deepest writes 6, and each of the others 0
abbrev writes_zeros : ℕ → ℕ → Files → Task Ended
writes_zeros zero ticks all =
    Gives (record { result = result.Terminated; line = 4; ticks = ticks; outgoing = []; shared = first_share all })
writes_zeros (suc n) ticks all = Prints (codes "0") (writes_zeros n ticks all)

abbrev deep_task : ℕ → ℕ → Files → Task Ended
deep_task n ticks all = Prints (codes "6") (writes_zeros n ticks all)

abbrev first_state : State
first_state = start_state deep_code

-- 218 instructions stand before the call
abbrev at_call : ℕ → State
at_call limit = goes_by 218 deep_code limit first_state

abbrev fuel : ℕ → ℕ
fuel limit = left_until_end deep_code limit first_state + 1

module _ (all : Files) (e : program_of all deep_name ≡ Code deep_code) where
  -- one level, by what its RUN comes to
  one-level : (deeper : Option Runner) (limit left : ℕ) (called : Task Answer) (ends : Task Ended) → 219 ≤ fuel limit
      → all_go 218 deep_code limit first_state ≡ true
      → next deep_code limit (at_call limit) ≡ Asks (calls.Run (map pos deep_name) left) (at_call limit)
      → runs deeper left (Code deep_code) (begins_with []) (first_share all) ≡ called
      → and_then called (λ a. run_for (fuel limit - 219) deeper deep_code limit (answered deep_code (at_call limit) a.reply) a.own a.shared) ≡ ends
      → run_for (fuel limit) deeper deep_code limit first_state (begins_with []) (first_share all) ≡ ends
  one-level deeper limit left called ends most go asks is behind =
      let rest : Answer → Task Ended = λ a. run_for (fuel limit - 219) deeper deep_code limit (answered deep_code (at_call limit) a.reply) a.own a.shared in
      run-to-call 218 (fuel limit) deeper deep_code limit first_state (begins_with []) (first_share all) (calls.Run (map pos deep_name) left) most go asks
      ∙ ap (λ load. and_then (runs deeper left load (begins_with []) (first_share all)) rest) e
      ∙ ap (λ t. and_then t rest) is ∙ behind

  abbrev Level : ℕ → ℕ → ℕ → ℕ → Type 0
  Level room limit n ticks = run_for (fuel limit) (runner room) deep_code limit first_state (begins_with []) (first_share all) ≡ deep_task n ticks all

  abbrev called : Task Ended → Task Answer
  called t = and_then t (λ e. Gives (returned (begins_with []) e))

  level-1 : Level 0 999880 0 32
  unfolding effect next answered digits
  level-1 = one-level None 999880 999850 (runs_nothing (begins_with []) (first_share all)) (deep_task 0 32 all) (lit≤ tt) refl refl refl refl

  level-2 : Level 1 999910 1 64
  unfolding effect next answered digits
  level-2 = one-level (runner 1) 999910 999880 (called (deep_task 0 32 all)) (deep_task 1 64 all) (lit≤ tt) refl refl (ap called level-1) refl

  level-3 : Level 2 999940 2 96
  unfolding effect next answered digits
  level-3 = one-level (runner 2) 999940 999910 (called (deep_task 1 64 all)) (deep_task 2 96 all) (lit≤ tt) refl refl (ap called level-2) refl

  level-4 : Level 3 999970 3 128
  unfolding effect next answered digits
  level-4 = one-level (runner 3) 999970 999940 (called (deep_task 2 96 all)) (deep_task 3 128 all) (lit≤ tt) refl refl (ap called level-3) refl

  level-5 : Level 4 1000000 4 160
  unfolding effect next answered digits
  level-5 = one-level (runner 4) 1000000 999970 (called (deep_task 3 128 all)) (deep_task 4 160 all) (lit≤ tt) refl refl (ap called level-4) refl

same-program : (a b : Program) → compiled a ≡ compiled b → a ≡ b
same-program a b e = cc

abbrev tells : Files → Doing → SoloWorld → Transcript
tells all doing w = changed all (and_told (command_told doing w) (lines_told 0 (world_after doing w)))

deep : (cards : List Item) (all : Files) (program : Program) → compiling deep_lines ≡ compiled program → program_of all deep_name ≡ Code (code_of program)
    → session (lines_of (codes "deep" ∷ [])) cards all
    ≡ told_over all (codes "DEEP: TERMINATED" ∷ []) (codes "6" ∷ codes "0" ∷ codes "0" ∷ codes "0" ∷ codes "0" ∷ [])
deep cards all program is load =
    let same = same-program program deep_program (sym is ∙ deep-compiles) in
    let loaded : program_of all deep_name ≡ Code deep_code = load ∙ ap Code (ap code_of same ∙ deep-code) in
    let expected : Transcript = told_over all (codes "DEEP: TERMINATED" ∷ []) (codes "6" ∷ codes "0" ∷ codes "0" ∷ codes "0" ∷ codes "0" ∷ []) in
    let w : SoloWorld = opening [] cards all in
    let P : Loaded → Type 0 = λ load. tells all (runs_loaded (runner program_room) deep_name [] all load) w ≡ expected in
    let Q : Task Ended → Type 0 = λ t. tells all (and_then t (ends_program deep_name)) w ≡ expected in
    subst P (sym loaded) (subst Q (sym (level-5 all loaded)) refl)

pub deep-rows : DeepRows
deep-rows = record { deep = deep; compiles = (deep_program, deep-compiles) }
