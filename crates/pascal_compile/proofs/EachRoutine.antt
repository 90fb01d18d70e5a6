-- Routine after routine.
use Rattle.std.proofs.Common.{◌≡◌, ℕ, zero, suc, ◌+◌, ◌≤◌, List, [], ◌∷◌, ◌++◌, length, drop, Some, refl, sym, ap, ap₂, ◌∙◌, add-one, append_assoc, arith}
use Rattle.std.specs.Prelude.{slice_get}
use Rattle.std.proofs.Math.ListN.{drop_of_length-le}
use Rattle.std.proofs.lemmas.List.{length-append}
use Rattle.std.proofs.lemmas.Option.{none-some, same_Some}
use Rattle.stack_code.specs.declared.instr.Instr.{Instr}
use Rattle.stack_code.specs.declared.instr.RoutineInfo.{RoutineInfo}
use Rattle.stack_code.specs.CodeLists.{CodeLists}
use Rattle.pascal_tree.specs.Program.{Routine, Program}
use Rattle.pascal_mean.specs.Predeclared.{Item}
use Rattle.pascal_mean.specs.Declarations.{heading_item, global_items}
use Rattle.pascal_code.specs.Senses.{Framed, framed_after, all_framed}
use Rattle.pascal_code.specs.Code.{routine_code, routine_info, instrs_from, infos_from}
use Rattle.pascal_compile.specs.Infos.{without_height, without_heights}
use Rattle.pascal_compile.proofs.RoutineFrames.{framed_there}
use Rattle.pascal_compile.proofs.RoutineReady.{the_routine}

drop_next : {A : Type 0} (xs : List A) (j : ℕ) (x : A) → slice_get xs j ≡ Some x → drop j xs ≡ x ∷ drop (suc j) xs
drop_next [] j x is = absurd (none-some x is)
drop_next (y ∷ more) zero x is = ap (λ z. z ∷ more) (same_Some y x is)
drop_next (y ∷ more) (suc j) x is = drop_next more j x is

-- the routine that comes next
pub next_routine : (p : Program) (j : ℕ) (r : Routine) → slice_get p.routines j ≡ Some r
    → drop j (framed_after 1 (global_items p) p.routines) ≡ the_routine p j r ∷ drop (j + 1) (framed_after 1 (global_items p) p.routines)
next_routine p j r is =
    let all = framed_after 1 (global_items p) p.routines in
    drop_next all j (the_routine p j r) (ap (slice_get (all_framed p)) (sym (add-one j)) ∙ framed_there p j r is)
    ∙ ap (λ (n : ℕ). the_routine p j r ∷ drop n all) (sym (add-one j))

as_many_framed : (k : ℕ) (known : List Item) (rs : List Routine) → length (framed_after k known rs) ≡ length rs
as_many_framed k known [] = refl
as_many_framed k known (r ∷ more) = ap suc (as_many_framed (k + 1) (heading_item k known r ∷ known) more)

-- behind the last routine
pub routines_end : (p : Program) (j : ℕ) → length p.routines ≤ j → drop j (framed_after 1 (global_items p) p.routines) ≡ []
routines_end p j far =
    drop_of_length-le (framed_after 1 (global_items p) p.routines) (omega (arith, as_many_framed 1 (global_items p) p.routines, far))

pub code_then : (old new : List Instr) (s : Framed) (more : List Framed) → new ≡ old ++ routine_code s (length old)
    → new ++ instrs_from more (length new) ≡ old ++ instrs_from (s ∷ more) (length old)
code_then old new s more is =
    let code = routine_code s (length old) in
    ap (λ (n : List Instr). n ++ instrs_from more (length n)) is
    ∙ ap (λ (n : ℕ). (old ++ code) ++ instrs_from more n) (length-append old code)
    ∙ append_assoc old code (instrs_from more (length old + length code))

pub infos_then : (calling : CodeLists) (before after : List RoutineInfo) (old new : List Instr) (s : Framed) (more : List Framed)
    → new ≡ old ++ routine_code s (length old)
    → after ≡ before ++ without_height (routine_info calling s (length old) (routine_code s (length old))) ∷ []
    → after ++ without_heights (infos_from calling more (length new)) ≡ before ++ without_heights (infos_from calling (s ∷ more) (length old))
infos_then calling before after old new s more is told =
    let code = routine_code s (length old) in
    let info = without_height (routine_info calling s (length old) code) in
    ap₂ (λ (i : List RoutineInfo) (n : ℕ). i ++ without_heights (infos_from calling more n)) told (ap length is ∙ length-append old code)
    ∙ append_assoc before (info ∷ []) (without_heights (infos_from calling more (length old + length code)))
