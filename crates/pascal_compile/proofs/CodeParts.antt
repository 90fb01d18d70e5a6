-- What was emitted for a program becomes its code.
use Rattle.std.proofs.Common.{◌≡◌, ℕ, ◌+◌, ◌<◌, ◌≤◌, List, [], ◌∷◌, ◌++◌, length, Some, None, Result, Err, sym, ap, ap₂, subst, ◌∙◌, arith}
use Rattle.std.specs.Prelude.{slice_get}
use Rattle.stack_code.specs.declared.instr.Instr.{Instr}
use Rattle.stack_code.specs.declared.instr.RoutineInfo.{RoutineInfo}
use Rattle.pascal_tree.specs.Program.{Program}
use Rattle.pascal_tree.specs.Limits.{IsTree}
use Rattle.pascal_tree.specs.DeclarationRules.{broken}
use Rattle.pascal_mean.specs.Declarations.{global_items}
use Rattle.pascal_code.specs.Senses.{framed_program, framed_after, all_framed}
use Rattle.pascal_code.specs.Code.{routine_code, routine_info, calling_infos, instrs_from, infos_from, code_of}
use Rattle.pascal_code.specs.Size.{size}
use Rattle.pascal_code.proofs.SizesOfPrograms.{program_sized}
use Rattle.code_law.specs.Law.{Compiles}
use Rattle.code_law.proofs.Lawful.{code_is_code, code_is_good}
use Rattle.pascal_compile.specs.Infos.{without_height, without_heights}
use Rattle.pascal_compile.specs.LowTargets.{HasLowTarget}
use Rattle.pascal_compile.specs.WithHeights.{called_in, with_heights, HaveHeights, AreEmitted}
use Rattle.pascal_compile.proofs.GoodCode.{low_targets}
use Rattle.pascal_compile.proofs.RoutineHeights.{found_heights, fitting_heights}

-- ---- From what was emitted to the code

pub emitted_low : (p : Program) (instrs : List Instr) (infos : List RoutineInfo) → Compiles p → AreEmitted p instrs infos
    → (place : ℕ) (i : Instr) → slice_get instrs place ≡ Some i → HasLowTarget i
emitted_low p instrs infos is emitted place i at =
    low_targets (code_of p) (code_is_code p is) (code_is_good p is) place i (ap (λ (l : List Instr). slice_get l place) (sym emitted.instrs_are) ∙ at)

pub emitted_fit : (p : Program) (instrs given : List Instr) (infos : List RoutineInfo) → Compiles p → AreEmitted p instrs infos → given ≡ instrs
    → HaveHeights (called_in infos) given infos
emitted_fit p instrs given infos is emitted same =
    let are : given ≡ (code_of p).instrs = same ∙ emitted.instrs_are in
    rw are (rw emitted.infos_are (fitting_heights p (code_is_good p is)))

pub emitted_routines : (p : Program) (instrs given : List Instr) (infos list : List RoutineInfo) → AreEmitted p instrs infos → given ≡ instrs
    → list ≡ with_heights (called_in infos) given infos → list ≡ (code_of p).routines
emitted_routines p instrs given infos list emitted same is =
    is ∙ ap₂ (λ (i : List Instr) (r : List RoutineInfo). with_heights (called_in r) i r) (same ∙ emitted.instrs_are) emitted.infos_are ∙ found_heights p

pub made_of : (p : Program) (routines : List RoutineInfo) (instrs : List Instr) → routines ≡ (code_of p).routines → instrs ≡ (code_of p).instrs
    → record { routines = routines; instrs = instrs } ≡ code_of p
made_of p routines instrs r i = ap₂ (λ (x : List RoutineInfo) (y : List Instr). record { routines = x; instrs = y }) r i

-- ---- From a program to what is emitted for it

-- the instructions and routines of the program itself, and behind these those of its routines
pub record Emission (p : Program) (own_instrs all_instrs : List Instr) (own_infos all_infos : List RoutineInfo) : Type 0 where
  pub own_instrs_are : own_instrs ≡ routine_code (framed_program p) 0
  pub own_infos_are : own_infos
      ≡ without_height (routine_info (calling_infos (all_framed p)) (framed_program p) 0 (routine_code (framed_program p) 0)) ∷ []
  pub all_instrs_are : all_instrs ≡ own_instrs ++ instrs_from (framed_after 1 (global_items p) p.routines) (length own_instrs)
  pub all_infos_are : all_infos ≡ own_infos ++ without_heights (infos_from
      (calling_infos (all_framed p)) (framed_after 1 (global_items p) p.routines) (length own_instrs))

own_length : (p : Program) (own : List Instr) → own ≡ routine_code (framed_program p) 0 → length own ≡ 0 + length (routine_code (framed_program p) 0)
own_length p own is = omega (arith, ap length is)

-- with the routines it is the whole code
pub whole_instrs : (p : Program) (own : List Instr) → own ≡ routine_code (framed_program p) 0
    → own ++ instrs_from (framed_after 1 (global_items p) p.routines) (length own) ≡ (code_of p).instrs
unfolding code_of
whole_instrs p own is = ap₂ (λ (l : List Instr) n. l ++ instrs_from (framed_after 1 (global_items p) p.routines) n) is (own_length p own is)

pub are_emitted : (p : Program) (own_instrs all_instrs : List Instr) (own_infos all_infos : List RoutineInfo)
    → Emission p own_instrs all_instrs own_infos all_infos → AreEmitted p all_instrs all_infos
unfolding code_of
are_emitted p own_instrs all_instrs own_infos all_infos e = record {
  instrs_are = e.all_instrs_are ∙ whole_instrs p own_instrs e.own_instrs_are;
  infos_are = e.all_infos_are ∙ ap₂ (λ (l : List RoutineInfo) n. l ++ without_heights (infos_from
      (calling_infos (all_framed p)) (framed_after 1 (global_items p) p.routines) n)) e.own_infos_are (own_length p own_instrs e.own_instrs_are);
}

-- so many instructions are its size
pub emitted_size : (p : Program) (instrs : List Instr) → instrs ≡ (code_of p).instrs → size p ≡ length instrs
emitted_size p instrs is = program_sized p ∙ ap length (sym is)

pub can_compile : (p : Program) (instrs : List Instr) → IsTree p → broken p ≡ None → instrs ≡ (code_of p).instrs → length instrs ≤ 8192 → Compiles p
can_compile p instrs tree unbroken is few = record { tree = tree; unbroken = unbroken; fits = omega (arith, few, emitted_size p instrs is) }

-- ---- What the two emissions say, of a program that is known by another name too

module _ (q : Program) (own all : List Instr) (old own_infos all_infos given : List RoutineInfo)
    (nothing : old ≡ [])
    (own_are : own ≡ routine_code (framed_program q) 0)
    (own_infos_are : own_infos ≡ old
    ++ without_height (routine_info (calling_infos (all_framed q)) (framed_program q) 0 (routine_code (framed_program q) 0)) ∷ [])
    (all_are : all ≡ own ++ instrs_from (framed_after 1 (global_items q) q.routines) (length own))
    (all_infos_are : all_infos ≡ own_infos ++ without_heights (infos_from
    (calling_infos (all_framed q)) (framed_after 1 (global_items q) q.routines) (length own)))
    (given_are : given ≡ all_infos) where
  emission_of : Emission q own all own_infos given
  emission_of = record {
    own_instrs_are = own_are;
    own_infos_are = own_infos_are ∙ ap (λ (l : List RoutineInfo). l
        ++ without_height (routine_info (calling_infos (all_framed q)) (framed_program q) 0 (routine_code (framed_program q) 0)) ∷ []) nothing;
    all_instrs_are = all_are;
    all_infos_are = given_are ∙ all_infos_are;
  }

  pub emitted_for : (p : Program) → q ≡ p → AreEmitted p all given
  emitted_for p same = subst (λ (r : Program). AreEmitted r all given) same (are_emitted q own all own_infos given emission_of)

-- where the routines' code is the last that is emitted, a code that is too long tells of the size
pub too_long : (p q : Program) (own : List Instr) → q ≡ p → own ≡ routine_code (framed_program q) 0
    → 8192 < length (own ++ instrs_from (framed_after 1 (global_items q) q.routines) (length own)) → 8192 < size p
too_long p q own same is long =
    subst (λ (r : Program). 8192 < size r) same (omega (arith, long, emitted_size q _ (whole_instrs q own is)))

pub same_fault : {A F : Type 0} (f g : F) → ◌≡◌ {A = Result A F} (Err f) (Err g) → f ≡ g
same_fault f g e = cc
