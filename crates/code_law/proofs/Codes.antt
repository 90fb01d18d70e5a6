-- The code of a program that breaks no rule is code: it has routines and instructions, not too many of them, and operands that it doesn't use are 0.
use Rattle.std.proofs.Common.{◌≡◌, ℕ, suc, ◌+◌, ◌≤◌, ◌<◌, List, [], ◌∷◌, ◌++◌, length, Some, None, refl, ◌∙◌, ap, arith}
use Rattle.std.specs.Prelude.{nat_le, is_some}
use Rattle.std.proofs.lemmas.Bool.{leb-false}
use Rattle.stack_code.specs.CodeLists.{IsCode}
use Rattle.pascal_tree.specs.Limits.{IsTree}
use Rattle.pascal_tree.specs.Program.{Routine, procedure, function, Program}
use Rattle.pascal_tree.specs.Scopes.{Scope, found}
use Rattle.pascal_tree.specs.ExpressionRules.{breaks}
use Rattle.pascal_tree.specs.StatementRules.{judged_body}
use Rattle.pascal_tree.specs.DeclarationRules.{all_groups, inside, behind_parameters, behind_consts, behind_vars, behind_heading, behind_routines, block_scope, judged_consts, judged_vars, judged_type_name, judged_parameter_groups, judged_block, judged_routine, judged_routines, empty_scope, first_broken, broken}
use Rattle.pascal_check.proofs.Unbroken.{before, behind, tested}
use Rattle.pascal_mean.specs.Predeclared.{Item}
use Rattle.pascal_mean.specs.Declarations.{heading_item, global_items}
use Rattle.pascal_code.specs.Senses.{framed_program, framed_after}
use Rattle.pascal_code.specs.Code.{code_of}
use Rattle.code_law.proofs.Ranges.{some_code, ends_inside, as_many_routines}
use Rattle.code_law.proofs.Operands.{operands_used}

-- ---- How many routines

few_before : (s : Scope) (count : ℕ) (r : Routine) → first_broken (judged_routine s count r) ≡ None → count < 254
few_before s count (procedure l x p c b e) none =
    let block = judged_block (block_scope s (procedure l x p c b e) p None) b in
    let seven = breaks 7 (nat_le 254 count) x.line in
    let new = breaks 1 (is_some (found s.own x.letters)) x.line in
    let groups = judged_parameter_groups (inside s) (all_groups p) in
    leb-false 254 count (tested 7 x.line (nat_le 254 count) block (behind (new ∷ []) (seven ∷ block) (behind groups (new ∷ (seven ∷ block)) none))).0
few_before s count (function l x p c t d b e) none =
    let block = judged_block (block_scope s (function l x p c t d b e) p (Some x.letters)) b in
    let seven = breaks 7 (nat_le 254 count) x.line in
    let type = judged_type_name (behind_parameters s p) t in
    let new = breaks 1 (is_some (found s.own x.letters)) x.line in
    let groups = judged_parameter_groups (inside s) (all_groups p) in
    leb-false 254 count (tested 7 x.line (nat_le 254 count) block
    (behind (new ∷ (type ∷ [])) (seven ∷ block) (behind groups (new ∷ (type ∷ (seven ∷ block))) none))).0

few_declared : (routines : List Routine) (s : Scope) (count : ℕ) → count ≤ 254 → first_broken (judged_routines s count routines) ≡ None
    → count + length routines ≤ 254
few_declared [] s count few none = omega (arith, few)
few_declared (r ∷ more) s count few none =
    let first = judged_routine s count r in
    let others = judged_routines (behind_heading s r) (count + 1) more in
    let low = few_before s count r (before first others none) in
    omega (arith, few_declared more (behind_heading s r) (count + 1) (omega (arith, low)) (behind first others none))

pub few_routines : (p : Program) → broken p ≡ None → length p.routines ≤ 254
unfolding broken
few_routines p none =
    let constants = behind_consts empty_scope p.consts in
    let variables = behind_vars constants p.vars in
    let first = judged_consts empty_scope p.consts in
    let second = judged_vars constants p.vars in
    let third = judged_routines variables 0 p.routines in
    let last = judged_body (behind_routines variables p.routines) p.body in
    omega (
      arith,
      few_declared p.routines variables 0 (omega arith)
          (before third last (behind second (third ++ last) (behind first (second ++ (third ++ last)) none))),
    )

framed_routines : (k : ℕ) (known : List Item) (routines : List Routine) → length (framed_after k known routines) ≡ length routines
framed_routines k known [] = refl
framed_routines k known (r ∷ more) = ap suc (framed_routines (k + 1) (heading_item k known r ∷ known) more)

pub count_routines : (p : Program) → length (code_of p).routines ≡ suc (length p.routines)
count_routines p = as_many_routines p ∙ ap suc (framed_routines 1 (global_items p) p.routines)

-- the law
pub code_is : (p : Program) → IsTree p → broken p ≡ None → length (code_of p).instrs ≤ 8192 → IsCode (code_of p)
code_is p tree none few = record {
  some_routine = omega (arith, count_routines p);
  few_routines = omega (arith, count_routines p, few_routines p none);
  some_instr = omega (arith, some_code p 0 (framed_program p), ends_inside p 0 (framed_program p) refl);
  few_instrs = few;
  operands = operands_used p;
}
