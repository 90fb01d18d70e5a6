-- What good code of a program gives: no broken record, low heights, low targets of jumps.
use Rattle.std.proofs.Common.{◌≡◌, ℕ, ◌<◌, ◌≤◌, ◌^◌, true, not, length, Some, None, ap, subst, ◌∙◌, arith}
use Rattle.std.specs.Prelude.{slice_get}
use Rattle.std.specs.Option.{option_map}
use Rattle.std.proofs.lemmas.Bool.{false≢true, leb-true, ltb-true, and_parts}
use Rattle.std.proofs.lemmas.Option.{slice_get_within, get_or_from_slice_get}
use Rattle.stack_code.specs.declared.table.Op.{Op}
use Rattle.stack_code.specs.declared.table.Op.TheVariants as op
use Rattle.stack_code.specs.declared.instr.Instr.{Instr}
use Rattle.stack_code.specs.CodeLists.{CodeLists, IsCode, routine_at, instr_at, no_instr}
use Rattle.stack_code.specs.Rules.{IsGood, routine_is_good, instr_is_good, routine_record, instr_record, broken_routine, broken_instr, first_of, broken_record, is_jump, operands_fit}
use Rattle.stack_code.proofs.Least.{none_passes}
use Rattle.pascal_compile.specs.LowTargets.{HasLowTarget}

-- no record of good code is broken
pub good_unbroken : (c : CodeLists) → IsGood c → broken_record c ≡ None
unfolding broken_record
good_unbroken c good =
    let routines : broken_routine c ≡ None = none_passes (λ k. not (routine_is_good c k)) 0 (length c.routines)
    (λ k _ below. ap not (good.routines k (omega (arith, below)))) in
    let instrs : broken_instr c ≡ None = none_passes (λ place. not (instr_is_good c place)) 0 (length c.instrs)
    (λ place _ below. ap not (good.instrs place (omega (arith, below)))) in
    ap (λ o. first_of (option_map routine_record o) (option_map (instr_record c) (broken_instr c))) routines
    ∙ ap (λ o. option_map (instr_record c) o) instrs

-- a routine's height fits 16 bits
pub height_fits : (c : CodeLists) → IsGood c → (k : ℕ) → k < length c.routines → (routine_at c k).height < 2 ^ 16
height_fits c good k within =
    let low : (routine_at c k).height ≤ 1536 = leb-true (routine_at c k).height 1536 (and_parts _ _ (good.routines k within)).1 in
    omega (arith, low)

-- a jump whose operands fit leads into the code
jump_inside : (c : CodeLists) (place : ℕ) (o : Op) (a b : ℕ) → operands_fit c place o a b ≡ true → is_jump o ≡ true → a < length c.instrs
jump_inside c place op.Jump a b fits jumps = ltb-true a (length c.instrs) (and_parts _ _ (and_parts _ _ fits).0).0
jump_inside c place op.JumpF a b fits jumps = ltb-true a (length c.instrs) (and_parts _ _ (and_parts _ _ fits).0).0
jump_inside c place other a b fits jumps = absurd (false≢true jumps)

-- jumps of good code lead to places of 16 bits
pub low_targets : (c : CodeLists) → IsCode c → IsGood c → (place : ℕ) (i : Instr) → slice_get c.instrs place ≡ Some i → HasLowTarget i
low_targets c code good place i is jumps =
    let here : instr_at c place ≡ i = get_or_from_slice_get c.instrs place i no_instr is in
    let is_good = good.instrs place (slice_get_within c.instrs place i is) in
    let fits = (and_parts _ _ (and_parts _ _ (and_parts _ _ (and_parts _ _ is_good).0).0).0).1 in
    let inside = jump_inside c place i.op i.a i.b (subst (λ (j : Instr). operands_fit c place j.op j.a j.b ≡ true) here fits) jumps in
    omega (arith, inside, code.few_instrs)
