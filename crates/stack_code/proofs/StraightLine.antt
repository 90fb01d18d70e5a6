-- The height of the operand stack, one step along the straight line of a routine.
use Rattle.std.proofs.Common.{◌≡◌, ℕ, ◌+◌, ◌-◌, cond, eqb, refl, ◌∙◌, add-one}
use Rattle.std.proofs.lemmas.Bool.{cond-true, cond-false, eq-eqb, ne_eqb}
use Rattle.stack_code.specs.CodeLists.{CodeLists, instr_at}
use Rattle.stack_code.specs.Rules.{routine_of, pops, pushes, height_at}

pub height_at_next : (c : CodeLists) (place : ℕ) → height_at c (place + 1) ≡ cond (eqb (routine_of c (place + 1)) (routine_of c place)) (height_at c place - pops c (instr_at c place).op (instr_at c place).a + pushes c (instr_at c place).op (instr_at c place).a) 0
unfolding height_at
height_at_next c place = rw add-one refl

pub height_goes_on : (c : CodeLists) (place : ℕ) → routine_of c (place + 1) ≡ routine_of c place → height_at c (place + 1) ≡ height_at c place - pops c (instr_at c place).op (instr_at c place).a + pushes c (instr_at c place).op (instr_at c place).a
height_goes_on c place same = height_at_next c place ∙ cond-true (eqb (routine_of c (place + 1)) (routine_of c place)) _ _ (eq-eqb _ _ same)

pub height_begins : (c : CodeLists) (place : ℕ) → (routine_of c (place + 1) ≡ routine_of c place → ⊥) → height_at c (place + 1) ≡ 0
height_begins c place other = height_at_next c place ∙ cond-false (eqb (routine_of c (place + 1)) (routine_of c place)) _ _ (ne_eqb _ _ other)

pub height_at_start : (c : CodeLists) → 0 ≡ height_at c 0
unfolding height_at
height_at_start c = refl
