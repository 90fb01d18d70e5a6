-- What is known of a place, from one place to the next.
use Rattle.std.proofs.Common.{◌≡◌, ℕ, ◌+◌, ◌-◌, ◌<◌, Bool, true, false, not, ◌&&◌, ◌||◌, eqb, None, length, refl, sym, ◌∙◌, ap, arith}
use Rattle.std.proofs.lemmas.Bool.{eqb-true, eqb-false}
use Rattle.stack_code.specs.declared.broken.Along.{Along}
use Rattle.stack_code.specs.CodeLists.{CodeLists, instr_at}
use Rattle.stack_code.specs.Rules.{routine_of, broken_routine, pops, pushes, is_target, is_tick, is_jump}
use Rattle.stack_code.specs.Along.{IsAlong}
use Rattle.stack_code.proofs.StraightLine.{height_goes_on, height_begins, height_at_start}
use Rattle.stack_code.proofs.BehindTick.{is_behind_tick_next, is_behind_tick_start}
use Rattle.stack_code.proofs.Starts.{next_routine, first_routine}

both_stopped : (t x : Bool) → (not t && false && x) ≡ false
both_stopped false x = refl
both_stopped true x = refl

led : (t x : Bool) → (not t && true && x) ≡ (not t && x)
led false x = refl
led true x = refl

-- at the first place
pub along_start : (c : CodeLists) → broken_routine c ≡ None → 0 < length c.routines → IsAlong c 0 (record { routine = 0; height = 0; behind_tick = false })
along_start c none some = record {
  routine = sym (first_routine c none some);
  number = some;
  few = omega arith;
  height = height_at_start c;
  low = omega arith;
  behind_tick = is_behind_tick_start c;
}

-- where another routine begins
pub along_begins : (c : CodeLists) (place : ℕ) (a : Along) → broken_routine c ≡ None → IsAlong c place a → eqb (routine_of c (place + 1)) a.routine ≡ false
    → IsAlong c (place + 1) (record { routine = a.routine + 1; height = 0; behind_tick = false })
along_begins c place a none along other =
    let next = next_routine c a.routine place none (omega (arith, along.number)) (sym along.routine) other in
    let apart : eqb (routine_of c (place + 1)) (routine_of c place) ≡ false = rw (← along.routine) other in
    record {
      routine = next.0;
      number = next.1;
      few = omega (arith, along.few);
      height = sym (height_begins c place (eqb-false _ _ apart));
      low = omega arith;
      behind_tick = sym (is_behind_tick_next c place ∙ rw apart (both_stopped (is_target c (place + 1)) _));
    }

-- where the routine goes on
pub along_goes_on : (c : CodeLists) (place : ℕ) (a : Along) (height : ℕ) (behind : Bool) → IsAlong c place a
    → eqb (routine_of c (place + 1)) a.routine ≡ true
    → height ≡ a.height - pops c (instr_at c place).op (instr_at c place).a + pushes c (instr_at c place).op (instr_at c place).a
    → pushes c (instr_at c place).op (instr_at c place).a < 256
    → behind ≡ (not (is_target c (place + 1)) && (is_tick (instr_at c place).op || (not (is_jump (instr_at c place).op) && a.behind_tick)))
    → IsAlong c (place + 1) (record { routine = a.routine; height = height; behind_tick = behind })
along_goes_on c place a height behind along own rises few leads =
    let same : routine_of c (place + 1) ≡ a.routine = eqb-true _ _ own in
    let on : eqb (routine_of c (place + 1)) (routine_of c place) ≡ true = rw (← along.routine) own in
    record {
      routine = sym same;
      number = along.number;
      few = omega (arith, along.few);
      height = rises
          ∙ ap (λ h. h - pops c (instr_at c place).op (instr_at c place).a + pushes c (instr_at c place).op (instr_at c place).a) along.height
          ∙ sym (height_goes_on c place (same ∙ along.routine));
      low = omega (arith, rises, few, along.low);
      behind_tick = leads
          ∙ ap (λ b. not (is_target c (place + 1)) && (is_tick (instr_at c place).op || (not (is_jump (instr_at c place).op) && b))) along.behind_tick
          ∙ sym (is_behind_tick_next c place ∙ rw on (led (is_target c (place + 1)) _));
    }
