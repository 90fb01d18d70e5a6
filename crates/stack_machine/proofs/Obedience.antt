-- What the rules on an instruction of good code say, as facts.
use Rattle.std.proofs.Common.{◌≡◌, ℕ, zero, suc, ◌+◌, ◌-◌, ◌<◌, ◌≤◌, Bool, true, false, not, ◌&&◌, ◌||◌, eqb, length, refl, ap, arith, subst, inl, inr}
use Rattle.std.proofs.lemmas.Bool.{ltb-true, leb-true, eqb-true, eq-eqb, and_parts, and_from, or_cases, cases_eq, both_ways, not_from_true}
use Rattle.std.proofs.lemmas.List.Folds.{list_any_at}
use Rattle.stack_code.specs.declared.table.Op.{Op}
use Rattle.stack_code.specs.declared.instr.Instr.{Instr}
use Rattle.stack_code.specs.CodeLists.{CodeLists, routine_at, instr_at, no_instr}
use Rattle.stack_code.specs.Rules.{IsGood, routine_of, height_at, goes_on, may_be_last, leaves_nothing, pops, pushes, operands_fit, is_jump, is_target}
use Rattle.stack_code.proofs.StraightLine.{height_goes_on, height_begins, height_at_start}

-- the next place belongs to the routine too
pub record GoesOn (c : CodeLists) (place : ℕ) : Type 0 where
  pub inside : place + 1 < length c.instrs
  pub routine : routine_of c (place + 1) ≡ routine_of c place

-- what the rules say of an instruction at its place
pub record Obeys (c : CodeLists) (place : ℕ) (o : Op) (a b : ℕ) : Type 0 where
  pub enough : pops c o a ≤ height_at c place
  pub room : height_at c place - pops c o a + pushes c o a ≤ (routine_at c (routine_of c place)).height
  pub cleared : leaves_nothing o ≡ true → height_at c place - pops c o a ≡ 0
  pub fits : operands_fit c place o a b ≡ true
  pub goes_on : may_be_last o ≡ false → GoesOn c place
  pub height : may_be_last o ≡ false → height_at c (place + 1) ≡ height_at c place - pops c o a + pushes c o a
  pub target : is_jump o ≡ true → a < length c.instrs → height_at c a ≡ 0

-- the rules on an instruction, one by one
record Rules (c : CodeLists) (place : ℕ) (i : Instr) : Type 0 where
  pub on : (goes_on c place || may_be_last i.op) ≡ true
  pub fits : operands_fit c place i.op i.a i.b ≡ true
  pub enough : pops c i.op i.a ≤ height_at c place
  pub room : height_at c place - pops c i.op i.a + pushes c i.op i.a ≤ (routine_at c (routine_of c place)).height
  pub cleared : (not (leaves_nothing i.op) || eqb (height_at c place - pops c i.op i.a) 0) ≡ true
  pub target : (eqb (height_at c place) 0 || not (is_target c place)) ≡ true

rules : (c : CodeLists) → IsGood c → (place : ℕ) → place < length c.instrs → Rules c place (instr_at c place)
rules c good place inside =
    let call = and_parts _ _ (good.instrs place inside) in
    let target = and_parts _ _ call.0 in
    let heights = and_parts _ _ target.0 in
    let fits = and_parts _ _ heights.0 in
    let cleared = and_parts _ _ heights.1 in
    let room = and_parts _ _ cleared.0 in
    record { on = fits.0; fits = fits.1; enough = leb-true _ _ room.0; room = leb-true _ _ room.1; cleared = cleared.1; target = target.1 }

-- the other of two, where one is false
first_holds : (x y : Bool) → (x || y) ≡ true → y ≡ false → x ≡ true
first_holds x y either other = elim (or_cases x y either) [ inl e ↦ e | inr e ↦ absurd (both_ways y other e) ]

goes_on_from : (c : CodeLists) (place : ℕ) → goes_on c place ≡ true → GoesOn c place
goes_on_from c place on =
    let parts = and_parts _ _ on in
    record { inside = ltb-true _ _ parts.0; routine = eqb-true _ _ parts.1 }

-- a jump's target is one
is_target_of : (c : CodeLists) (place : ℕ) → place < length c.instrs → is_jump (instr_at c place).op ≡ true → is_target c (instr_at c place).a ≡ true
is_target_of c place inside jump =
    let a = (instr_at c place).a in
    list_any_at (λ (i : Instr). is_jump i.op && eqb i.a a) c.instrs place no_instr inside (and_from (is_jump (instr_at c place).op) (eqb a a) jump (eq-eqb a a refl))

empty_target : (c : CodeLists) → IsGood c → (place : ℕ) → place < length c.instrs → is_target c place ≡ true → height_at c place ≡ 0
empty_target c good place inside target =
    eqb-true _ _ (first_holds (eqb (height_at c place) 0) (not (is_target c place)) (rules c good place inside).target (not_from_true _ target))

obeys_at : (c : CodeLists) → IsGood c → (place : ℕ) → place < length c.instrs → Obeys c place (instr_at c place).op (instr_at c place).a (instr_at c place).b
obeys_at c good place inside =
    let r = rules c good place inside in
    let i = instr_at c place in
    let on : may_be_last i.op ≡ false → GoesOn c place = λ middle. goes_on_from c place (first_holds (goes_on c place) (may_be_last i.op) r.on middle) in
    record {
      enough = r.enough;
      room = r.room;
      cleared = λ leaves. elim (or_cases (not (leaves_nothing i.op)) (eqb (height_at c place - pops c i.op i.a) 0) r.cleared) [
        | inl keeps ↦ absurd (both_ways (not (leaves_nothing i.op)) (not_from_true _ leaves) keeps)
        | inr e ↦ eqb-true _ _ e
      ];
      fits = r.fits;
      goes_on = on;
      height = λ middle. height_goes_on c place (on middle).routine;
      target = λ jump there. empty_target c good i.a there (is_target_of c place inside jump);
    }

-- the same, for the parts of the instruction
pub obeys : (c : CodeLists) → IsGood c → (place : ℕ) (o : Op) (a b : ℕ) → place < length c.instrs → instr_at c place ≡ record { op = o; a = a; b = b } → Obeys c place o a b
obeys c good place o a b inside here = subst (λ (i : Instr). Obeys c place i.op i.a i.b) here (obeys_at c good place inside)

-- along the straight line no operand passes the routine's height
pub height_is_low : (c : CodeLists) → IsGood c → (place : ℕ) → place < length c.instrs → height_at c place ≤ (routine_at c (routine_of c place)).height
height_is_low c good zero inside = omega (arith, height_at_start c)
height_is_low c good (suc place) inside =
    let next : suc place ≡ place + 1 = omega arith in
    rw next (elim (cases_eq (routine_of c (place + 1)) (routine_of c place)) [
      | inl same ↦ omega (arith, height_goes_on c place same, (rules c good place (omega arith)).room, ap (λ r. (routine_at c r).height) same)
      | inr other ↦ omega (arith, height_begins c place other)
    ])
