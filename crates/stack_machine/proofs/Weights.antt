-- How what the instructions that are still to come weigh falls from one to the next.
use Rattle.std.proofs.Common.{◌≡◌, ℕ, zero, suc, ◌+◌, ◌-◌, ◌*◌, ◌<◌, ◌≤◌, Bool, true, false, not, ◌⊎◌, ◌&&◌, ◌||◌, eqb, refl, sym, ◌∙◌, ap, arith, inl, inr, add-one}
use Rattle.std.proofs.lemmas.Bool.{false≢true}
use Rattle.std.proofs.Math.Nat.{suc-mul, mul-le-mul_right, le-mul_of_pos_right}
use Rattle.std.proofs.lemmas.Bool.{and_parts}
use Rattle.stack_code.specs.CodeLists.{CodeLists, instr_at}
use Rattle.stack_code.specs.Rules.{routine_of, is_target, is_tick, is_jump, is_behind_tick}
use Rattle.stack_code.proofs.BehindTick.{is_behind_tick_next, is_behind_tick_start}
use Rattle.stack_machine.specs.Left.{instr_count, weight_by, weight_at, price}

-- ---- Numbers

some_weight_by : (tick behind : Bool) (ahead room : ℕ) → 1 ≤ weight_by tick behind ahead room
some_weight_by true behind ahead room = omega arith
some_weight_by false true ahead room = omega arith
some_weight_by false false ahead room = omega arith

heaviest_by : (tick behind : Bool) (ahead all : ℕ) → ahead ≤ all → weight_by tick behind ahead (all + 2) ≤ all * (all + 2) + (all + 2)
heaviest_by true behind ahead all few = omega arith
heaviest_by false true ahead all few = let most = mul-le-mul_right (all + 2) few in omega (arith, most)
heaviest_by false false ahead all few = omega arith

-- on to a place that no call stands behind
lighter_by : (tick behind : Bool) (m n room : ℕ) → 1 ≤ room → m ≤ n → weight_by tick false m room < weight_by false behind (suc n) room
lighter_by true true m n room some few = let whole = suc-mul n room in omega (arith, whole)
lighter_by true false m n room some few = omega arith
lighter_by false true m n room some few =
    let whole = suc-mul n room in
    let most = le-mul_of_pos_right {m = room} n some in
    omega (arith, whole, most)
lighter_by false false m n room some few = omega arith

-- on to the next place
next_by : (tick behind behind_now : Bool) (n room : ℕ) → 1 ≤ room → (tick ≡ false → behind ≡ true → behind_now ≡ true) → weight_by tick behind n room < weight_by false behind_now (suc n) room
next_by true behind behind_now n room some same = lighter_by true behind_now n n room some (omega arith)
next_by false false behind_now n room some same = lighter_by false behind_now n n room some (omega arith)
next_by false true true n room some same = let whole = suc-mul n room in omega (arith, whole)
next_by false true false n room some same = absurd (false≢true (same refl refl))

-- on to the next place and a routine that was called
call_by : (tick behind first : Bool) (n m all : ℕ) → m ≤ all → weight_by tick behind n (all + 2) + weight_by first false m (all + 2) < weight_by false true (suc n) (all + 2)
call_by true behind true n m all few = let whole = suc-mul n (all + 2) in omega (arith, whole)
call_by true behind false n m all few = let whole = suc-mul n (all + 2) in omega (arith, whole)
call_by false true true n m all few = let whole = suc-mul n (all + 2) in omega (arith, whole)
call_by false true false n m all few = let whole = suc-mul n (all + 2) in omega (arith, whole)
call_by false false first n m all few =
    let whole = suc-mul n (all + 2) in
    let most = le-mul_of_pos_right {m = all + 2} n (omega arith) in
    let P : Bool → Type 0 = λ b. n + 1 + weight_by b false m (all + 2) < suc n * (all + 2) + 1 in
    elim first as P [ true ↦ omega (arith, whole, most) | false ↦ omega (arith, whole, most) ]

-- ---- Places

pub some_weight : (c : CodeLists) (place : ℕ) → 1 ≤ weight_at c place
some_weight c place = some_weight_by _ _ _ _

pub heaviest : (c : CodeLists) (place : ℕ) → weight_at c place ≤ price c
heaviest c place = heaviest_by _ _ (instr_count c - place) (instr_count c) (omega arith)

one_ahead : (place n : ℕ) → place < n → n - place ≡ suc (n - (place + 1))
one_ahead place n inside = omega arith

-- behind a tick after an instruction that is none, so behind one before it
still_behind : (target same tick jump before : Bool) → tick ≡ false → (not target && same && (tick || (not jump && before))) ≡ true → before ≡ true
still_behind target same tick jump before none all =
    let last = (and_parts (not target && same) (tick || (not jump && before)) all).1 in
    (and_parts (not jump) before (sym (ap (λ t. t || (not jump && before)) none) ∙ last)).1

-- from an instruction that is no TICK to the next one
pub next_is_lighter : (c : CodeLists) (place : ℕ) → place < instr_count c → is_tick (instr_at c place).op ≡ false → weight_at c (place + 1) < weight_at c place
next_is_lighter c place inside none =
    rw (none, one_ahead place (instr_count c) inside)
    (next_by (is_tick (instr_at c (place + 1)).op) (is_behind_tick c (place + 1)) (is_behind_tick c place) (instr_count c - (place + 1)) (instr_count c + 2) (omega arith)
    (λ _ behind. still_behind (is_target c (place + 1)) (eqb (routine_of c (place + 1)) (routine_of c place)) (is_tick (instr_at c place).op) (is_jump (instr_at c place).op) (is_behind_tick c place) none (sym (is_behind_tick_next c place) ∙ behind)))

-- a place that is a jump's target stands behind no tick
not_behind_target : (target same tick jump before : Bool) → target ≡ true → (not target && same && (tick || (not jump && before))) ≡ false
not_behind_target true same tick jump before is = refl
not_behind_target false same tick jump before is = absurd (false≢true is)

target_by : (c : CodeLists) (place : ℕ) → is_target c place ≡ true → is_behind_tick c place ≡ false
target_by c zero is = sym (is_behind_tick_start c)
target_by c (suc place) is = ap (is_behind_tick c) (sym (add-one place)) ∙ is_behind_tick_next c place ∙ not_behind_target (is_target c (place + 1)) (eqb (routine_of c (place + 1)) (routine_of c place)) (is_tick (instr_at c place).op) (is_jump (instr_at c place).op) (is_behind_tick c place) (ap (is_target c) (add-one place) ∙ is)

-- from a jump to its target, further on or a TICK
pub target_is_lighter : (c : CodeLists) (place a : ℕ) → place < instr_count c → is_tick (instr_at c place).op ≡ false → is_target c a ≡ true → (place < a) ⊎ (is_tick (instr_at c a).op ≡ true) → weight_at c a < weight_at c place
target_is_lighter c place a inside none is (inl further) =
    rw (none, one_ahead place (instr_count c) inside, target_by c a is)
    (lighter_by (is_tick (instr_at c a).op) (is_behind_tick c place) (instr_count c - a) (instr_count c - (place + 1)) (instr_count c + 2) (omega arith) (omega arith))
target_is_lighter c place a inside none is (inr tick) =
    rw (none, one_ahead place (instr_count c) inside, tick)
    (lighter_by true (is_behind_tick c place) 0 (instr_count c - (place + 1)) (instr_count c + 2) (omega arith) (omega arith))

-- from a CALL behind a tick to the next place and a routine's start
pub call_is_lighter : (c : CodeLists) (place start : ℕ) → place < instr_count c → is_tick (instr_at c place).op ≡ false → is_behind_tick c place ≡ true → is_behind_tick c start ≡ false → weight_at c (place + 1) + weight_at c start < weight_at c place
call_is_lighter c place start inside none behind first =
    rw (none, one_ahead place (instr_count c) inside, behind, first)
    (call_by (is_tick (instr_at c (place + 1)).op) (is_behind_tick c (place + 1)) (is_tick (instr_at c start).op) (instr_count c - (place + 1)) (instr_count c - start) (instr_count c) (omega arith))
