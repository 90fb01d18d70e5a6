-- A routine's start stands behind no tick: it belongs to another routine than the place before it.
use Rattle.std.proofs.Common.{◌≡◌, ℕ, zero, suc, ◌+◌, ◌-◌, ◌<◌, ◌≤◌, Bool, true, false, not, ◌&&◌, ◌||◌, eqb, leb, cond, List, [], ◌∷◌, length, get_or, refl, sym, ◌∙◌, ap, arith}
use Rattle.std.proofs.lemmas.List.Recursion.{is_count_by}
use Rattle.std.proofs.lemmas.Bool.{false≢true, le-leb, lt-leb, leb-true, ltb-true, eqb-true, ne_eqb, and_parts, and_left, and_right}
use Rattle.stack_code.specs.declared.instr.RoutineInfo.{RoutineInfo}
use Rattle.stack_code.specs.CodeLists.{CodeLists, routine_at, no_routine, instr_at}
use Rattle.stack_code.specs.Rules.{IsGood, routine_of, starts_well, is_target, is_tick, is_jump, is_behind_tick}
use Rattle.stack_code.proofs.BehindTick.{is_behind_tick_next}

-- how many of these routines start at a place or before
abbrev started : List RoutineInfo → ℕ → ℕ
started [] place = 0
started (r ∷ routines) place = cond (leb r.start place) (1 + started routines place) (started routines place)

routine_of_started : (c : CodeLists) (place : ℕ) → routine_of c place ≡ started c.routines place - 1
routine_of_started c place = ap (λ n. n - 1) (sym (is_count_by (λ routines. started routines place) (λ r. leb r.start place) refl (λ r routines. refl) c.routines))

count_kept : (before now : Bool) (n m : ℕ) → (before ≡ true → now ≡ true) → n ≤ m → cond before (1 + n) n ≤ cond now (1 + m) m
count_kept true true n m kept few = omega arith
count_kept true false n m kept few = absurd (false≢true (kept refl))
count_kept false true n m kept few = omega arith
count_kept false false n m kept few = few

count_rises : (before now : Bool) (n m : ℕ) → (before ≡ true → now ≡ true) → n < m → cond before (1 + n) n < cond now (1 + m) m
count_rises true true n m kept few = omega arith
count_rises true false n m kept few = absurd (false≢true (kept refl))
count_rises false true n m kept few = omega arith
count_rises false false n m kept few = few

still_started : (start place : ℕ) → leb start place ≡ true → leb start (place + 1) ≡ true
still_started start place is = le-leb start (place + 1) (omega (arith, leb-true start place is))

no_fewer : (routines : List RoutineInfo) (place : ℕ) → started routines place ≤ started routines (place + 1)
no_fewer [] place = omega arith
no_fewer (r ∷ routines) place = count_kept _ _ _ _ (still_started r.start place) (no_fewer routines place)

starts_here : (before now : Bool) (n m : ℕ) → before ≡ false → now ≡ true → n ≤ m → cond before (1 + n) n < cond now (1 + m) m
starts_here before now n m is_not is few = rw (is_not, is) (omega arith)

one_more : (routines : List RoutineInfo) (k place : ℕ) → k < length routines → (get_or routines k no_routine).start ≡ place + 1 → started routines place < started routines (place + 1)
one_more [] k place inside start = omega arith
one_more (r ∷ routines) zero place inside start =
    starts_here _ _ _ _ (lt-leb r.start place (omega (arith, start))) (le-leb r.start (place + 1) (omega (arith, start))) (no_fewer routines place)
one_more (r ∷ routines) (suc k) place inside start = count_rises _ _ _ _ (still_started r.start place) (one_more routines k place (omega arith) start)

some_started : (routines : List RoutineInfo) (place : ℕ) → 1 ≤ length routines → (get_or routines 0 no_routine).start ≡ 0 → 1 ≤ started routines place
some_started [] place some start = omega arith
some_started (r ∷ routines) place some start =
    rw (le-leb r.start place (omega (arith, start))) (omega arith)

starts_well_at : (c : CodeLists) (k : ℕ) → IsGood c → k < length c.routines → starts_well c k ≡ true
starts_well_at c k good inside = (and_parts _ _ (and_parts _ _ (and_parts _ _ (and_parts _ _ (and_parts _ _ (good.routines k inside)).0).0).0).0).0

-- the first routine starts the code, and the others start behind it
start_of_first : (c : CodeLists) → IsGood c → 1 ≤ length c.routines → (routine_at c 0).start ≡ 0
start_of_first c good some = eqb-true _ _ (and_parts _ _ (and_parts _ _ (starts_well_at c 0 good (omega arith))).0).0

start_of_later : (c : CodeLists) (k : ℕ) → IsGood c → suc k < length c.routines → (routine_at c k).start < (routine_at c (suc k)).start
start_of_later c k good inside = ltb-true _ _ (starts_well_at c (suc k) good inside)

-- nothing stands behind a tick of another routine
other_routine : (target same tick jump before : Bool) → same ≡ false → (not target && same && (tick || (not jump && before))) ≡ false
other_routine target same tick jump before is_not = and_left (not target && same) (tick || (not jump && before)) (and_right (not target) same is_not)

begins_at : (c : CodeLists) (k place : ℕ) → IsGood c → k < length c.routines → (routine_at c k).start ≡ place + 1 → is_behind_tick c (place + 1) ≡ false
begins_at c k place good inside start =
    let more = one_more c.routines k place inside start in
    let before = routine_of_started c place in
    let here = routine_of_started c (place + 1) in
    let some = some_started c.routines place (omega (arith, inside)) (start_of_first c good (omega (arith, inside))) in
    is_behind_tick_next c place ∙ other_routine (is_target c (place + 1)) (eqb (routine_of c (place + 1)) (routine_of c place)) (is_tick (instr_at c place).op) (is_jump (instr_at c place).op) (is_behind_tick c place) (ne_eqb _ _ (λ e. omega (arith, e, more, some, before, here)))

pub start_is_unticked : (c : CodeLists) (k : ℕ) → IsGood c → 1 ≤ k → k < length c.routines → is_behind_tick c (routine_at c k).start ≡ false
start_is_unticked c zero good later inside = absurd (omega arith)
start_is_unticked c (suc k) good later inside =
    let rises = start_of_later c k good inside in
    let place = (routine_at c (suc k)).start - 1 in
    let start : (routine_at c (suc k)).start ≡ place + 1 = omega (arith, rises) in
    ap (is_behind_tick c) start ∙ begins_at c (suc k) place good inside start
