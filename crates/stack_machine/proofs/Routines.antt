-- Where the routines of good code start: their places belong to them, and nothing is on the stack there.
use Rattle.std.proofs.Common.{◌≡◌, ℕ, zero, suc, ◌+◌, ◌<◌, ◌≤◌, true, length, refl, sym, ◌∙◌, ap, arith, add-one}
use Rattle.std.proofs.lemmas.Bool.{ltb-true, leb-true, eqb-true, and_parts}
use Rattle.stack_code.specs.CodeFile.{mark}
use Rattle.stack_code.specs.CodeLists.{CodeLists, routine_at}
use Rattle.stack_code.specs.Rules.{IsGood, routine_of, height_at, starts_well}
use Rattle.stack_code.proofs.StraightLine.{height_begins, height_at_start}
use Rattle.stack_code.proofs.Starts.{Rises, begun_to}

-- ---- The routines of good code

-- the rule on a routine, as facts
pub record IsRoutine (c : CodeLists) (k : ℕ) : Type 0 where
  pub starts : starts_well c k ≡ true
  pub inside : (routine_at c k).start < length c.instrs
  pub words : (routine_at c k).params + mark (routine_at c k).function ≤ (routine_at c k).words

pub is_routine : (c : CodeLists) → IsGood c → (k : ℕ) → k < length c.routines → IsRoutine c k
is_routine c good k below =
    let height = and_parts _ _ (good.routines k below) in
    let most = and_parts _ _ height.0 in
    let words = and_parts _ _ most.0 in
    let params = and_parts _ _ words.0 in
    let starts = and_parts _ _ params.0 in
    record { starts = starts.0; inside = ltb-true _ _ starts.1; words = leb-true _ _ words.1 }

rises : (c : CodeLists) → IsGood c → Rises c.routines
rises c good = record { next = λ k below. ltb-true _ _ (is_routine c good (suc k) below).starts }

-- the program starts at the first place
pub program_start : (c : CodeLists) → IsGood c → 0 < length c.routines → (routine_at c 0).start ≡ 0
program_start c good some =
    let function = and_parts _ _ (is_routine c good 0 some).starts in
    let params = and_parts _ _ function.0 in
    eqb-true _ _ params.0

-- the places from a routine's start up to the next one's are its own
pub place_is_own : (c : CodeLists) → IsGood c → (k place : ℕ) → k < length c.routines → (routine_at c k).start ≤ place → (suc k < length c.routines → place < (routine_at c (suc k)).start) → routine_of c place ≡ k
place_is_own c good k place below low high =
    let all = begun_to place c.routines k (rises c good) below low high in
    omega (arith, all.0)

pub start_is_own : (c : CodeLists) → IsGood c → (k : ℕ) → k < length c.routines → routine_of c (routine_at c k).start ≡ k
start_is_own c good k below = place_is_own c good k (routine_at c k).start below (omega arith) (λ more. (rises c good).next k more)

-- nothing is on the stack at a routine's start
starts_empty : (c : CodeLists) → IsGood c → (k start : ℕ) → k < length c.routines → (routine_at c k).start ≡ start → height_at c start ≡ 0
starts_empty c good k zero below e = sym (height_at_start c)
starts_empty c good zero (suc place) below e = absurd (omega (arith, program_start c good below))
starts_empty c good (suc k) (suc place) below e =
    let before = place_is_own c good k place (omega arith) (omega (arith, (rises c good).next k below)) (λ more. omega arith) in
    let here = ap (routine_of c) (sym e) ∙ start_is_own c good (suc k) below in
    rw (← add-one) (height_begins c place (λ same. omega (arith, before, here, rw add-one at same)))

pub start_is_empty : (c : CodeLists) → IsGood c → (k : ℕ) → k < length c.routines → height_at c (routine_at c k).start ≡ 0
start_is_empty c good k below = starts_empty c good k (routine_at c k).start below refl
