-- The records of a program's routines break no rule.
use Rattle.std.proofs.Common.{◌≡◌, ℕ, zero, suc, ◌+◌, ◌<◌, ◌≤◌, true, not, ◌||◌, Some, None, Option, length, refl, sym, ap, subst, arith}
use Rattle.std.specs.Prelude.{slice_get, is_some, ◌==◌}
use Rattle.std.proofs.lemmas.Bool.{le-leb, lt-ltb, eq-eqb, and_from}
use Rattle.std.proofs.lemmas.Option.{same_Some}
use Rattle.stack_code.specs.CodeFile.{mark}
use Rattle.stack_code.specs.CodeLists.{routine_at, instr_at}
use Rattle.stack_code.specs.Rules.{IsGood, starts_well, routine_is_good, operands_fit, height_at, is_target, is_call, is_behind_tick, instr_is_good}
use Rattle.pascal_tree.specs.Program.{Program}
use Rattle.pascal_tree.specs.Limits.{IsTree}
use Rattle.pascal_mean.specs.Means.{Scalar}
use Rattle.pascal_code.specs.Frames.{declared_words, result_words, routine_frame}
use Rattle.pascal_code.specs.Senses.{Framed, framed_program, all_framed}
use Rattle.pascal_code.specs.Code.{routine_code, code_of}
use Rattle.code_law.specs.Heights.{Lift}
use Rattle.code_law.specs.Suited.{AreSuited}
use Rattle.code_law.proofs.Regions.{border_low, parameters_border}
use Rattle.code_law.proofs.Naming.{routine_is}
use Rattle.code_law.proofs.Compiled.{compiled_at, first_starts}
use Rattle.code_law.proofs.Ranges.{start_of, end_of, some_code, ends_inside, start_of_next, routine_there, place_of, goes_on_or_ends}
use Rattle.code_law.proofs.Walks.{height_is_low, height_fits_inside}
use Rattle.code_law.proofs.Nested.{body_fits, words_are_few}

marked : (o : Option Scalar) → mark (is_some o) ≡ result_words o
marked None = refl
marked (Some t) = refl

-- parameters and result lie in the frame
abbrev HasWords : Framed → Type 0
HasWords r = (r.frame).parameters + mark (is_some ((r.declared).signature).answer) ≤ declared_words r.frame

has_words : (p : Program) (k : ℕ) (r : Framed) → slice_get (all_framed p) k ≡ Some r → HasWords r
has_words p zero r is = subst HasWords (same_Some (framed_program p) r is) (omega arith)
has_words p (suc j) r is =
    let fr = routine_is p j r is in
    subst HasWords (sym fr.is)
    (omega (
      arith,
      marked (fr.signature).answer,
      border_low (routine_frame fr.known fr.signature fr.block).parameters (routine_frame fr.known fr.signature fr.block).items
          (parameters_border fr.known fr.signature fr.block),
    ))

pub words_hold : (p : Program) (k : ℕ) (r : Framed) → slice_get (all_framed p) k ≡ Some r
    → (routine_at (code_of p) k).params + mark (routine_at (code_of p) k).function ≤ (routine_at (code_of p) k).words
words_hold p k r is =
    let compiled = compiled_at p k r is in
    omega (arith, compiled.params, ap mark compiled.function, compiled.words, has_words p k r is)

pub starts_are_well : (p : Program) (k : ℕ) → k < length (code_of p).routines → starts_well (code_of p) k ≡ true
starts_are_well p zero low =
    let compiled = compiled_at p 0 (framed_program p) refl in
    and_from _ _ (and_from _ _ (eq-eqb _ _ (first_starts p)) (eq-eqb _ _ compiled.params)) (ap not compiled.function)
starts_are_well p (suc k) low =
    let there = routine_there p k (omega (arith, low)) in
    lt-ltb _ _ (omega (arith, start_of_next p k there.0 there.1 low, some_code p k there.0))

pub routine_good : (p : Program) (k : ℕ) (r : Framed) → slice_get (all_framed p) k ≡ Some r → k < length (code_of p).routines
    → (routine_at (code_of p) k).params ≤ 16 → (routine_at (code_of p) k).words ≤ 4352 → (routine_at (code_of p) k).height ≤ 1536
    → routine_is_good (code_of p) k ≡ true
routine_good p k r is inside params words height =
    and_from _ _ (and_from _ _ (and_from _ _ (and_from _ _ (and_from _ _
    (starts_are_well p k inside)
    (lt-ltb _ _ (omega (arith, some_code p k r, ends_inside p k r is))))
    (le-leb _ _ params))
    (le-leb _ _ (words_hold p k r is)))
    (le-leb _ _ words))
    (le-leb _ _ height)

-- with the height of a routine whose whole code lifts
pub routines_are_good : (p : Program) → AreSuited p → IsTree p → ((k : ℕ) → k < length (code_of p).routines → (routine_at (code_of p) k).params ≤ 16)
    → ((k : ℕ) (r : Framed) → slice_get (all_framed p) k ≡ Some r
    → (least : ℕ) × (end : ℕ) × Lift (code_of p) least 1536 (routine_code r (start_of p k)) 0 end)
    → (k : ℕ) → k < length (code_of p).routines → routine_is_good (code_of p) k ≡ true
routines_are_good p suited tree params lifts k inside =
    let there = routine_there p k inside in
    let r = there.0 in
    let lift = lifts k r there.1 in
    routine_good p k r there.1 inside (params k inside)
    (omega (arith, words_are_few p k r there.1 (suited k r there.1).few (body_fits p tree k r there.1)))
    (height_is_low p k r there.1 lift.0 1536 lift.1 lift.2)

-- ---- All records

-- what is left to show of the instruction at a place of a routine whose whole code lifts
pub record IsRight (p : Program) (x : ℕ) : Type 0 where
  pub operands : operands_fit (code_of p) x (instr_at (code_of p) x).op (instr_at (code_of p) x).a (instr_at (code_of p) x).b ≡ true
  pub target : (height_at (code_of p) x == 0 || not (is_target (code_of p) x)) ≡ true
  pub call : (not (is_call (instr_at (code_of p) x).op) || is_behind_tick (code_of p) x) ≡ true

pub instr_good : (p : Program) (k : ℕ) (r : Framed) → slice_get (all_framed p) k ≡ Some r → (least most end : ℕ)
    → Lift (code_of p) least most (routine_code r (start_of p k)) 0 end → (x : ℕ) → start_of p k ≤ x → x < end_of p k r → IsRight p x
    → instr_is_good (code_of p) x ≡ true
instr_good p k r is least most end lift x low high right =
    and_from _ _ (and_from _ _ (and_from _ _ (and_from _ _
    (goes_on_or_ends p k r is x low high)
    right.operands)
    (height_fits_inside p k r is least most end lift x low high))
    right.target)
    right.call

-- The code of a program is good whose routines have few parameters and lift, where operands fit, jumps lead to where nothing is on the stack, and
-- calls stand behind ticks.
pub good_by_routines : (p : Program) → AreSuited p → IsTree p → ((k : ℕ) → k < length (code_of p).routines → (routine_at (code_of p) k).params ≤ 16)
    → ((k : ℕ) (r : Framed) → slice_get (all_framed p) k ≡ Some r → Lift (code_of p) 0 1536 (routine_code r (start_of p k)) 0 0)
    → ((k : ℕ) (r : Framed) → slice_get (all_framed p) k ≡ Some r → (x : ℕ) → start_of p k ≤ x → x < end_of p k r → IsRight p x)
    → IsGood (code_of p)
good_by_routines p suited tree params lifts right = record {
  routines = λ k inside. routines_are_good p suited tree params (λ j r is. (0, 0, lifts j r is)) k inside;
  instrs = λ x inside.
      let there = place_of p x inside in
      let k = there.0 in
      let r = there.1 in
      let is = there.2 in
      instr_good p k r is 0 1536 0 (lifts k r is) x there.3 there.4 (right k r is x there.3 there.4);
}
