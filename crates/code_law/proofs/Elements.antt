-- Indexes that are tested, and loads of elements.
use Rattle.std.proofs.Common.{◌≡◌, ℕ, ◌+◌, ◌<◌, Bool, true, false, ◌&&◌, Option, Some, None, List, ◌∷◌, ℤ, pos, ◌-ℤ◌, refl, sym, ◌∙◌, ap, subst}
use Rattle.std.proofs.lemmas.Bool.{lt-ltb}
use Rattle.std.specs.Prelude.{slice_get, if◌then◌else◌, int_le, negsuc}
use Rattle.std.specs.Int.{w16, cast_signed}
use Rattle.solo_base.specs.declared.outcome.ProgResult.TheVariants as result
use Rattle.solo_base.specs.declared.system_call.SysReply.{SysReply}
use Rattle.solo_base.specs.Arithmetic.{fit, difference}
use Rattle.std.proofs.lemmas.Option.{none-some, same_Some}
use Rattle.stack_code.specs.declared.table.Op.TheVariants as op
use Rattle.stack_code.specs.CodeLists.{CodeLists}
use Rattle.stack_machine.specs.Activations.{words_from}
use Rattle.stack_machine.specs.State.{Next, Stops}
use Rattle.stack_machine.specs.Effects.{replace_found, load_element}
use Rattle.stack_machine.specs.Machine.{effect, next}
use Rattle.pascal_mean.specs.Means.{Owner, OfProgram, OfRoutine, Bounds}
use Rattle.pascal_mean.specs.Situation.{Situation, Gives, choose, end_with}
use Rattle.pascal_mean.specs.Variables.{owner_number}
use Rattle.pascal_mean.specs.Values.{within}
use Rattle.pascal_code.specs.Instructions.{with_both, operand, test_index}
use Rattle.pascal_code.specs.Instructions as code
use Rattle.code_law.proofs.Indexes.{Inside, inside, above}
use Rattle.code_law.proofs.Reached.{does, goes, never, stops}
use Rattle.code_law.proofs.Here.{Fixed, own_number, state_at, Here, further, After}
use Rattle.code_law.proofs.Loads.{own_words}

-- bounds that stand in an instruction are read again
pub record AreWritten (bounds : Bounds) : Type 0 where
  pub low : cast_signed w16 (operand bounds.low) ≡ bounds.low
  pub high : cast_signed w16 (operand bounds.high) ≡ bounds.high

-- an index, with the place that it means on top of the operands
pub record Indexed (c : CodeLists) (limit : ℕ) (all : List SysReply) (f : Fixed) (p : ℕ) (rest : List ℤ) (bounds : Bounds) (v : ℤ)
    (now : Situation) : Type 0 where
  pub inside : Inside bounds v
  pub here : Here c limit all f p (pos inside.place ∷ rest) now

fitting : (z w : ℤ) → fit z ≡ Some w → w ≡ z
fitting z w is = by_test (int_le (negsuc 32767) z && int_le z (pos 32767)) is
  where
    by_test : (b : Bool) → (if b then Some z else None) ≡ Some w → w ≡ z
    by_test true e = sym (same_Some z w e)
    by_test false e = absurd (none-some w e)

module _ {c : CodeLists} {limit : ℕ} {all : List SysReply} {f : Fixed} where
  -- a word is there in the place of the top
  found_or_lacks : (p : ℕ) (operands rest : List ℤ) (now : Situation) (h : Here c limit all f p operands now) (o : Option ℤ)
      → (let s = state_at f.routine h.below p now.line h.words operands now.ticks in next c limit s ≡ replace_found s rest o)
      → (z : ℤ) × ((o ≡ Some z) × Here c limit all f (p + 1) (z ∷ rest) now)
  found_or_lacks p operands rest now h (Some z) e = (
    z,
    (
      refl,
      further (p + 1) (z ∷ rest) h (goes (state_at f.routine h.below (p + 1) now.line h.words (z
          ∷ rest) now.ticks) h.reached e),
    ),
  )
  found_or_lacks p operands rest now h None e = absurd (never h.reached e)

  -- INDEX
  pub indexed : (p : ℕ) (v : ℤ) (rest : List ℤ) (now : Situation) (bounds : Bounds) → AreWritten bounds → Here c limit all f p (v ∷ rest) now
      → slice_get c.instrs p ≡ Some (test_index bounds)
      → After c limit all (λ u n. Indexed c limit all f (p + 1) rest bounds u n) (within bounds v now)
  unfolding effect
  indexed p v rest now bounds written h found =
      by_tests (int_le bounds.low v) (int_le v bounds.high) refl refl
      (does h.reached (test_index bounds) found
      ∙ ap (λ z. tested z (cast_signed w16 (operand bounds.high))) written.low ∙ ap (tested bounds.low) written.high)
    where
      tested : ℤ → ℤ → Next
      tested low high = if int_le low v && int_le v high then replace_found (state_at f.routine h.below p now.line h.words (v ∷ rest) now.ticks) rest
          (difference v low) else Stops result.RangeError now.line now.ticks

      by_tests : (from to : Bool) → int_le bounds.low v ≡ from → int_le v bounds.high ≡ to
          → next c limit (state_at f.routine h.below p now.line h.words (v ∷ rest) now.ticks)
          ≡ (if from && to then replace_found (state_at f.routine h.below p now.line h.words (v ∷ rest) now.ticks) rest
          (difference v bounds.low) else Stops result.RangeError now.line now.ticks)
          → After c limit all (λ u n. Indexed c limit all f (p + 1) rest bounds u n) (choose (from && to) (Gives v) (end_with result.RangeError) now)
      by_tests true true is_from is_to e =
          let place = inside bounds v is_from is_to in
          let there = found_or_lacks p (v ∷ rest) rest now h (difference v bounds.low) e in
          let word : there.0 ≡ pos place.place = fitting (v -ℤ bounds.low) there.0 there.1.0 ∙ ap (λ z. z -ℤ bounds.low) place.is
          ∙ above bounds.low place.place in
          record { comes = record { inside = place; here = subst (λ z. Here c limit all f (p + 1) (z ∷ rest) now) word there.1.1 } }
      by_tests true false is_from is_to e = record { comes = stops result.RangeError now.line now.ticks h.reached e }
      by_tests false to is_from is_to e = record { comes = stops result.RangeError now.line now.ticks h.reached e }

  -- an element of an array
  pub element_loaded : (owner : Owner) (p : ℕ) (k : ℕ) (rest : List ℤ) (now : Situation) (a count : ℕ) (v : ℤ) (h : Here c limit all f p (pos k ∷ rest) now)
      → slice_get c.instrs p ≡ Some (code.load_element owner a count)
      → k < count → slice_get (words_from h.below h.words (owner_number owner (own_number f))) (a + k) ≡ Some v → Here c limit all f (p + 1) (v ∷ rest) now
  unfolding effect
  element_loaded OfProgram p k rest now a count v h found low at =
      let s = state_at f.routine h.below p now.line h.words (pos k ∷ rest) now.ticks in
      further (p + 1) (v ∷ rest) h (goes (state_at f.routine h.below (p + 1) now.line h.words (v ∷ rest) now.ticks) h.reached
      (does h.reached (with_both op.LoadGX a count) found ∙ ap (λ b. load_element true s a rest (if b then Some k else None)) (lt-ltb k count low)
      ∙ ap (replace_found s rest) at))
  element_loaded OfRoutine p k rest now a count v h found low at =
      let s = state_at f.routine h.below p now.line h.words (pos k ∷ rest) now.ticks in
      let own : slice_get h.words (a + k) ≡ Some v = ap (λ (w : List ℤ). slice_get w (a + k)) (sym (own_words h)) ∙ at in
      further (p + 1) (v ∷ rest) h (goes (state_at f.routine h.below (p + 1) now.line h.words (v ∷ rest) now.ticks) h.reached
      (does h.reached (with_both op.LoadLX a count) found ∙ ap (λ b. load_element false s a rest (if b then Some k else None)) (lt-ltb k count low)
      ∙ ap (replace_found s rest) own))
