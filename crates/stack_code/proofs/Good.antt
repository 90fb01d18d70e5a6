-- Code with no broken record is good.
use Rattle.std.proofs.Common.{◌≡◌, ℕ, Option, Some, None, not, length, refl, arith}
use Rattle.std.specs.Option.{option_map}
use Rattle.std.proofs.lemmas.Bool.{not-false}
use Rattle.stack_code.specs.CodeLists.{CodeLists}
use Rattle.stack_code.specs.Rules.{IsGood, routine_is_good, instr_is_good, routine_record, instr_record, broken_routine, broken_instr, first_of, broken_record}
use Rattle.stack_code.proofs.Least.{fails_below}

none_of : (f g : ℕ → ℕ) (o p : Option ℕ) → first_of (option_map f o) (option_map g p) ≡ None → (o ≡ None) × (p ≡ None)
none_of f g (Some n) p e = absurd cc
none_of f g None (Some n) e = absurd cc
none_of f g None None e = (refl, refl)

pub good_from : (c : CodeLists) → broken_record c ≡ None → IsGood c
unfolding broken_record
good_from c none =
    let parts = none_of routine_record (instr_record c) (broken_routine c) (broken_instr c) none in
    record {
      routines = λ k below. not-false _ (fails_below (λ n. not (routine_is_good c n)) 0 (length c.routines) parts.0 k (omega arith) (omega arith));
      instrs = λ place below. not-false _ (fails_below (λ n. not (instr_is_good c n)) 0 (length c.instrs) parts.1 place (omega arith) (omega arith));
    }
