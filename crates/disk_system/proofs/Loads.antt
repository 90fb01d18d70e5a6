-- What is loaded is the code that the bytes say.
use Rattle.std.proofs.Common.{◌≡◌, ℕ, ◌+◌, ◌*◌, ◌<◌, true, Option, Some, None, Result, Ok, Err, List, length, get_or, refl, ap, sym, subst, ◌∙◌, inl, inr, arith}
use Rattle.std.specs.Prelude.{is_some}
use Rattle.std.specs.Option.{unwrap_or}
use Rattle.std.proofs.lemmas.Bool.{false≢true}
use Rattle.std.proofs.lemmas.List.FromFn.{get_or-map-range_with_len, length-map-range_with_len}
use Rattle.solo_base.specs.PageBytes.{number_at}
use Rattle.stack_code.specs.declared.table.Op.{Op}
use Rattle.stack_code.specs.declared.table.Op.TheVariants.{Halt}
use Rattle.stack_code.specs.Table.{op_at}
use Rattle.stack_code.specs.CodeLists.{CodeLists, FitsItsFields, FitsInstr, FitsRoutine, IsCode, instr_at, no_instr, no_routine, routine_at}
use Rattle.stack_code.specs.CodeFile.{IsInstrAt, IsRoutineAt, code_bytes, routines_end, wrong_byte}
use Rattle.stack_code.specs.Rules.{broken_record}
use Rattle.stack_code.proofs.Reading.{IsBytes, IsReadFrom, number_fits, read_is, read_is_code, right_of}
use Rattle.stack_code.proofs.Writing.{never_wrong, read_again}
use Rattle.disk_system.specs.declared.fault.SystemFault.{SystemFault}
use Rattle.disk_system.specs.declared.fault.SystemFault.TheVariants.{BadCode as OfBadCode}
use Rattle.disk_contents.specs.declared.loading.Loaded.TheVariants.{Code, BadCode}
use Rattle.disk_system.specs.Calls.{IsBadAt, LoadsAs, LoadsCode}
use Rattle.disk_contents.specs.Loading.{code_in, instr_in, judged, loaded_bytes, routine_in}
use Rattle.disk_system.specs.Loading.{LoadsSo, as_code}

there : (o : Option Op) → is_some o ≡ true → o ≡ Some (unwrap_or o Halt)
there (Some op) is = refl
there None is = absurd (false≢true is)

-- bytes that are right say the code that is read from them
module _ (bytes : List ℕ) (right : wrong_byte bytes ≡ None) where
  routine_is : (k : ℕ) → k < number_at bytes 8 → routine_at (code_in bytes) k ≡ routine_in bytes (12 + 8 * k)
  unfolding code_in
  routine_is k below = get_or-map-range_with_len (λ k. routine_in bytes (12 + 8 * k)) 0 (number_at bytes 8) k k no_routine below (omega arith)

  instr_is : (i : ℕ) → i < number_at bytes 10 → instr_at (code_in bytes) i ≡ instr_in bytes (routines_end bytes + 5 * i)
  unfolding code_in
  instr_is i below = get_or-map-range_with_len (λ i. instr_in bytes (routines_end bytes + 5 * i)) 0 (number_at bytes 10) i i no_instr below (omega arith)

  routines_are : length (code_in bytes).routines ≡ number_at bytes 8
  unfolding code_in
  routines_are = length-map-range_with_len (λ k. routine_in bytes (12 + 8 * k)) 0 (number_at bytes 8)

  instrs_are : length (code_in bytes).instrs ≡ number_at bytes 10
  unfolding code_in
  instrs_are = length-map-range_with_len (λ i. instr_in bytes (routines_end bytes + 5 * i)) 0 (number_at bytes 10)

  pub code_is_read : IsReadFrom bytes (code_in bytes)
  code_is_read = record {
    routine_count = routines_are;
    routines = λ k below. subst (IsRoutineAt bytes (12 + 8 * k)) (sym (routine_is k (omega (arith, below, routines_are))))
        (record { starts = refl; params = refl; function = refl; words = refl; height = refl });
    instr_count = instrs_are;
    instrs = λ i below.
        let inside : i < number_at bytes 10 = omega (arith, below, instrs_are) in
        subst (IsInstrAt bytes (routines_end bytes + 5 * i)) (sym (instr_is i inside))
        (record {
          number = there (op_at (get_or bytes (routines_end bytes + 5 * i) 0)) (number_fits bytes (right_of bytes right) i inside);
          a = refl;
          b = refl;
        });
  }

  pub code_fits : IsBytes bytes → FitsItsFields (code_in bytes)
  code_fits fits = record {
    routines = λ k below. subst FitsRoutine (sym (routine_is k (omega (arith, below, routines_are))))
        (record { starts = small (12 + 8 * k); params = byte (12 + 8 * k + 2); words = small (12 + 8 * k + 4); height = small (12 + 8 * k + 6) });
    instrs = λ i below. subst FitsInstr (sym (instr_is i (omega (arith, below, instrs_are))))
        (record { a = small (routines_end bytes + 5 * i + 1); b = small (routines_end bytes + 5 * i + 3) });
  }
    where
      small : (at : ℕ) → number_at bytes at < 65536
      small at = let high = fits at in let low = fits (at + 1) in omega (arith, high, low)

      byte : (at : ℕ) → get_or bytes at 0 < 256
      byte at = fits at

  pub code_is_code : IsBytes bytes → IsCode (code_in bytes)
  code_is_code fits = read_is_code bytes (code_in bytes) fits (right_of bytes right) code_is_read

  pub bytes_are : IsBytes bytes → bytes ≡ code_bytes (code_in bytes)
  bytes_are fits = read_is bytes (code_in bytes) fits (right_of bytes right) code_is_read

-- ---- The answers

wrong_answer : (bytes : List ℕ) (at : ℕ) (result : Result CodeLists SystemFault) → wrong_byte bytes ≡ Some at → LoadsAs bytes result
    → LoadsSo result (BadCode at)
wrong_answer bytes at (Ok c) wrong is = absurd (some_is_none at (sym wrong ∙ is.0))
  where
    some_is_none : (n : ℕ) → Some n ≡ None → ⊥
    some_is_none n e = cc
wrong_answer bytes at (Err fault) wrong (inl (inl e)) = inl (ap Err e)
wrong_answer bytes at (Err fault) wrong (inl (inr e)) = inr (inl (ap Err e))
wrong_answer bytes at (Err fault) wrong (inr x) = inr (inr (ap Err x.1 ∙ ap (λ n. Err (OfBadCode n)) (place x.0 x.2)))
  where
    place : (n : ℕ) → IsBadAt bytes n → n ≡ at
    place n (inl is) = let both : Some n ≡ Some at = sym is ∙ wrong in cc
    place n (inr y) = let both : Some at ≡ None = sym wrong ∙ y.0 in cc

right_answer : (bytes : List ℕ) (result : Result CodeLists SystemFault) → LoadsCode (code_in bytes) result
    → LoadsSo result (judged None (broken_record (code_in bytes)) (code_in bytes))
right_answer bytes (Ok c) is = inr (inr (ap Ok is.0 ∙ sym (ap (λ b. as_code (judged None b (code_in bytes))) is.1)))
right_answer bytes (Err fault) (inl (inl e)) = inl (ap Err e)
right_answer bytes (Err fault) (inl (inr e)) = inr (inl (ap Err e))
right_answer bytes (Err fault) (inr x) = inr (inr (ap Err x.1 ∙ sym (ap (λ b. as_code (judged None b (code_in bytes))) x.2)))

-- a load that is right by each of its laws answers so
pub loads_so : (bytes : List ℕ) (result : Result CodeLists SystemFault) → IsBytes bytes → LoadsAs bytes result
    → ((c : CodeLists) → IsCode c → FitsItsFields c → bytes ≡ code_bytes c → LoadsCode c result) → LoadsSo result (loaded_bytes bytes)
loads_so bytes result fits loads only = by_byte (wrong_byte bytes) refl
  where
    by_byte : (o : Option ℕ) → wrong_byte bytes ≡ o → LoadsSo result (judged (wrong_byte bytes) (broken_record (code_in bytes)) (code_in bytes))
    by_byte (Some at) is = subst (λ o. LoadsSo result (judged o (broken_record (code_in bytes)) (code_in bytes))) (sym is)
        (wrong_answer bytes at result is loads)
    by_byte None is = subst (λ o. LoadsSo result (judged o (broken_record (code_in bytes)) (code_in bytes))) (sym is)
        (right_answer bytes result (only (code_in bytes) (code_is_code bytes is fits) (code_fits bytes is fits) (bytes_are bytes is fits)))

-- what is written of code that breaks no rule is loaded as it
pub loaded_again : (c : CodeLists) → IsCode c → FitsItsFields c → broken_record c ≡ None → loaded_bytes (code_bytes c) ≡ Code c
loaded_again c good fits unbroken = by_byte (wrong_byte (code_bytes c)) refl
  where
    by_byte : (o : Option ℕ) → wrong_byte (code_bytes c) ≡ o → loaded_bytes (code_bytes c) ≡ Code c
    by_byte (Some at) is = absurd (never_wrong (code_bytes c) at c good refl is)
    by_byte None is =
        let same : code_in (code_bytes c) ≡ c = read_again c good fits (code_in (code_bytes c)) (code_is_read (code_bytes c) is) in
        ap (λ o. judged o (broken_record (code_in (code_bytes c))) (code_in (code_bytes c))) is
        ∙ ap (λ d. judged None (broken_record d) d) same ∙ ap (λ b. judged None b c) unbroken
