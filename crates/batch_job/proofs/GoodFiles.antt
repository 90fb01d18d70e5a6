-- Code that stands in a file keeps the rules of code, whatever the files are.
use Rattle.std.proofs.Common.{◌≡◌, ℕ, ◌+◌, ◌*◌, ◌<◌, ◌≤◌, Bool, true, false, eqb, leb, ◌||◌, ◌&&◌, List, length, get_or, Option, None, Some, refl, sym, ◌∙◌, ap, arith, inl, inr}
use Rattle.std.specs.FinMap as fin
use Rattle.std.proofs.lemmas.Bool.{eqb-true, leb-true, or_cases, and_parts}
use Rattle.solo_base.specs.PageBytes.{number_at}
use Rattle.stack_code.specs.CodeLists.{CodeLists, IsCode}
use Rattle.stack_code.specs.CodeFile.{routines_end, uses_a, uses_b, wrong_byte}
use Rattle.stack_code.specs.Rules.{broken_record}
use Rattle.stack_code.proofs.Good.{good_from}
use Rattle.stack_code.proofs.Reading.{IsReadFrom, at_place, right_of}
use Rattle.stack_code.proofs.Regions.{IsRight, in_instr}
use Rattle.disk_layout.specs.declared.kind.FileKind.{FileKind}
use Rattle.disk_layout.specs.declared.kind.FileKind.TheVariants.{Scratch, Ascii, SeqCode, ConCode}
use Rattle.disk_layout.specs.Files.{File, Files}
use Rattle.disk_contents.specs.Contents.{file_bytes}
use Rattle.disk_contents.specs.Loading.{code_in, judged, loaded_by, loaded_bytes, loaded_file, program_of}
use Rattle.disk_system.proofs.Loads.{code_is_read}
use Rattle.batch_job.specs.Loads.{IsLoaded}

-- ---- what is read of bytes without a wrong one is code, whatever numbers the bytes are
module _ (bytes : List ℕ) (c : CodeLists) (right : IsRight bytes) (from : IsReadFrom bytes c) where
  count_fits : (place limit : ℕ) → (leb (length bytes) (place + 1) || (leb 1 (number_at bytes place) && leb (number_at bytes place) limit)) ≡ true
      → place + 1 < length bytes → (1 ≤ number_at bytes place) × (number_at bytes place ≤ limit)
  count_fits place limit stands there =
      elim (or_cases (leb (length bytes) (place + 1)) (leb 1 (number_at bytes place) && leb (number_at bytes place) limit) stands) [
        | inl short ↦ absurd (omega (arith, leb-true (length bytes) (place + 1) short))
        | inr both ↦
            let parts = and_parts (leb 1 (number_at bytes place)) (leb (number_at bytes place) limit) both in
            (leb-true 1 (number_at bytes place) parts.0, leb-true (number_at bytes place) limit parts.1)
      ]

  long : 12 ≤ length bytes
  long = omega (arith, right.long)

  routines_fit : (1 ≤ length c.routines) × (length c.routines ≤ 255)
  routines_fit =
      let both = count_fits 8 255 (right.stand 8 (omega arith)) (omega (arith, long)) in
      (omega (arith, both.0, from.routine_count), omega (arith, both.1, from.routine_count))

  instrs_fit : (1 ≤ length c.instrs) × (length c.instrs ≤ 8192)
  instrs_fit =
      let both = count_fits 10 8192 (right.stand 10 (omega arith)) (omega (arith, long)) in
      (omega (arith, both.0, from.instr_count), omega (arith, both.1, from.instr_count))

  -- an operand of two zero bytes is 0
  zero_operand : (i at : ℕ) (uses : ℕ → Bool) → uses (get_or bytes (routines_end bytes + 5 * i) 0) ≡ false
      → (uses (get_or bytes (routines_end bytes + 5 * i) 0) || eqb (get_or bytes (routines_end bytes + 5 * i + at) 0) 0) ≡ true
      → (uses (get_or bytes (routines_end bytes + 5 * i) 0) || eqb (get_or bytes (routines_end bytes + 5 * i + (at + 1)) 0) 0) ≡ true
      → number_at bytes (routines_end bytes + 5 * i + at) ≡ 0
  zero_operand i at uses unused high low =
      let place = routines_end bytes + 5 * i in
      let zero_byte : (j : ℕ) → (uses (get_or bytes place 0) || eqb (get_or bytes (place + j) 0) 0) ≡ true → get_or bytes (place + j) 0 ≡ 0 =
      λ j stands. eqb-true _ _ (sym (ap (λ b. b || eqb (get_or bytes (place + j) 0) 0) unused) ∙ stands) in
      let first = zero_byte at high in
      let second = zero_byte (at + 1) low in
      omega (arith, first, second, at_place bytes (place + at + 1) (place + (at + 1)) (omega arith))

  stands_at : (i j : ℕ) → i < number_at bytes 10 → j < 5 → Rattle.stack_code.specs.CodeFile.may_stand bytes (routines_end bytes + 5 * i + j) ≡ true
  stands_at i j below inside = right.stand (routines_end bytes + 5 * i + j) (omega arith)

  is_code : IsCode c
  is_code = record {
    some_routine = routines_fit.0;
    few_routines = routines_fit.1;
    some_instr = instrs_fit.0;
    few_instrs = instrs_fit.1;
    operands = λ i there.
        let at = from.instrs i there in
        let below : i < number_at bytes 10 = omega (arith, from.instr_count) in
        record {
          a = λ unused. at.a ∙ zero_operand i 1 uses_a (rw at.number unused) (sym (in_instr bytes i 1 below (omega arith)) ∙ stands_at i 1 below (omega arith))
              (sym (in_instr bytes i 2 below (omega arith)) ∙ stands_at i 2 below (omega arith));
          b = λ unused. at.b ∙ zero_operand i 3 uses_b (rw at.number unused) (sym (in_instr bytes i 3 below (omega arith)) ∙ stands_at i 3 below (omega arith))
              (sym (in_instr bytes i 4 below (omega arith)) ∙ stands_at i 4 below (omega arith));
        };
  }

-- ---- whatever is loaded
bytes-loaded : (bytes : List ℕ) → IsLoaded (loaded_bytes bytes)
bytes-loaded bytes = by (wrong_byte bytes) (broken_record (code_in bytes)) refl refl
  where
    by : (wrong broken : Option ℕ) → wrong_byte bytes ≡ wrong → broken_record (code_in bytes) ≡ broken → IsLoaded (judged wrong broken (code_in bytes))
    by (Some at) broken is broken_is = tt
    by None (Some at) is broken_is = tt
    by None None is broken_is = (is_code bytes (code_in bytes) (right_of bytes is) (code_is_read bytes is), good_from (code_in bytes) broken_is)

file-loaded : (kind : FileKind) (bytes : List ℕ) → IsLoaded (loaded_by kind bytes)
file-loaded SeqCode bytes = bytes-loaded bytes
file-loaded Scratch bytes = tt
file-loaded Ascii bytes = tt
file-loaded ConCode bytes = tt

found-loaded : (file : Option File) → IsLoaded (loaded_file file)
found-loaded None = tt
found-loaded (Some file) = file-loaded file.kind (file_bytes file)

-- What a job finds of its program is good code, or a reason why there is none.
pub files_are_good : (all : Files) (name : List ℕ) → IsLoaded (program_of all name)
files_are_good all name = found-loaded (fin.get all name)
