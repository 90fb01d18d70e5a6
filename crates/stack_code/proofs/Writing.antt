-- What is written is right, and is read again.
use Rattle.std.proofs.Common.{◌≡◌, ℕ, zero, suc, ◌+◌, ◌-◌, ◌*◌, ◌/◌, ◌%◌, ◌<◌, ◌≤◌, Bool, true, false, eqb, leb, not, ◌||◌, ◌&&◌, List, ◌++◌, length, get_or, Some, None, refl, sym, ◌∙◌, ap, arith, inl, inr}
use Rattle.std.specs.Prelude.{codes, is_some}
use Rattle.std.specs.Int.{w16, to_be_bytes}
use Rattle.std.proofs.lemmas.Bool.{cases_lt, cases_eq, eq-eqb, le-leb, or_left, or_right, and_from, ne_eqb}
use Rattle.std.proofs.lemmas.List.{ext_get_or, get_or_append_left}
use Rattle.stack_code.specs.declared.instr.Instr.{Instr}
use Rattle.stack_code.specs.declared.instr.RoutineInfo.{RoutineInfo}
use Rattle.stack_code.specs.Table.{row, op_at}
use Rattle.stack_code.specs.CodeLists.{CodeLists, IsCode, UsesItsOperands, FitsItsFields, no_routine, no_instr, routine_at, instr_at}
use Rattle.solo_base.specs.PageBytes.{number_at}
use Rattle.stack_code.specs.CodeFile.{mark, routine_bytes, instr_bytes, code_bytes, routines_end, instrs_end, file_end, may_stand, is_wrong, wrong_byte, routine_byte_may_stand, instr_byte_may_stand, IsRoutineAt, IsInstrAt}
use Rattle.stack_code.proofs.Least.{none_passes}
use Rattle.stack_code.proofs.Rows.{op_at-number, some_is}
use Rattle.stack_code.proofs.Positions.{byte_in_head, byte_in_routine, byte_in_instr, byte_in_padding, routine_count, instr_count, routines_end_is, instrs_end_is, file_end_is}
use Rattle.stack_code.proofs.Regions.{IsRight, none_from, letter, in_routine, in_instr, in_padding}
use Rattle.stack_code.proofs.Reading.{IsReadFrom, at_place}

mark_below : (b : Bool) → mark b ≤ 1
mark_below true = omega arith
mark_below false = omega arith

count_stands : (short : Bool) (n limit : ℕ) → 1 ≤ n → n ≤ limit → (short || (leb 1 n && leb n limit)) ≡ true
count_stands short n limit low high = or_right short (leb 1 n && leb n limit) (and_from (leb 1 n) (leb n limit) (le-leb 1 n low) (le-leb n limit high))

-- ---- Each byte may stand where it is written.

routine_byte_stands : (r : RoutineInfo) (j : ℕ) → routine_byte_may_stand j (get_or (routine_bytes r) j 0) ≡ true
routine_byte_stands r j =
    elim (cases_eq j 3) [
      | inl marked ↦ rw marked (le-leb _ _ (mark_below r.function))
      | inr other ↦ or_left _ _ (ap not (ne_eqb _ _ other))
    ]

operand_stands : (used : Bool) (operand byte : ℕ) → (used ≡ false → operand ≡ 0) → (operand ≡ 0 → byte ≡ 0) → (used || eqb byte 0) ≡ true
operand_stands true operand byte unused zeros = refl
operand_stands false operand byte unused zeros = eq-eqb _ _ (zeros (unused refl))

instr_byte_stands : (i : Instr) → UsesItsOperands i → (j : ℕ) → j < 5 → instr_byte_may_stand (row i.op).number j (get_or (instr_bytes i) j 0) ≡ true
instr_byte_stands i unused zero below = ap is_some (op_at-number i.op)
instr_byte_stands i unused (suc zero) below = rw (op_at-number i.op) (operand_stands (row i.op).uses_a i.a _ unused.a (λ e. omega (arith, e)))
instr_byte_stands i unused (suc (suc zero)) below = rw (op_at-number i.op) (operand_stands (row i.op).uses_a i.a _ unused.a (λ e. omega (arith, e)))
instr_byte_stands i unused (suc (suc (suc zero))) below = rw (op_at-number i.op) (operand_stands (row i.op).uses_b i.b _ unused.b (λ e. omega (arith, e)))
instr_byte_stands i unused (suc (suc (suc (suc zero)))) below = rw (op_at-number i.op) (operand_stands (row i.op).uses_b i.b _ unused.b (λ e. omega (arith, e)))
instr_byte_stands i unused (suc (suc (suc (suc (suc j))))) below = absurd (omega arith)

module _ (c : CodeLists) (good : IsCode c) where
  letter_stands : (p : ℕ) → p < 8 → may_stand (code_bytes c) p ≡ true
  letter_stands p below =
      letter (code_bytes c) p below
      ∙ eq-eqb _ _ (byte_in_head c p (omega arith) ∙ get_or_append_left (codes "SEQCODE1" ++ to_be_bytes w16 (length c.routines)) (to_be_bytes w16 (length c.instrs)) 0 p (omega arith) ∙ get_or_append_left (codes "SEQCODE1") (to_be_bytes w16 (length c.routines)) 0 p below)

  counts_stand : (j : ℕ) → j < 4 → may_stand (code_bytes c) (8 + j) ≡ true
  counts_stand zero below = count_stands (leb (length (code_bytes c)) 9) (number_at (code_bytes c) 8) 255 (omega (arith, routine_count c good, good.some_routine)) (omega (arith, routine_count c good, good.few_routines))
  counts_stand (suc zero) below = refl
  counts_stand (suc (suc zero)) below = count_stands (leb (length (code_bytes c)) 11) (number_at (code_bytes c) 10) 8192 (omega (arith, instr_count c good, good.some_instr)) (omega (arith, instr_count c good, good.few_instrs))
  counts_stand (suc (suc (suc zero))) below = refl
  counts_stand (suc (suc (suc (suc j)))) below = absurd (omega arith)

  routines_stand : (k j : ℕ) → k < length c.routines → j < 8 → may_stand (code_bytes c) (12 + 8 * k + j) ≡ true
  routines_stand k j below inside =
      in_routine (code_bytes c) k j (omega (arith, routine_count c good)) inside
      ∙ ap (routine_byte_may_stand j) (byte_in_routine c k j below inside)
      ∙ routine_byte_stands (routine_at c k) j

  place_is : (i j : ℕ) → routines_end (code_bytes c) + 5 * i + j ≡ 12 + 8 * length c.routines + 5 * i + j
  place_is i j = ap (λ n. n + 5 * i + j) (routines_end_is c good)

  first_byte : (i : ℕ) → i < length c.instrs → get_or (code_bytes c) (routines_end (code_bytes c) + 5 * i) 0 ≡ (row (instr_at c i).op).number
  first_byte i below =
      at_place (code_bytes c) (routines_end (code_bytes c) + 5 * i) (12 + 8 * length c.routines + 5 * i + 0) (omega (arith, routines_end_is c good))
      ∙ byte_in_instr c i 0 below (omega arith)

  byte_is : (i j : ℕ) → i < length c.instrs → j < 5 → get_or (code_bytes c) (routines_end (code_bytes c) + 5 * i + j) 0 ≡ get_or (instr_bytes (instr_at c i)) j 0
  byte_is i j below inside = at_place (code_bytes c) _ _ (place_is i j) ∙ byte_in_instr c i j below inside

  instrs_stand : (i j : ℕ) → i < length c.instrs → j < 5 → may_stand (code_bytes c) (routines_end (code_bytes c) + 5 * i + j) ≡ true
  instrs_stand i j below inside =
      in_instr (code_bytes c) i j (omega (arith, instr_count c good)) inside
      ∙ ap (λ n. instr_byte_may_stand n j (get_or (code_bytes c) (routines_end (code_bytes c) + 5 * i + j) 0)) (first_byte i below)
      ∙ ap (instr_byte_may_stand (row (instr_at c i).op).number j) (byte_is i j below inside)
      ∙ instr_byte_stands (instr_at c i) (good.operands i below) j inside

  padding_stands : (p : ℕ) → instrs_end (code_bytes c) ≤ p → may_stand (code_bytes c) p ≡ true
  padding_stands p past = in_padding (code_bytes c) p past ∙ eq-eqb _ _ (byte_in_padding c p (omega (arith, instrs_end_is c good)))

  stand_at : (p q : ℕ) → p ≡ q → may_stand (code_bytes c) p ≡ true → may_stand (code_bytes c) q ≡ true
  stand_at p q e stands = ap (may_stand (code_bytes c)) (sym e) ∙ stands

  stands : (p : ℕ) → may_stand (code_bytes c) p ≡ true
  stands p =
      elim (cases_lt p 8) [
        | inl letters ↦ letter_stands p letters
        | inr past_letters ↦ elim (cases_lt p 12) [
          | inl counts ↦ stand_at (8 + (p - 8)) p (omega arith) (counts_stand (p - 8) (omega arith))
          | inr past_counts ↦ elim (cases_lt p (routines_end (code_bytes c))) [
            | inl routines ↦
                stand_at (12 + 8 * ((p - 12) / 8) + (p - 12) % 8) p (omega arith)
                (routines_stand ((p - 12) / 8) ((p - 12) % 8) (omega (arith, routine_count c good)) (omega arith))
            | inr past_routines ↦ elim (cases_lt p (instrs_end (code_bytes c))) [
              | inl instrs ↦
                  stand_at (routines_end (code_bytes c) + 5 * ((p - routines_end (code_bytes c)) / 5) + (p - routines_end (code_bytes c)) % 5) p (omega arith)
                  (instrs_stand ((p - routines_end (code_bytes c)) / 5) ((p - routines_end (code_bytes c)) % 5) (omega (arith, instr_count c good)) (omega arith))
              | inr past_instrs ↦ padding_stands p past_instrs
            ]
          ]
        ]
      ]

  pub written_is_right : IsRight (code_bytes c)
  written_is_right = record { long = sym (file_end_is c good); stand = λ p below. stands p }

some_is_none : (n : ℕ) → Some n ≡ None → ⊥
some_is_none n e = cc

-- a code file has no wrong byte
pub never_wrong : (bytes : List ℕ) (at : ℕ) (c : CodeLists) → IsCode c → bytes ≡ code_bytes c → wrong_byte bytes ≡ Some at → ⊥
never_wrong bytes at c good e wrong =
    some_is_none at (sym wrong ∙ ap wrong_byte e ∙ none_passes (is_wrong (code_bytes c)) 0 (file_end (code_bytes c) + 1) (none_from (code_bytes c) (written_is_right c good)))

two_bytes : (n : ℕ) → n < 65536 → n ≡ n / 256 % 256 * 256 + n % 256
two_bytes n below = omega arith

mark_again : (b : Bool) → b ≡ eqb (mark b) 1
mark_again true = refl
mark_again false = refl

-- ---- What is written is read again.

module _ (c : CodeLists) (good : IsCode c) (fits : FitsItsFields c) where
  routine_again : (k : ℕ) → k < length c.routines → IsRoutineAt (code_bytes c) (12 + 8 * k) (routine_at c k)
  routine_again k below =
      let byte : (j : ℕ) → j < 8 → get_or (code_bytes c) (12 + 8 * k + j) 0 ≡ get_or (routine_bytes (routine_at c k)) j 0 = λ j inside. byte_in_routine c k j below inside in
      let first : get_or (code_bytes c) (12 + 8 * k) 0 ≡ get_or (routine_bytes (routine_at c k)) 0 0 = at_place (code_bytes c) (12 + 8 * k) (12 + 8 * k + 0) (omega arith) ∙ byte 0 (omega arith) in
      let shifted : (j : ℕ) → j < 8 → get_or (code_bytes c) (12 + 8 * k + j + 1) 0 ≡ get_or (code_bytes c) (12 + 8 * k + (j + 1)) 0 = λ j inside. at_place (code_bytes c) _ _ (omega arith) in
      let small = fits.routines k below in
      record {
        starts = two_bytes _ small.starts ∙ sym (rw (first, byte 1 (omega arith)) refl);
        params = sym (byte 2 (omega arith));
        function = mark_again (routine_at c k).function ∙ sym (ap (λ b. eqb b 1) (byte 3 (omega arith)));
        words = two_bytes _ small.words ∙ sym (rw (byte 4 (omega arith), shifted 4 (omega arith), byte 5 (omega arith)) refl);
        height = two_bytes _ small.height ∙ sym (rw (byte 6 (omega arith), shifted 6 (omega arith), byte 7 (omega arith)) refl);
      }

  instr_again : (i : ℕ) → i < length c.instrs → IsInstrAt (code_bytes c) (routines_end (code_bytes c) + 5 * i) (instr_at c i)
  instr_again i below =
      let place = routines_end (code_bytes c) + 5 * i in
      let byte : (j : ℕ) → j < 5 → get_or (code_bytes c) (place + j) 0 ≡ get_or (instr_bytes (instr_at c i)) j 0 = λ j inside. byte_is c good i j below inside in
      let shifted : (j : ℕ) → j < 5 → get_or (code_bytes c) (place + j + 1) 0 ≡ get_or (code_bytes c) (place + (j + 1)) 0 = λ j inside. at_place (code_bytes c) _ _ (omega arith) in
      let small = fits.instrs i below in
      record {
        number = ap op_at (first_byte c good i below) ∙ op_at-number (instr_at c i).op;
        a = two_bytes _ small.a ∙ sym (rw (byte 1 (omega arith), shifted 1 (omega arith), byte 2 (omega arith)) refl);
        b = two_bytes _ small.b ∙ sym (rw (byte 3 (omega arith), shifted 3 (omega arith), byte 4 (omega arith)) refl);
      }

  one_routine : (bytes : List ℕ) (place : ℕ) (r s : RoutineInfo) → IsRoutineAt bytes place r → IsRoutineAt bytes place s → r ≡ s
  one_routine bytes place r s p q = grind (arith, p.starts, p.params, p.function, p.words, p.height, q.starts, q.params, q.function, q.words, q.height)

  one_instr : (bytes : List ℕ) (place : ℕ) (i j : Instr) → IsInstrAt bytes place i → IsInstrAt bytes place j → i ≡ j
  one_instr bytes place i j p q =
      let same : i.op ≡ j.op = some_is i.op j.op (sym p.number ∙ q.number) in
      grind (arith, same, p.a, p.b, q.a, q.b)

  -- what was read from the bytes of c is c
  pub read_again : (d : CodeLists) → IsReadFrom (code_bytes c) d → d ≡ c
  read_again d from =
      let routines : d.routines ≡ c.routines = ext_get_or no_routine d.routines c.routines (from.routine_count ∙ routine_count c good)
      (λ k below. one_routine (code_bytes c) (12 + 8 * k) _ _ (from.routines k below) (routine_again k (omega (arith, from.routine_count, routine_count c good)))) in
      let instrs : d.instrs ≡ c.instrs = ext_get_or no_instr d.instrs c.instrs (from.instr_count ∙ instr_count c good)
      (λ i below. one_instr (code_bytes c) (routines_end (code_bytes c) + 5 * i) _ _ (from.instrs i below) (instr_again i (omega (arith, from.instr_count, instr_count c good)))) in
      grind (arith, routines, instrs)
