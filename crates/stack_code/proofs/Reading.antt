-- What is read from bytes that are right is written as these bytes.
use Rattle.std.proofs.Common.{◌≡◌, ℕ, zero, suc, ◌+◌, ◌-◌, ◌*◌, ◌/◌, ◌%◌, ◌<◌, ◌≤◌, true, false, cond, eqb, leb, ◌||◌, ◌&&◌, List, ◌++◌, length, get_or, None, refl, sym, ◌∙◌, ap, arith, inl, inr}
use Rattle.std.specs.Prelude.{codes, is_some}
use Rattle.std.specs.Int.{w16, to_be_bytes}
use Rattle.std.proofs.lemmas.Bool.{cases_lt, eqb-true, leb-true, or_cases, and_parts}
use Rattle.std.proofs.lemmas.List.{ext_get_or, get_or_append_left}
use Rattle.stack_code.specs.declared.instr.Instr.{Instr}
use Rattle.stack_code.specs.declared.instr.RoutineInfo.{RoutineInfo}
use Rattle.stack_code.specs.Table.{row, op_at}
use Rattle.stack_code.specs.CodeLists.{CodeLists, IsCode, routine_at, instr_at}
use Rattle.solo_base.specs.PageBytes.{number_at}
use Rattle.stack_code.specs.CodeFile.{routine_bytes, instr_bytes, head_bytes, text_bytes, code_bytes, routines_end, instrs_end, file_end, uses_a, uses_b, is_wrong, wrong_byte, IsRoutineAt, IsInstrAt}
use Rattle.stack_code.proofs.Least.{fails_below}
use Rattle.stack_code.proofs.Rows.{number-op_at}
use Rattle.stack_code.proofs.Positions.{text_length, code_length, byte_in_head, byte_in_routine, byte_in_instr, byte_in_padding}
use Rattle.stack_code.proofs.Regions.{IsRight, right_from, letter, in_routine, in_instr, in_padding}

abbrev pub IsBytes : List ℕ → Type 0
IsBytes bytes = (p : ℕ) → get_or bytes p 0 < 256

-- bytes with no wrong byte are right
pub right_of : (bytes : List ℕ) → wrong_byte bytes ≡ None → IsRight bytes
right_of bytes none = right_from bytes (fails_below (is_wrong bytes) 0 (file_end bytes + 1) none)

-- the code that was read from the bytes
pub record IsReadFrom (bytes : List ℕ) (c : CodeLists) : Type 0 where
  pub routine_count : length c.routines ≡ number_at bytes 8
  pub routines : (k : ℕ) → k < length c.routines → IsRoutineAt bytes (12 + 8 * k) (routine_at c k)
  pub instr_count : length c.instrs ≡ number_at bytes 10
  pub instrs : (i : ℕ) → i < length c.instrs → IsInstrAt bytes (routines_end bytes + 5 * i) (instr_at c i)

high_of : (a b n : ℕ) → a < 256 → b < 256 → n ≡ a * 256 + b → n / 256 % 256 ≡ a
high_of a b n small low e = omega arith

low_of : (a b n : ℕ) → b < 256 → n ≡ a * 256 + b → n % 256 ≡ b
low_of a b n low e = omega arith

mark_is : (b : ℕ) → b ≤ 1 → cond (eqb b 1) 1 0 ≡ b
mark_is zero small = refl
mark_is (suc zero) small = refl
mark_is (suc (suc b)) small = absurd (omega arith)

pub at_place : (bytes : List ℕ) (p q : ℕ) → p ≡ q → get_or bytes p 0 ≡ get_or bytes q 0
at_place bytes p q e = ap (λ x. get_or bytes x 0) e

routine_byte_is : (bytes : List ℕ) (place : ℕ) (r : RoutineInfo) → IsBytes bytes → IsRoutineAt bytes place r → get_or bytes (place + 3) 0 ≤ 1 → (j : ℕ) → j < 8 → get_or (routine_bytes r) j 0 ≡ get_or bytes (place + j) 0
routine_byte_is bytes place r fits at marked zero below = high_of _ _ r.start (fits place) (fits (place + 1)) at.starts ∙ at_place bytes place (place + 0) (omega arith)
routine_byte_is bytes place r fits at marked (suc zero) below = low_of (get_or bytes place 0) _ r.start (fits (place + 1)) at.starts
routine_byte_is bytes place r fits at marked (suc (suc zero)) below = at.params
routine_byte_is bytes place r fits at marked (suc (suc (suc zero))) below = ap (λ b. cond b 1 0) at.function ∙ mark_is (get_or bytes (place + 3) 0) marked
routine_byte_is bytes place r fits at marked (suc (suc (suc (suc zero)))) below = high_of _ _ r.words (fits (place + 4)) (fits (place + 4 + 1)) at.words
routine_byte_is bytes place r fits at marked (suc (suc (suc (suc (suc zero))))) below = low_of (get_or bytes (place + 4) 0) _ r.words (fits (place + 4 + 1)) at.words ∙ at_place bytes _ _ (omega arith)
routine_byte_is bytes place r fits at marked (suc (suc (suc (suc (suc (suc zero)))))) below = high_of _ _ r.height (fits (place + 6)) (fits (place + 6 + 1)) at.height
routine_byte_is bytes place r fits at marked (suc (suc (suc (suc (suc (suc (suc zero))))))) below = low_of (get_or bytes (place + 6) 0) _ r.height (fits (place + 6 + 1)) at.height ∙ at_place bytes _ _ (omega arith)
routine_byte_is bytes place r fits at marked (suc (suc (suc (suc (suc (suc (suc (suc j)))))))) below = absurd (omega arith)

instr_byte_is : (bytes : List ℕ) (place : ℕ) (i : Instr) → IsBytes bytes → IsInstrAt bytes place i → (j : ℕ) → j < 5 → get_or (instr_bytes i) j 0 ≡ get_or bytes (place + j) 0
instr_byte_is bytes place i fits at zero below = number-op_at _ i.op at.number ∙ at_place bytes place (place + 0) (omega arith)
instr_byte_is bytes place i fits at (suc zero) below = high_of _ _ i.a (fits (place + 1)) (fits (place + 1 + 1)) at.a
instr_byte_is bytes place i fits at (suc (suc zero)) below = low_of (get_or bytes (place + 1) 0) _ i.a (fits (place + 1 + 1)) at.a ∙ at_place bytes _ _ (omega arith)
instr_byte_is bytes place i fits at (suc (suc (suc zero))) below = high_of _ _ i.b (fits (place + 3)) (fits (place + 3 + 1)) at.b
instr_byte_is bytes place i fits at (suc (suc (suc (suc zero)))) below = low_of (get_or bytes (place + 3) 0) _ i.b (fits (place + 3 + 1)) at.b ∙ at_place bytes _ _ (omega arith)
instr_byte_is bytes place i fits at (suc (suc (suc (suc (suc j))))) below = absurd (omega arith)

-- the four bytes of the counts
count_byte_is : (bytes : List ℕ) (c : CodeLists) → IsBytes bytes → IsReadFrom bytes c → (j : ℕ) → j < 4 → get_or (head_bytes c) (8 + j) 0 ≡ get_or bytes (8 + j) 0
count_byte_is bytes c fits from zero below = high_of _ _ (length c.routines) (fits 8) (fits 9) from.routine_count
count_byte_is bytes c fits from (suc zero) below = low_of (get_or bytes 8 0) _ (length c.routines) (fits 9) from.routine_count
count_byte_is bytes c fits from (suc (suc zero)) below = high_of _ _ (length c.instrs) (fits 10) (fits 11) from.instr_count
count_byte_is bytes c fits from (suc (suc (suc zero))) below = low_of (get_or bytes 10 0) _ (length c.instrs) (fits 11) from.instr_count
count_byte_is bytes c fits from (suc (suc (suc (suc j)))) below = absurd (omega arith)

pub number_fits : (bytes : List ℕ) → IsRight bytes → (i : ℕ) → i < number_at bytes 10 → is_some (op_at (get_or bytes (routines_end bytes + 5 * i) 0)) ≡ true
number_fits bytes right i below =
    let place = routines_end bytes + 5 * i in
    ap (λ byte. is_some (op_at byte)) (at_place bytes place (place + 0) (omega arith))
    ∙ sym (in_instr bytes i 0 below (omega arith)) ∙ right.stand (place + 0) (omega arith)

module _ (bytes : List ℕ) (c : CodeLists) (fits : IsBytes bytes) (right : IsRight bytes) (from : IsReadFrom bytes c) where
  front : length (text_bytes c) ≡ instrs_end bytes
  front = text_length c ∙ omega (arith, from.routine_count, from.instr_count)

  whole : length (code_bytes c) ≡ length bytes
  whole = code_length c ∙ ap (λ n. n + (512 - n % 512) % 512) front ∙ sym right.long

  letter_same : (p : ℕ) → p < 8 → get_or bytes p 0 ≡ get_or (code_bytes c) p 0
  letter_same p below =
      eqb-true _ _ (sym (letter bytes p below) ∙ right.stand p (omega arith))
      ∙ sym (byte_in_head c p (omega arith) ∙ get_or_append_left (codes "SEQCODE1" ++ to_be_bytes w16 (length c.routines)) (to_be_bytes w16 (length c.instrs)) 0 p (omega arith) ∙ get_or_append_left (codes "SEQCODE1") (to_be_bytes w16 (length c.routines)) 0 p below)

  count_same : (j : ℕ) → j < 4 → get_or bytes (8 + j) 0 ≡ get_or (code_bytes c) (8 + j) 0
  count_same j below = sym (byte_in_head c (8 + j) (omega arith) ∙ count_byte_is bytes c fits from j below)

  marked : (k : ℕ) → k < number_at bytes 8 → get_or bytes (12 + 8 * k + 3) 0 ≤ 1
  marked k below = leb-true _ _ (sym (in_routine bytes k 3 below (omega arith)) ∙ right.stand (12 + 8 * k + 3) (omega arith))

  routine_same : (k j : ℕ) → k < number_at bytes 8 → j < 8 → get_or bytes (12 + 8 * k + j) 0 ≡ get_or (code_bytes c) (12 + 8 * k + j) 0
  routine_same k j below inside =
      let there : k < length c.routines = omega (arith, from.routine_count) in
      sym (byte_in_routine c k j there inside ∙ routine_byte_is bytes (12 + 8 * k) (routine_at c k) fits (from.routines k there) (marked k below) j inside)

  instr_same : (i j : ℕ) → i < number_at bytes 10 → j < 5 → get_or bytes (routines_end bytes + 5 * i + j) 0 ≡ get_or (code_bytes c) (routines_end bytes + 5 * i + j) 0
  instr_same i j below inside =
      let there : i < length c.instrs = omega (arith, from.instr_count) in
      let place : 12 + 8 * length c.routines + 5 * i + j ≡ routines_end bytes + 5 * i + j = omega (arith, from.routine_count) in
      sym (at_place (code_bytes c) _ _ (sym place) ∙ byte_in_instr c i j there inside ∙ instr_byte_is bytes (routines_end bytes + 5 * i) (instr_at c i) fits (from.instrs i there) j inside)

  padding_same : (p : ℕ) → instrs_end bytes ≤ p → p < length bytes → get_or bytes p 0 ≡ get_or (code_bytes c) p 0
  padding_same p past below =
      eqb-true _ _ (sym (in_padding bytes p past) ∙ right.stand p (omega (arith, right.long)))
      ∙ sym (byte_in_padding c p (omega (arith, front)))

  same : (p : ℕ) → p < length bytes → get_or bytes p 0 ≡ get_or (code_bytes c) p 0
  same p below =
      elim (cases_lt p 8) [
        | inl letters ↦ letter_same p letters
        | inr past_letters ↦ elim (cases_lt p 12) [
          | inl counts ↦
              let place : 8 + (p - 8) ≡ p = omega arith in
              at_place bytes _ _ (sym place) ∙ count_same (p - 8) (omega arith) ∙ at_place (code_bytes c) _ _ place
          | inr past_counts ↦ elim (cases_lt p (routines_end bytes)) [
            | inl routines ↦
                let k = (p - 12) / 8 in
                let j = (p - 12) % 8 in
                let place : 12 + 8 * k + j ≡ p = omega arith in
                at_place bytes _ _ (sym place) ∙ routine_same k j (omega arith) (omega arith) ∙ at_place (code_bytes c) _ _ place
            | inr past_routines ↦ elim (cases_lt p (instrs_end bytes)) [
              | inl instrs ↦
                  let i = (p - routines_end bytes) / 5 in
                  let j = (p - routines_end bytes) % 5 in
                  let place : routines_end bytes + 5 * i + j ≡ p = omega arith in
                  at_place bytes _ _ (sym place) ∙ instr_same i j (omega arith) (omega arith) ∙ at_place (code_bytes c) _ _ place
              | inr past_instrs ↦ padding_same p past_instrs below
            ]
          ]
        ]
      ]

  pub read_is : bytes ≡ code_bytes c
  read_is = ext_get_or 0 bytes (code_bytes c) (sym whole) same

  -- ---- What is read is code.

  count_fits : (place limit : ℕ) → (leb (length bytes) (place + 1) || (leb 1 (number_at bytes place) && leb (number_at bytes place) limit)) ≡ true → place + 1 < length bytes → (1 ≤ number_at bytes place) × (number_at bytes place ≤ limit)
  count_fits place limit stands there =
      elim (or_cases (leb (length bytes) (place + 1)) (leb 1 (number_at bytes place) && leb (number_at bytes place) limit) stands) [
        | inl short ↦ absurd (omega (arith, leb-true (length bytes) (place + 1) short))
        | inr both ↦ let parts = and_parts (leb 1 (number_at bytes place)) (leb (number_at bytes place) limit) both in (leb-true 1 (number_at bytes place) parts.0, leb-true (number_at bytes place) limit parts.1)
      ]

  long : 12 ≤ length bytes
  long = omega (arith, right.long)

  routines_fit : (1 ≤ length c.routines) × (length c.routines ≤ 255)
  routines_fit =
      let both = count_fits 8 255 (right.stand 8 (omega arith)) (omega (arith, long)) in
      (omega (arith, both.0, from.routine_count), omega (arith, both.1, from.routine_count))

  instrs_fit : (1 ≤ length c.instrs) × (length c.instrs ≤ 8192)
  instrs_fit =
      let both = count_fits 10 8192 (right.stand 10 (omega arith)) (omega (arith, long)) in
      (omega (arith, both.0, from.instr_count), omega (arith, both.1, from.instr_count))

  unused_a : (i : ℕ) → i < length c.instrs → (row (instr_at c i).op).uses_a ≡ false → (instr_at c i).a ≡ 0
  unused_a i there unused =
      let at = from.instrs i there in
      let below : i < number_at bytes 10 = omega (arith, from.instr_count) in
      let place = routines_end bytes + 5 * i in
      let no : uses_a (get_or bytes place 0) ≡ false = rw at.number unused in
      let zero_byte : (j : ℕ) → (uses_a (get_or bytes place 0) || eqb (get_or bytes (place + j) 0) 0) ≡ true → get_or bytes (place + j) 0 ≡ 0 =
      λ j stands. eqb-true _ _ (sym (ap (λ b. b || eqb (get_or bytes (place + j) 0) 0) no) ∙ stands) in
      let high = zero_byte 1 (sym (in_instr bytes i 1 below (omega arith)) ∙ right.stand (place + 1) (omega arith)) in
      let low = zero_byte 2 (sym (in_instr bytes i 2 below (omega arith)) ∙ right.stand (place + 2) (omega arith)) in
      at.a ∙ omega (arith, high, low, at_place bytes (place + 1 + 1) (place + 2) (omega arith))

  unused_b : (i : ℕ) → i < length c.instrs → (row (instr_at c i).op).uses_b ≡ false → (instr_at c i).b ≡ 0
  unused_b i there unused =
      let at = from.instrs i there in
      let below : i < number_at bytes 10 = omega (arith, from.instr_count) in
      let place = routines_end bytes + 5 * i in
      let no : uses_b (get_or bytes place 0) ≡ false = rw at.number unused in
      let zero_byte : (j : ℕ) → (uses_b (get_or bytes place 0) || eqb (get_or bytes (place + j) 0) 0) ≡ true → get_or bytes (place + j) 0 ≡ 0 =
      λ j stands. eqb-true _ _ (sym (ap (λ b. b || eqb (get_or bytes (place + j) 0) 0) no) ∙ stands) in
      let high = zero_byte 3 (sym (in_instr bytes i 3 below (omega arith)) ∙ right.stand (place + 3) (omega arith)) in
      let low = zero_byte 4 (sym (in_instr bytes i 4 below (omega arith)) ∙ right.stand (place + 4) (omega arith)) in
      at.b ∙ omega (arith, high, low, at_place bytes (place + 3 + 1) (place + 4) (omega arith))

  pub read_is_code : IsCode c
  read_is_code = record {
    some_routine = routines_fit.0;
    few_routines = routines_fit.1;
    some_instr = instrs_fit.0;
    few_instrs = instrs_fit.1;
    operands = λ i there. record { a = unused_a i there; b = unused_b i there };
  }
