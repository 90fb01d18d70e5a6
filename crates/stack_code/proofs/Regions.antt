-- What is asked of a byte, by the part of the file in which it stands.
use Rattle.std.proofs.Common.{◌≡◌, ℕ, ◌+◌, ◌-◌, ◌*◌, ◌%◌, ◌<◌, ◌≤◌, Bool, true, false, not, ◌&&◌, cond, eqb, ltb, List, length, get_or, sym, ◌∙◌, ap, arith, inl, inr}
use Rattle.std.specs.Prelude.{codes}
use Rattle.std.proofs.lemmas.Bool.{cases_lt, cond-true, cond-false, lt-ltb, le-ltb, ne_eqb, ltb-true, ltb-false, not-false, and_parts, and_from}
use Rattle.solo_base.specs.PageBytes.{number_at}
use Rattle.stack_code.specs.CodeFile.{routines_end, instrs_end, file_end, count_may_stand, routine_byte_may_stand, instr_byte_may_stand, may_stand, is_wrong}

-- each byte of the file is there and may stand there, and no byte is behind it
pub record IsRight (bytes : List ℕ) : Type 0 where
  pub long : length bytes ≡ file_end bytes
  pub stand : (p : ℕ) → p < file_end bytes → may_stand bytes p ≡ true

inside : (bytes : List ℕ) (p : ℕ) → p < file_end bytes → is_wrong bytes p ≡ not (ltb p (length bytes) && may_stand bytes p)
inside bytes p below = cond-true (ltb p (file_end bytes)) (not (ltb p (length bytes) && may_stand bytes p)) (ltb p (length bytes)) (lt-ltb _ _ below)

at_end : (bytes : List ℕ) → is_wrong bytes (file_end bytes) ≡ ltb (file_end bytes) (length bytes)
at_end bytes = cond-false (ltb (file_end bytes) (file_end bytes)) (not (ltb (file_end bytes) (length bytes) && may_stand bytes (file_end bytes))) (ltb (file_end bytes) (length bytes)) (le-ltb _ _ (omega arith))

pub right_from : (bytes : List ℕ) → ((p : ℕ) → 0 ≤ p → p < 0 + (file_end bytes + 1) → is_wrong bytes p ≡ false) → IsRight bytes
right_from bytes none =
    let parts : (p : ℕ) → p < file_end bytes → (ltb p (length bytes) ≡ true) × (may_stand bytes p ≡ true) =
    λ p below. and_parts _ _ (not-false _ (sym (inside bytes p below) ∙ none p (omega arith) (omega arith))) in
    let short : length bytes ≤ file_end bytes = ltb-false _ _ (sym (at_end bytes) ∙ none (file_end bytes) (omega arith) (omega arith)) in
    let long : (length bytes < file_end bytes) → ⊥ = λ less. omega (arith, ltb-true _ _ ((parts (length bytes) less).0)) in
    record { long = omega (arith, short, long); stand = λ p below. (parts p below).1 }

pub none_from : (bytes : List ℕ) → IsRight bytes → (p : ℕ) → 0 ≤ p → p < 0 + (file_end bytes + 1) → is_wrong bytes p ≡ false
none_from bytes right p above below =
    elim (cases_lt p (file_end bytes)) [
      | inl less ↦ inside bytes p less ∙ ap not (and_from _ _ (lt-ltb _ _ (omega (arith, right.long))) (right.stand p less))
      | inr end ↦
          let same : p ≡ file_end bytes = omega arith in
          ap (is_wrong bytes) same ∙ at_end bytes ∙ le-ltb _ _ (omega (arith, right.long))
    ]

-- ---- The parts of the file

abbrev from_12 : List ℕ → ℕ → Bool
from_12 bytes p =
    cond (ltb p (routines_end bytes)) (routine_byte_may_stand ((p - 12) % 8) (get_or bytes p 0))
    (cond (ltb p (instrs_end bytes)) (instr_byte_may_stand (get_or bytes (p - (p - routines_end bytes) % 5) 0) ((p - routines_end bytes) % 5) (get_or bytes p 0)) (eqb (get_or bytes p 0) 0))

abbrev from_8 : List ℕ → ℕ → Bool
from_8 bytes p = cond (eqb p 8) (count_may_stand bytes 8 255) (cond (eqb p 10) (count_may_stand bytes 10 8192) (cond (ltb p 12) true (from_12 bytes p)))

pub letter : (bytes : List ℕ) (p : ℕ) → p < 8 → may_stand bytes p ≡ eqb (get_or bytes p 0) (get_or (codes "SEQCODE1") p 0)
letter bytes p below = cond-true (ltb p 8) _ (from_8 bytes p) (lt-ltb _ _ below)

past_head : (bytes : List ℕ) (p : ℕ) → 12 ≤ p → may_stand bytes p ≡ from_12 bytes p
past_head bytes p past =
    cond-false (ltb p 8) (eqb (get_or bytes p 0) (get_or (codes "SEQCODE1") p 0)) (from_8 bytes p) (le-ltb _ _ (omega arith))
    ∙ cond-false (eqb p 8) _ _ (ne_eqb _ _ (λ e. omega (arith, e)))
    ∙ cond-false (eqb p 10) _ _ (ne_eqb _ _ (λ e. omega (arith, e)))
    ∙ cond-false (ltb p 12) _ _ (le-ltb _ _ past)

pub in_routines : (bytes : List ℕ) (p : ℕ) → 12 ≤ p → p < routines_end bytes → may_stand bytes p ≡ routine_byte_may_stand ((p - 12) % 8) (get_or bytes p 0)
in_routines bytes p past below = past_head bytes p past ∙ cond-true (ltb p (routines_end bytes)) _ _ (lt-ltb _ _ below)

pub in_instrs : (bytes : List ℕ) (p : ℕ) → routines_end bytes ≤ p → p < instrs_end bytes → may_stand bytes p ≡ instr_byte_may_stand (get_or bytes (p - (p - routines_end bytes) % 5) 0) ((p - routines_end bytes) % 5) (get_or bytes p 0)
in_instrs bytes p past below =
    past_head bytes p (omega arith)
    ∙ cond-false (ltb p (routines_end bytes)) _ _ (le-ltb _ _ past)
    ∙ cond-true (ltb p (instrs_end bytes)) _ _ (lt-ltb _ _ below)

pub in_padding : (bytes : List ℕ) (p : ℕ) → instrs_end bytes ≤ p → may_stand bytes p ≡ eqb (get_or bytes p 0) 0
in_padding bytes p past =
    past_head bytes p (omega arith)
    ∙ cond-false (ltb p (routines_end bytes)) _ _ (le-ltb _ _ (omega arith))
    ∙ cond-false (ltb p (instrs_end bytes)) _ _ (le-ltb _ _ past)

-- byte j of routine k, and of instruction i
pub in_routine : (bytes : List ℕ) (k j : ℕ) → k < number_at bytes 8 → j < 8 → may_stand bytes (12 + 8 * k + j) ≡ routine_byte_may_stand j (get_or bytes (12 + 8 * k + j) 0)
in_routine bytes k j below inside =
    let at : (12 + 8 * k + j - 12) % 8 ≡ j = omega arith in
    in_routines bytes (12 + 8 * k + j) (omega arith) (omega arith) ∙ ap (λ a. routine_byte_may_stand a (get_or bytes (12 + 8 * k + j) 0)) at

pub in_instr : (bytes : List ℕ) (i j : ℕ) → i < number_at bytes 10 → j < 5 → may_stand bytes (routines_end bytes + 5 * i + j) ≡ instr_byte_may_stand (get_or bytes (routines_end bytes + 5 * i) 0) j (get_or bytes (routines_end bytes + 5 * i + j) 0)
in_instr bytes i j below inside =
    let p = routines_end bytes + 5 * i + j in
    let at : (routines_end bytes + 5 * i + j - routines_end bytes) % 5 ≡ j = omega arith in
    let front : p - (p - routines_end bytes) % 5 ≡ routines_end bytes + 5 * i = omega (arith, at) in
    in_instrs bytes p (omega arith) (omega arith)
    ∙ ap (λ a. instr_byte_may_stand (get_or bytes a 0) ((p - routines_end bytes) % 5) (get_or bytes p 0)) front
    ∙ ap (λ a. instr_byte_may_stand (get_or bytes (routines_end bytes + 5 * i) 0) a (get_or bytes p 0)) at
