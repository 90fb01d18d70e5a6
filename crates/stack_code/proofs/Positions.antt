-- Which byte stands at each place of a code file.
use Rattle.std.proofs.Common.{◌≡◌, ℕ, zero, suc, ◌+◌, ◌-◌, ◌*◌, ◌/◌, ◌%◌, ◌<◌, ◌≤◌, List, [], ◌∷◌, ◌++◌, length, get_or, refl, sym, ◌∙◌, ap, arith, inl, inr}
use Rattle.std.specs.Prelude.{replicate}
use Rattle.std.specs.List.{flat_map}
use Rattle.std.proofs.lemmas.Bool.{cases_lt}
use Rattle.std.proofs.lemmas.List.{length-append, length-replicate, get_or_append_left, get_or-append_right, get_or-replicate, get_or_past}
use Rattle.stack_code.specs.CodeLists.{CodeLists, IsCode, no_routine, no_instr, routine_at, instr_at}
use Rattle.solo_base.specs.PageBytes.{number_at}
use Rattle.stack_code.specs.CodeFile.{routine_bytes, instr_bytes, head_bytes, text_bytes, padding, code_bytes, routines_end, instrs_end, file_end}

pub pieces_length : {X : Type 0} (f : X → List ℕ) (n : ℕ) → ((x : X) → length (f x) ≡ n) → (xs : List X) → length (flat_map f xs) ≡ n * length xs
pieces_length f n each [] = omega arith
pieces_length f n each (x ∷ xs) = simp length-append (omega (arith, each x, pieces_length f n each xs))

-- byte j of piece i, where the pieces have n bytes each
pub piece_byte : {X : Type 0} (f : X → List ℕ) (n : ℕ) → ((x : X) → length (f x) ≡ n) → (xs : List X) (i j : ℕ) (e : X) → i < length xs → j < n → get_or (flat_map f xs) (n * i + j) 0 ≡ get_or (f (get_or xs i e)) j 0
piece_byte f n each [] i j e below inside = absurd (omega arith)
piece_byte f n each (x ∷ xs) zero j e below inside =
    let place : n * 0 + j ≡ j = omega arith in
    let here : j < length (f x) = omega (arith, each x) in
    ap (λ p. get_or (f x ++ flat_map f xs) p 0) place ∙ get_or_append_left (f x) (flat_map f xs) 0 j here
piece_byte f n each (x ∷ xs) (suc i) j e below inside =
    let place : n * suc i + j - n ≡ n * i + j = omega arith in
    get_or-append_right (f x) (flat_map f xs) n (n * suc i + j) 0 (each x) (omega arith)
    ∙ ap (λ p. get_or (flat_map f xs) p 0) place
    ∙ piece_byte f n each xs i j e (omega arith) inside

abbrev zeros_of : ℕ → List ℕ
zeros_of n = replicate n 0

zero_byte : (n p : ℕ) → get_or (zeros_of n) p 0 ≡ 0
zero_byte n p =
    elim (cases_lt p n) [
      | inl below ↦ get_or-replicate {A = ℕ} n p 0 0 below
      | inr past ↦ get_or_past (zeros_of n) p 0 (omega (arith, length-replicate {A = ℕ} n 0))
    ]

abbrev rs : CodeLists → List ℕ
rs c = flat_map routine_bytes c.routines

abbrev is : CodeLists → List ℕ
is c = flat_map instr_bytes c.instrs

abbrev zeros : CodeLists → List ℕ
zeros c = zeros_of (padding (length (text_bytes c)))

rs_length : (c : CodeLists) → length (rs c) ≡ 8 * length c.routines
rs_length c = pieces_length routine_bytes 8 (λ r. refl) c.routines

is_length : (c : CodeLists) → length (is c) ≡ 5 * length c.instrs
is_length c = pieces_length instr_bytes 5 (λ i. refl) c.instrs

front_length : (c : CodeLists) → length (head_bytes c ++ rs c) ≡ 12 + 8 * length c.routines
front_length c = length-append (head_bytes c) (rs c) ∙ omega (arith, rs_length c)

pub text_length : (c : CodeLists) → length (text_bytes c) ≡ 12 + 8 * length c.routines + 5 * length c.instrs
text_length c = length-append (head_bytes c ++ rs c) (is c) ∙ omega (arith, front_length c, is_length c)

pub code_length : (c : CodeLists) → length (code_bytes c) ≡ length (text_bytes c) + padding (length (text_bytes c))
unfolding code_bytes
code_length c = length-append (text_bytes c) (zeros c) ∙ omega (arith, length-replicate {A = ℕ} (padding (length (text_bytes c))) 0)

pub byte_in_head : (c : CodeLists) (p : ℕ) → p < 12 → get_or (code_bytes c) p 0 ≡ get_or (head_bytes c) p 0
unfolding code_bytes
byte_in_head c p below =
    get_or_append_left (text_bytes c) (zeros c) 0 p (omega (arith, text_length c))
    ∙ get_or_append_left (head_bytes c ++ rs c) (is c) 0 p (omega (arith, front_length c))
    ∙ get_or_append_left (head_bytes c) (rs c) 0 p below

pub byte_in_routine : (c : CodeLists) (k j : ℕ) → k < length c.routines → j < 8 → get_or (code_bytes c) (12 + 8 * k + j) 0 ≡ get_or (routine_bytes (routine_at c k)) j 0
unfolding code_bytes
byte_in_routine c k j below inside =
    let place : 12 + 8 * k + j - 12 ≡ 8 * k + j = omega arith in
    get_or_append_left (text_bytes c) (zeros c) 0 (12 + 8 * k + j) (omega (arith, text_length c))
    ∙ get_or_append_left (head_bytes c ++ rs c) (is c) 0 (12 + 8 * k + j) (omega (arith, front_length c))
    ∙ get_or-append_right (head_bytes c) (rs c) 12 (12 + 8 * k + j) 0 refl (omega arith)
    ∙ ap (λ p. get_or (rs c) p 0) place
    ∙ piece_byte routine_bytes 8 (λ r. refl) c.routines k j no_routine below inside

pub byte_in_instr : (c : CodeLists) (i j : ℕ) → i < length c.instrs → j < 5 → get_or (code_bytes c) (12 + 8 * length c.routines + 5 * i + j) 0 ≡ get_or (instr_bytes (instr_at c i)) j 0
unfolding code_bytes
byte_in_instr c i j below inside =
    let before = 12 + 8 * length c.routines in
    let place : before + 5 * i + j - before ≡ 5 * i + j = omega arith in
    get_or_append_left (text_bytes c) (zeros c) 0 (before + 5 * i + j) (omega (arith, text_length c))
    ∙ get_or-append_right (head_bytes c ++ rs c) (is c) before (before + 5 * i + j) 0 (front_length c) (omega arith)
    ∙ ap (λ p. get_or (is c) p 0) place
    ∙ piece_byte instr_bytes 5 (λ i. refl) c.instrs i j no_instr below inside

pub byte_in_padding : (c : CodeLists) (p : ℕ) → length (text_bytes c) ≤ p → get_or (code_bytes c) p 0 ≡ 0
unfolding code_bytes
byte_in_padding c p past =
    get_or-append_right (text_bytes c) (zeros c) (length (text_bytes c)) p 0 refl past
    ∙ zero_byte (padding (length (text_bytes c))) (p - length (text_bytes c))

-- ---- The counts in the head give the places where the parts end.

two_bytes : (n : ℕ) → n < 65536 → n / 256 % 256 * 256 + n % 256 ≡ n
two_bytes n below = omega arith

pub routine_count : (c : CodeLists) → IsCode c → number_at (code_bytes c) 8 ≡ length c.routines
routine_count c good =
    let high = byte_in_head c 8 (omega arith) in
    let low = byte_in_head c 9 (omega arith) in
    rw (high, low) (two_bytes (length c.routines) (omega (arith, good.few_routines)))

pub instr_count : (c : CodeLists) → IsCode c → number_at (code_bytes c) 10 ≡ length c.instrs
instr_count c good =
    let high = byte_in_head c 10 (omega arith) in
    let low = byte_in_head c 11 (omega arith) in
    rw (high, low) (two_bytes (length c.instrs) (omega (arith, good.few_instrs)))

pub routines_end_is : (c : CodeLists) → IsCode c → routines_end (code_bytes c) ≡ 12 + 8 * length c.routines
routines_end_is c good = ap (λ n. 12 + 8 * n) (routine_count c good)

pub instrs_end_is : (c : CodeLists) → IsCode c → instrs_end (code_bytes c) ≡ length (text_bytes c)
instrs_end_is c good = rw (routine_count c good, instr_count c good) (sym (text_length c))

pub file_end_is : (c : CodeLists) → IsCode c → file_end (code_bytes c) ≡ length (code_bytes c)
file_end_is c good = ap (λ n. n + padding n) (instrs_end_is c good) ∙ sym (code_length c)
