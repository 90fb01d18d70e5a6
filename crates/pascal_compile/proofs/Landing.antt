-- Jumps that land behind what was emitted since.
use Rattle.std.proofs.Common.{◌≡◌, ℕ, ◌+◌, ◌-◌, List, [], ◌∷◌, ◌++◌, length, arith, refl, ap, sym, ◌∙◌, length-append, append_assoc}
use Rattle.std.specs.Prelude.{slice_set}
use Rattle.std.proofs.Math.Seq.{set-append_seam}
use Rattle.stack_code.specs.declared.table.Op.TheVariants as op
use Rattle.stack_code.specs.declared.instr.Instr.{Instr}
use Rattle.pascal_code.specs.Instructions.{bare}
use Rattle.pascal_code.specs.Statements.{jump, jump_if_false}

-- an instruction is replaced where it stands
pub seam : (front later : List Instr) (x y : Instr) → slice_set (front ++ x ∷ later) (length front) y ≡ front ++ y ∷ later
seam front later x y = set-append_seam front x later y

-- one instruction and a list behind it
pub behind_one : (a : List Instr) (x : Instr) (b : List Instr) → (a ++ x ∷ []) ++ b ≡ a ++ x ∷ b
behind_one a x b = append_assoc a (x ∷ []) b

-- a jump at the end of a front lands behind the part that follows
pub lands : (front part whole : List Instr) (x : Instr) (y : ℕ → Instr) (out : ℕ)
    → whole ≡ (front ++ x ∷ []) ++ part → out ≡ length front + 1 + length part
    → slice_set whole (length front) (y (length whole)) ≡ front ++ y out ∷ part
lands front part whole x y out is n =
    let joined : whole ≡ front ++ x ∷ part = is ∙ behind_one front x part in
    let count : length whole ≡ out =
    ap length joined ∙ omega (arith, length-append front (x ∷ part), n) in
    ap (λ w. slice_set w (length front) (y (length whole))) joined
    ∙ seam front part x (y (length whole))
    ∙ ap (λ m. front ++ y m ∷ part) count

pub nothing_behind : (a : List Instr) → a ++ [] ≡ a
nothing_behind [] = refl
nothing_behind (x ∷ xs) = ap (λ l. x ∷ l) (nothing_behind xs)

-- ---- Statements

-- a TICK, a test, and a statement that is passed over where the test fails
pub if_lands : (old test : List Instr) (tick : Instr) (inside : ℕ → List Instr) (one two three four five : List Instr)
    → one ≡ old ++ tick ∷ [] → two ≡ one ++ test → three ≡ two ++ jump_if_false 0 ∷ []
    → four ≡ three ++ inside (length three) → five ≡ slice_set four (length two) (jump_if_false (length four))
    → let first = length old + length test + 2 in
    five ≡ old ++ tick ∷ (test ++ jump_if_false (first + length (inside first)) ∷ inside first)
if_lands old test tick inside one two three four five e1 e2 e3 e4 e5 =
    let first = length old + length test + 2 in
    let l1 : length one ≡ length old + 1 = ap length e1 ∙ length-append old (tick ∷ []) in
    let l2 : length two ≡ length old + 1 + length test =
    ap length e2 ∙ omega (arith, length-append one test, l1) in
    let l3 : length three ≡ first = ap length e3 ∙ omega (arith, length-append two (jump_if_false 0 ∷ []), l2) in
    let whole : four ≡ (two ++ jump_if_false 0 ∷ []) ++ inside first =
    e4 ∙ ap (λ n. three ++ inside n) l3 ∙ ap (λ a. a ++ inside first) e3 in
    let front : two ≡ old ++ tick ∷ test = e2 ∙ ap (λ a. a ++ test) e1 ∙ behind_one old tick test in
    e5
    ∙ lands two (inside first) four (jump_if_false 0) jump_if_false (first + length (inside first)) whole (omega (arith, l2))
    ∙ ap (λ a. a ++ jump_if_false (first + length (inside first)) ∷ inside first) front
    ∙ append_assoc old (tick ∷ test) (jump_if_false (first + length (inside first)) ∷ inside first)

-- the same with a jump at its end and another statement behind that
pub else_lands : (old test : List Instr) (tick : Instr) (inside others : ℕ → List Instr)
    (one two three four five six seven eight : List Instr)
    → one ≡ old ++ tick ∷ [] → two ≡ one ++ test → three ≡ two ++ jump_if_false 0 ∷ []
    → four ≡ three ++ inside (length three) → five ≡ four ++ jump 0 ∷ []
    → six ≡ slice_set five (length two) (jump_if_false (length five))
    → seven ≡ six ++ others (length six) → eight ≡ slice_set seven (length four) (jump (length seven))
    → let first = length old + length test + 2 in
    let otherwise = first + length (inside first) + 1 in
    let out = otherwise + length (others otherwise) in
    eight ≡ old ++ tick ∷ (test ++ jump_if_false otherwise ∷ (inside first ++ jump out ∷ others otherwise))
else_lands old test tick inside others one two three four five six seven eight e1 e2 e3 e4 e5 e6 e7 e8 =
    let first = length old + length test + 2 in
    let otherwise = first + length (inside first) + 1 in
    let out = otherwise + length (others otherwise) in
    let l1 : length one ≡ length old + 1 = ap length e1 ∙ length-append old (tick ∷ []) in
    let l2 : length two ≡ length old + 1 + length test =
    ap length e2 ∙ omega (arith, length-append one test, l1) in
    let l3 : length three ≡ first = ap length e3 ∙ omega (arith, length-append two (jump_if_false 0 ∷ []), l2) in
    let part = inside first ++ jump 0 ∷ [] in
    let whole : five ≡ (two ++ jump_if_false 0 ∷ []) ++ part =
    e5 ∙ ap (λ a. a ++ jump 0 ∷ []) (e4 ∙ ap (λ n. three ++ inside n) l3 ∙ ap (λ a. a ++ inside first) e3)
    ∙ append_assoc (two ++ jump_if_false 0 ∷ []) (inside first) (jump 0 ∷ []) in
    let landed : six ≡ two ++ jump_if_false otherwise ∷ part =
    e6 ∙ lands two part five (jump_if_false 0) jump_if_false otherwise whole
    (omega (arith, l2, length-append (inside first) (jump 0 ∷ []))) in
    let front = two ++ jump_if_false otherwise ∷ inside first in
    let again : six ≡ front ++ jump 0 ∷ [] =
    landed ∙ sym (append_assoc two (jump_if_false otherwise ∷ inside first) (jump 0 ∷ [])) in
    let l4 : length four ≡ length front =
    ap length e4 ∙ omega (
      arith,
      length-append three (inside (length three)),
      ap (λ n. length (inside n)) l3,
      l3,
      l2,
      length-append two (jump_if_false otherwise ∷ inside first),
    ) in
    let l6 : length six ≡ otherwise =
    ap length again ∙ omega (
      arith,
      length-append front (jump 0 ∷ []),
      length-append two (jump_if_false otherwise ∷ inside first),
      l2,
    ) in
    let last : seven ≡ (front ++ jump 0 ∷ []) ++ others otherwise =
    e7 ∙ ap (λ n. six ++ others n) l6 ∙ ap (λ a. a ++ others otherwise) again in
    let two_is : two ≡ old ++ tick ∷ test = e2 ∙ ap (λ a. a ++ test) e1 ∙ behind_one old tick test in
    let behind = jump out ∷ others otherwise in
    e8
    ∙ ap (λ n. slice_set seven n (jump (length seven))) l4
    ∙ lands front (others otherwise) seven (jump 0) jump out last
    (omega (arith, length-append two (jump_if_false otherwise ∷ inside first), l2))
    ∙ append_assoc two (jump_if_false otherwise ∷ inside first) behind
    ∙ ap (λ a. a ++ jump_if_false otherwise ∷ (inside first ++ behind)) two_is
    ∙ append_assoc old (tick ∷ test) (jump_if_false otherwise ∷ (inside first ++ behind))

-- a loop with its test at the head
pub while_lands : (old test : List Instr) (tick : Instr) (inside : ℕ → List Instr)
    (one two three four five six seven : List Instr)
    → one ≡ old ++ tick ∷ [] → two ≡ one ++ tick ∷ [] → three ≡ two ++ test → four ≡ three ++ jump_if_false 0 ∷ []
    → five ≡ four ++ inside (length four) → six ≡ five ++ jump (length one) ∷ []
    → seven ≡ slice_set six (length three) (jump_if_false (length six))
    → let turn = length old + 1 in
    let first = turn + length test + 2 in
    let out = first + length (inside first) + 1 in
    seven ≡ old ++ tick ∷ (tick ∷ (test ++ jump_if_false out ∷ (inside first ++ jump turn ∷ [])))
while_lands old test tick inside one two three four five six seven e1 e2 e3 e4 e5 e6 e7 =
    let turn = length old + 1 in
    let first = turn + length test + 2 in
    let out = first + length (inside first) + 1 in
    let l1 : length one ≡ turn = ap length e1 ∙ length-append old (tick ∷ []) in
    let l2 : length two ≡ turn + 1 = ap length e2 ∙ omega (arith, length-append one (tick ∷ []), l1) in
    let l3 : length three ≡ turn + 1 + length test = ap length e3 ∙ omega (arith, length-append two test, l2) in
    let l4 : length four ≡ first = ap length e4 ∙ omega (arith, length-append three (jump_if_false 0 ∷ []), l3) in
    let part = inside first ++ jump turn ∷ [] in
    let whole : six ≡ (three ++ jump_if_false 0 ∷ []) ++ part =
    e6 ∙ ap (λ n. five ++ jump n ∷ []) l1
    ∙ ap (λ a. a ++ jump turn ∷ []) (e5 ∙ ap (λ n. four ++ inside n) l4 ∙ ap (λ a. a ++ inside first) e4)
    ∙ append_assoc (three ++ jump_if_false 0 ∷ []) (inside first) (jump turn ∷ []) in
    let front : three ≡ old ++ tick ∷ (tick ∷ test) =
    e3 ∙ ap (λ a. a ++ test) (e2 ∙ ap (λ a. a ++ tick ∷ []) e1 ∙ behind_one old tick (tick ∷ []))
    ∙ append_assoc old (tick ∷ (tick ∷ [])) test in
    e7
    ∙ lands three part six (jump_if_false 0) jump_if_false out whole
    (omega (arith, l3, length-append (inside first) (jump turn ∷ [])))
    ∙ ap (λ a. a ++ jump_if_false out ∷ part) front
    ∙ append_assoc old (tick ∷ (tick ∷ test)) (jump_if_false out ∷ part)

-- a loop that begins with its statements, behind its test
pub repeat_lands : (old test : List Instr) (tick : Instr) (inside : ℕ → List Instr)
    (one two three four five six seven eight nine ten : List Instr)
    → one ≡ old ++ tick ∷ [] → two ≡ one ++ jump 0 ∷ [] → three ≡ two ++ tick ∷ [] → four ≡ three ++ test
    → five ≡ four ++ bare op.Not ∷ [] → six ≡ five ++ jump_if_false 0 ∷ []
    → seven ≡ slice_set six (length one) (jump (length six)) → eight ≡ seven ++ inside (length seven)
    → nine ≡ eight ++ jump (length two) ∷ [] → ten ≡ slice_set nine (length five) (jump_if_false (length nine))
    → let turn = length old + 2 in
    let first = turn + length test + 3 in
    let out = first + length (inside first) + 1 in
    ten ≡ old ++ tick ∷ (jump first ∷ (tick ∷ (test ++ bare op.Not ∷ (jump_if_false out ∷ (inside first ++ jump turn ∷ [])))))
repeat_lands old test tick inside one two three four five six seven eight nine ten e1 e2 e3 e4 e5 e6 e7 e8 e9 e10 =
    let turn = length old + 2 in
    let first = turn + length test + 3 in
    let out = first + length (inside first) + 1 in
    let l1 : length one ≡ length old + 1 = ap length e1 ∙ length-append old (tick ∷ []) in
    let l2 : length two ≡ turn = ap length e2 ∙ omega (arith, length-append one (jump 0 ∷ []), l1) in
    let tested = tick ∷ (test ++ bare op.Not ∷ []) in
    let five_is : five ≡ (one ++ jump 0 ∷ []) ++ tested =
    e5 ∙ ap (λ a. a ++ bare op.Not ∷ []) (e4 ∙ ap (λ a. a ++ test) (e3 ∙ ap (λ a. a ++ tick ∷ []) e2)
    ∙ append_assoc (one ++ jump 0 ∷ []) (tick ∷ []) test)
    ∙ append_assoc (one ++ jump 0 ∷ []) (tick ∷ test) (bare op.Not ∷ []) in
    let l5 : length five ≡ first - 1 =
    ap length five_is ∙ omega (
      arith,
      length-append (one ++ jump 0 ∷ []) tested,
      length-append one (jump 0 ∷ []),
      length-append test (bare op.Not ∷ []),
      l1,
    ) in
    let part = tested ++ jump_if_false 0 ∷ [] in
    let six_is : six ≡ (one ++ jump 0 ∷ []) ++ part =
    e6 ∙ ap (λ a. a ++ jump_if_false 0 ∷ []) five_is ∙ append_assoc (one ++ jump 0 ∷ []) tested (jump_if_false 0 ∷ []) in
    let seven_is : seven ≡ one ++ jump first ∷ part =
    e7 ∙ lands one part six (jump 0) jump first six_is
    (omega (arith, l1, length-append tested (jump_if_false 0 ∷ []), length-append test (bare op.Not ∷ []))) in
    let front = one ++ jump first ∷ tested in
    let again : seven ≡ front ++ jump_if_false 0 ∷ [] =
    seven_is ∙ sym (append_assoc one (jump first ∷ tested) (jump_if_false 0 ∷ [])) in
    let lf : length front ≡ first - 1 =
    omega (arith, length-append one (jump first ∷ tested), length-append test (bare op.Not ∷ []), l1) in
    let l7 : length seven ≡ first = ap length again ∙ omega (arith, length-append front (jump_if_false 0 ∷ []), lf) in
    let last_part = inside first ++ jump turn ∷ [] in
    let nine_is : nine ≡ (front ++ jump_if_false 0 ∷ []) ++ last_part =
    e9 ∙ ap (λ n. eight ++ jump n ∷ []) l2
    ∙ ap (λ a. a ++ jump turn ∷ []) (e8 ∙ ap (λ n. seven ++ inside n) l7 ∙ ap (λ a. a ++ inside first) again)
    ∙ append_assoc (front ++ jump_if_false 0 ∷ []) (inside first) (jump turn ∷ []) in
    let behind = jump_if_false out ∷ last_part in
    e10
    ∙ ap (λ n. slice_set nine n (jump_if_false (length nine))) (l5 ∙ sym lf)
    ∙ lands front last_part nine (jump_if_false 0) jump_if_false out nine_is
    (omega (arith, lf, length-append (inside first) (jump turn ∷ [])))
    ∙ append_assoc one (jump first ∷ tested) behind
    ∙ ap (λ t. one ++ jump first ∷ (tick ∷ t)) (append_assoc test (bare op.Not ∷ []) behind)
    ∙ ap (λ a. a ++ jump first ∷ (tick ∷ (test ++ bare op.Not ∷ behind))) e1
    ∙ behind_one old tick (jump first ∷ (tick ∷ (test ++ bare op.Not ∷ behind)))
