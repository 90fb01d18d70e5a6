-- Jumps of a FOR and of a CASE that land behind what was emitted since.
use Rattle.std.proofs.Common.{◌≡◌, ℕ, ◌+◌, ◌-◌, List, [], ◌∷◌, ◌++◌, length, arith, ap, sym, ◌∙◌, length-append, append_assoc}
use Rattle.std.specs.Prelude.{slice_set}
use Rattle.stack_code.specs.declared.instr.Instr.{Instr}
use Rattle.pascal_code.specs.Statements.{jump, jump_if_false}
use Rattle.pascal_compile.proofs.Landing.{behind_one, nothing_behind, lands}

-- ---- CASE

-- the selector, and branches
pub case_lands : (old selector : List Instr) (tick store : Instr) (branches : ℕ → List Instr) (one two three four : List Instr)
    → one ≡ old ++ tick ∷ [] → two ≡ one ++ selector → three ≡ two ++ store ∷ []
    → four ≡ three ++ branches (length three)
    → four ≡ old ++ tick ∷ (selector ++ store ∷ branches (length old + length selector + 2))
case_lands old selector tick store branches one two three four e1 e2 e3 e4 =
    let first = length old + length selector + 2 in
    let whole : three ≡ old ++ tick ∷ (selector ++ store ∷ []) =
    e3 ∙ ap (λ a. a ++ store ∷ []) (e2 ∙ ap (λ a. a ++ selector) e1 ∙ behind_one old tick selector)
    ∙ append_assoc old (tick ∷ selector) (store ∷ []) in
    let count : length three ≡ first =
    ap length whole ∙ omega (arith, length-append old (tick ∷ (selector ++ store ∷ [])), length-append selector (store ∷ [])) in
    e4 ∙ ap (λ n. three ++ branches n) count ∙ ap (λ a. a ++ branches first) whole
    ∙ append_assoc old (tick ∷ (selector ++ store ∷ [])) (branches first)
    ∙ ap (λ l. old ++ tick ∷ l) (append_assoc selector (store ∷ []) (branches first))

-- a branch with its tests, whose last jump still leads behind itself
pub branch_lands : (old tests : List Instr) (inside : ℕ → List Instr) (size : ℕ) (one two three four five six : List Instr)
    → length tests ≡ size → one ≡ old ++ tests → two ≡ one ++ jump 0 ∷ [] → three ≡ two ++ inside (length two)
    → four ≡ three ++ jump 0 ∷ [] → five ≡ slice_set four (length three) (jump (length four))
    → six ≡ slice_set five (length one) (jump (length five))
    → let found = length old + size + 1 in
    let next = found + length (inside found) + 1 in
    six ≡ old ++ (tests ++ jump next ∷ (inside found ++ jump (next + 0) ∷ []))
branch_lands old tests inside size one two three four five six s e1 e2 e3 e4 e5 e6 =
    let found = length old + size + 1 in
    let next = found + length (inside found) + 1 in
    let l1 : length one ≡ length old + size = ap length e1 ∙ omega (arith, length-append old tests, s) in
    let l2 : length two ≡ found = ap length e2 ∙ omega (arith, length-append one (jump 0 ∷ []), l1) in
    let three_is : three ≡ (one ++ jump 0 ∷ []) ++ inside found =
    e3 ∙ ap (λ n. two ++ inside n) l2 ∙ ap (λ a. a ++ inside found) e2 in
    let l3 : length three ≡ next - 1 =
    ap length three_is ∙ omega (arith, length-append (one ++ jump 0 ∷ []) (inside found), length-append one (jump 0 ∷ []), l1) in
    let four_is : four ≡ (three ++ jump 0 ∷ []) ++ [] = e4 ∙ sym (nothing_behind (three ++ jump 0 ∷ [])) in
    let five_is : five ≡ three ++ jump next ∷ [] = e5 ∙ lands three [] four (jump 0) jump next four_is (omega (arith, l3)) in
    let part = inside found ++ jump next ∷ [] in
    let again : five ≡ (one ++ jump 0 ∷ []) ++ part =
    five_is ∙ ap (λ a. a ++ jump next ∷ []) three_is ∙ append_assoc (one ++ jump 0 ∷ []) (inside found) (jump next ∷ []) in
    e6
    ∙ lands one part five (jump 0) jump next again (omega (arith, l1, length-append (inside found) (jump next ∷ [])))
    ∙ ap (λ a. a ++ jump next ∷ part) e1
    ∙ append_assoc old tests (jump next ∷ part)
    ∙ ap (λ n. old ++ (tests ++ jump next ∷ (inside found ++ jump n ∷ []))) (omega arith)

-- what stands behind a branch, whose last jump then leads behind all of it
pub branches_join : (old tests inside : List Instr) (size : ℕ) (later : ℕ → List Instr) (one two three : List Instr) (end : ℕ)
    → length tests ≡ size
    → let found = length old + size + 1 in
    let next = found + length inside + 1 in
    one ≡ old ++ (tests ++ jump next ∷ (inside ++ jump (next + 0) ∷ [])) → end + 1 ≡ length one
    → two ≡ one ++ later (length one) → three ≡ slice_set two end (jump (length two))
    → three ≡ old ++ (tests ++ jump next ∷ (inside ++ jump (next + length (later next)) ∷ later next))
branches_join old tests inside size later one two three end s e1 n e2 e3 =
    let next = (length old + size + 1) + length inside + 1 in
    let front = old ++ (tests ++ jump next ∷ inside) in
    let again : one ≡ front ++ jump (next + 0) ∷ [] =
    e1 ∙ ap (λ l. old ++ l) (sym (append_assoc tests (jump next ∷ inside) (jump (next + 0) ∷ [])))
    ∙ sym (append_assoc old (tests ++ jump next ∷ inside) (jump (next + 0) ∷ [])) in
    let lf : length front ≡ next - 1 =
    omega (arith, length-append old (tests ++ jump next ∷ inside), length-append tests (jump next ∷ inside), s) in
    let l1 : length one ≡ next = ap length again ∙ omega (arith, length-append front (jump (next + 0) ∷ []), lf) in
    let whole : two ≡ (front ++ jump (next + 0) ∷ []) ++ later next =
    e2 ∙ ap (λ m. one ++ later m) l1 ∙ ap (λ a. a ++ later next) again in
    let behind = jump (next + length (later next)) ∷ later next in
    let last : end ≡ length front = omega (arith, n, l1, lf) in
    e3
    ∙ ap (λ m. slice_set two m (jump (length two))) last
    ∙ lands front (later next) two (jump (next + 0)) jump (next + length (later next)) whole (omega (arith, lf))
    ∙ append_assoc old (tests ++ jump next ∷ inside) behind
    ∙ ap (λ l. old ++ l) (append_assoc tests (jump next ∷ inside) behind)

-- the end of a CASE, whose jump leads behind it
pub no_branch_lands : (old : List Instr) (value test : Instr) (one two three four : List Instr)
    → one ≡ old ++ value ∷ [] → two ≡ one ++ test ∷ [] → three ≡ two ++ jump_if_false 0 ∷ []
    → four ≡ slice_set three (length two) (jump_if_false (length three))
    → four ≡ old ++ value ∷ test ∷ jump_if_false (length old + 3) ∷ []
no_branch_lands old value test one two three four e1 e2 e3 e4 =
    let front : two ≡ old ++ value ∷ test ∷ [] = e2 ∙ ap (λ a. a ++ test ∷ []) e1 ∙ behind_one old value (test ∷ []) in
    let count : length two ≡ length old + 2 = ap length front ∙ omega (arith, length-append old (value ∷ test ∷ [])) in
    e4
    ∙ lands two [] three (jump_if_false 0) jump_if_false (length old + 3) (e3 ∙ sym (nothing_behind (two ++ jump_if_false 0 ∷ [])))
    (omega (arith, count))
    ∙ ap (λ a. a ++ jump_if_false (length old + 3) ∷ []) front
    ∙ append_assoc old (value ∷ test ∷ []) (jump_if_false (length old + 3) ∷ [])

-- ---- FOR

-- the tests of a FOR, at its begin and at the end of each turn
pub for_lands : (old lower upper control : List Instr) (tick load load_last store store_last reach before step : Instr)
    (inside : ℕ → List Instr) (one two three four five six seven eight nine ten : List Instr) (none last : ℕ)
    → one ≡ old ++ tick ∷ (lower ++ store ∷ (upper ++ store_last ∷ []))
    → two ≡ one ++ load ∷ load_last ∷ reach ∷ jump_if_false 0 ∷ [] → none + 1 ≡ length two
    → three ≡ two ++ tick ∷ [] → four ≡ three ++ load ∷ [] → five ≡ four ++ control
    → six ≡ five ++ inside (length five) → seven ≡ six ++ load ∷ load_last ∷ before ∷ jump_if_false 0 ∷ []
    → last + 1 ≡ length seven → eight ≡ seven ++ load ∷ step ∷ store ∷ jump (length two) ∷ []
    → nine ≡ slice_set eight none (jump_if_false (length eight)) → ten ≡ slice_set nine last (jump_if_false (length nine))
    → let turn = length old + length lower + length upper + 7 in
    let first = turn + length control + 2 in
    let out = first + length (inside first) + 8 in
    ten ≡ old ++ tick ∷ (lower ++ store ∷ (upper ++ store_last ∷ (load ∷ load_last ∷ reach ∷ jump_if_false out
    ∷ (tick ∷ (load ∷ (control ++ (inside first ++ load ∷ load_last ∷ before ∷ jump_if_false out ∷ load ∷ step ∷ store ∷ jump turn ∷ [])))))))
for_lands old lower upper control tick load load_last store store_last reach before step inside
    one two three four five six seven eight nine ten none last e1 e2 n1 e3 e4 e5 e6 e7 n2 e8 e9 e10 =
    let turn = length old + length lower + length upper + 7 in
    let first = turn + length control + 2 in
    let out = first + length (inside first) + 8 in
    let jf = jump_if_false in
    let bounds = tick ∷ (lower ++ store ∷ (upper ++ store_last ∷ [])) in
    let tests = load ∷ load_last ∷ reach ∷ [] in
    let ending = load ∷ load_last ∷ before ∷ [] in
    let steps = load ∷ step ∷ store ∷ jump turn ∷ [] in
    let front = one ++ tests in
    let l1 : length one ≡ turn - 4 =
    ap length e1 ∙ omega (arith, length-append old bounds, length-append lower (store ∷ (upper ++ store_last ∷ [])), length-append upper (store_last ∷ [])) in
    let lf : length front ≡ turn - 1 = omega (arith, length-append one tests, l1) in
    let two_is : two ≡ front ++ jf 0 ∷ [] = e2 ∙ sym (append_assoc one tests (jf 0 ∷ [])) in
    let l2 : length two ≡ turn = ap length two_is ∙ omega (arith, length-append front (jf 0 ∷ []), lf) in
    let to_control = tick ∷ (load ∷ control) in
    let five_is : five ≡ (front ++ jf 0 ∷ []) ++ to_control =
    e5 ∙ ap (λ a. a ++ control) (e4 ∙ ap (λ a. a ++ load ∷ []) (e3 ∙ ap (λ a. a ++ tick ∷ []) two_is)
    ∙ append_assoc (front ++ jf 0 ∷ []) (tick ∷ []) (load ∷ []))
    ∙ append_assoc (front ++ jf 0 ∷ []) (tick ∷ (load ∷ [])) control in
    let l5 : length five ≡ first =
    ap length five_is ∙ omega (arith, length-append (front ++ jf 0 ∷ []) to_control, length-append front (jf 0 ∷ []), lf) in
    let body = to_control ++ (inside first ++ ending) in
    let seven_is : seven ≡ (front ++ jf 0 ∷ []) ++ (body ++ jf 0 ∷ []) =
    e7 ∙ ap (λ a. a ++ load ∷ load_last ∷ before ∷ jf 0 ∷ [])
    (e6 ∙ ap (λ m. five ++ inside m) l5 ∙ ap (λ a. a ++ inside first) five_is)
    ∙ append_assoc ((front ++ jf 0 ∷ []) ++ to_control) (inside first) (ending ++ jf 0 ∷ [])
    ∙ append_assoc (front ++ jf 0 ∷ []) to_control (inside first ++ (ending ++ jf 0 ∷ []))
    ∙ ap (λ l. (front ++ jf 0 ∷ []) ++ (to_control ++ l)) (sym (append_assoc (inside first) ending (jf 0 ∷ [])))
    ∙ ap (λ l. (front ++ jf 0 ∷ []) ++ l) (sym (append_assoc to_control (inside first ++ ending) (jf 0 ∷ []))) in
    let lb : length body ≡ length control + length (inside first) + 5 =
    omega (arith, length-append to_control (inside first ++ ending), length-append (inside first) ending) in
    let part = (body ++ jf 0 ∷ []) ++ steps in
    let eight_is : eight ≡ (front ++ jf 0 ∷ []) ++ part =
    e8 ∙ ap (λ m. seven ++ load ∷ step ∷ store ∷ jump m ∷ []) l2 ∙ ap (λ a. a ++ steps) seven_is
    ∙ append_assoc (front ++ jf 0 ∷ []) (body ++ jf 0 ∷ []) steps in
    let none_is : none ≡ length front = omega (arith, n1, l2, lf) in
    let nine_is : nine ≡ front ++ jf out ∷ part =
    e9 ∙ ap (λ m. slice_set eight m (jf (length eight))) none_is
    ∙ lands front part eight (jf 0) jump_if_false out eight_is
    (omega (arith, lf, lb, length-append (body ++ jf 0 ∷ []) steps, length-append body (jf 0 ∷ []))) in
    let second = front ++ jf out ∷ body in
    let again : nine ≡ (second ++ jf 0 ∷ []) ++ steps =
    nine_is ∙ sym (append_assoc front (jf out ∷ (body ++ jf 0 ∷ [])) steps)
    ∙ ap (λ l. l ++ steps) (sym (append_assoc front (jf out ∷ body) (jf 0 ∷ []))) in
    let ls : length second ≡ out - 5 = omega (arith, length-append front (jf out ∷ body), lf, lb) in
    let l7 : length seven ≡ out - 4 =
    ap length seven_is ∙ omega (
      arith,
      length-append (front ++ jf 0 ∷ []) (body ++ jf 0 ∷ []),
      length-append front (jf 0 ∷ []),
      length-append body (jf 0 ∷ []),
      lf,
      lb,
    ) in
    let last_is : last ≡ length second = omega (arith, n2, l7, ls) in
    let behind = jf out ∷ steps in
    e10
    ∙ ap (λ m. slice_set nine m (jf (length nine))) last_is
    ∙ lands second steps nine (jf 0) jump_if_false out again (omega (arith, ls))
    ∙ append_assoc front (jf out ∷ body) behind
    ∙ ap (λ l. front ++ jf out ∷ l) (append_assoc to_control (inside first ++ ending) behind)
    ∙ ap (λ l. front ++ jf out ∷ (to_control ++ l)) (append_assoc (inside first) ending behind)
    ∙ append_assoc one tests (jf out ∷ (to_control ++ (inside first ++ (ending ++ behind))))
    ∙ ap (λ a. a ++ (tests ++ jf out ∷ (to_control ++ (inside first ++ (ending ++ behind))))) e1
    ∙ append_assoc old bounds (tests ++ jf out ∷ (to_control ++ (inside first ++ (ending ++ behind))))
    ∙ ap (λ l. old ++ tick ∷ l) (append_assoc lower (store ∷ (upper ++ store_last ∷ []))
    (tests ++ jf out ∷ (to_control ++ (inside first ++ (ending ++ behind)))))
    ∙ ap (λ l. old ++ tick ∷ (lower ++ store ∷ l)) (append_assoc upper (store_last ∷ [])
    (tests ++ jf out ∷ (to_control ++ (inside first ++ (ending ++ behind)))))
