-- Jumps that land together.
use Rattle.std.proofs.Common.{◌≡◌, ℕ, zero, suc, ◌+◌, ◌<◌, ◌≤◌, List, [], ◌∷◌, ◌++◌, length, arith, refl, ap, sym, subst, ◌∙◌, length-append}
use Rattle.std.specs.Prelude.{slice_set}
use Rattle.std.proofs.lemmas.List.{length-set}
use Rattle.stack_code.specs.declared.instr.Instr.{Instr}
use Rattle.pascal_tree.specs.Statement.{Branch, branch}
use Rattle.pascal_code.specs.Senses.{Site}
use Rattle.pascal_code.specs.Statements.{jump, label_tests, label_tests_size, statement_code, branch_code}
use Rattle.pascal_code.proofs.SizesOfStatements.{labels_sized}
use Rattle.pascal_compile.specs.Landed.{all_landed, AreBefore}
use Rattle.pascal_compile.proofs.LandingInLoops.{branches_join}

-- the same is set at two places, in either order
either_first : (code : List Instr) (a b : ℕ) (x : Instr)
    → slice_set (slice_set code a x) b x ≡ slice_set (slice_set code b x) a x
either_first [] a b x = refl
either_first (y ∷ ys) zero zero x = refl
either_first (y ∷ ys) zero (suc b) x = refl
either_first (y ∷ ys) (suc a) zero x = refl
either_first (y ∷ ys) (suc a) (suc b) x = ap (λ l. y ∷ l) (either_first ys a b x)

-- the last of the places may land first
pub last_first : (code : List Instr) (places : List ℕ) (end : ℕ)
    → all_landed code (places ++ end ∷ []) ≡ all_landed (slice_set code end (jump (length code))) places
last_first code [] end = refl
last_first code (place ∷ others) end =
    let j = jump (length code) in
    last_first (slice_set code place j) others end
    ∙ ap (λ c. all_landed c others)
    (ap (λ n. slice_set (slice_set code place j) end (jump n)) (length-set code place j)
    ∙ either_first code place end j
    ∙ ap (λ n. slice_set (slice_set code end j) place (jump n)) (sym (length-set code end j)))

-- a branch, and what stands behind it
pub joined : (site : Site) (free : ℕ) (b : Branch) (later : ℕ → List Instr) (old one two three : List Instr) (end : ℕ)
    → one ≡ old ++ branch_code site free b (λ place. []) (length old) → end + 1 ≡ length one
    → two ≡ one ++ later (length one) → three ≡ slice_set two end (jump (length two))
    → three ≡ old ++ branch_code site free b later (length old)
joined site free (branch labels colon s) later old one two three end e1 n e2 e3 =
    let found = length old + label_tests_size labels + 1 in
    branches_join old (label_tests site free found labels) (statement_code site (free + 1) s found) (label_tests_size labels)
    later one two three end (labels_sized site free found labels) e1 n e2 e3

-- one more branch, whose jump lands with those of the earlier ones
pub one_more : (site : Site) (free : ℕ) (b : Branch) (later : ℕ → List Instr) (old one : List Instr) (ends : List ℕ) (end : ℕ)
    → one ≡ old ++ branch_code site free b (λ place. []) (length old) → end + 1 ≡ length one
    → all_landed (one ++ later (length one)) (ends ++ end ∷ []) ≡ all_landed (old ++ branch_code site free b later (length old)) ends
one_more site free b later old one ends end e1 n =
    let two = one ++ later (length one) in
    last_first two ends end
    ∙ ap (λ c. all_landed c ends)
    (joined site free b later old one two (slice_set two end (jump (length two))) end e1 n refl refl)

-- places stand before what is emitted later
pub still_before : (ends : List ℕ) (n m : ℕ) → n ≤ m → AreBefore n ends → AreBefore m ends
still_before [] n m more before = before
still_before (end ∷ others) n m more before =
    let first : end < n = before.0 in
    (omega (arith, first, more), still_before others n m more before.1)

-- and one more, that was emitted last
pub one_more_before : (ends : List ℕ) (n m end : ℕ) → n ≤ m → end + 1 ≡ m → AreBefore n ends → AreBefore m (ends ++ end ∷ [])
one_more_before [] n m end more last before = (omega (arith, last), before)
one_more_before (first ∷ others) n m end more last before =
    let earlier : first < n = before.0 in
    (omega (arith, earlier, more), one_more_before others n m end more last before.1)

-- instructions that were appended
pub appended_length : (old more new : List Instr) → new ≡ old ++ more → length old ≤ length new
appended_length old more new e =
    let count : length new ≡ length old + length more = ap length e ∙ length-append old more in
    omega (arith, count)

-- one more branch of several, whose end is added to the ends of the earlier ones
pub next_branch_landed : (site : Site) (free : ℕ) (b : Branch) (later : ℕ → List Instr) (old one : List Instr) (ends more_ends : List ℕ) (end : ℕ)
    → one ≡ old ++ branch_code site free b (λ place. []) (length old) → end + 1 ≡ length one → more_ends ≡ ends ++ end ∷ []
    → all_landed (one ++ later (length one)) more_ends ≡ all_landed (old ++ branch_code site free b later (length old)) ends
next_branch_landed site free b later old one ends more_ends end e1 n pushed =
    ap (all_landed (one ++ later (length one))) pushed ∙ one_more site free b later old one ends end e1 n

pub next_branch_before : (old one added : List Instr) (ends more_ends : List ℕ) (end : ℕ)
    → one ≡ old ++ added → end + 1 ≡ length one → more_ends ≡ ends ++ end ∷ [] → AreBefore (length old) ends → AreBefore (length one) more_ends
next_branch_before old one added ends more_ends end e1 n pushed before =
    subst (AreBefore (length one)) (sym pushed)
    (one_more_before ends (length old) (length one) end (appended_length old added one e1) n before)
