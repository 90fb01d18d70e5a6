-- Eight seats are enough for eight processes.
use Rattle.std.proofs.Common.{◌≢◌, ℕ, zero, suc, ◌+◌, ◌<◌, ◌≤◌, Option, None, Some, List, [], ◌∷◌, ◌++◌, length, option_to_list, subst, arith}
use Rattle.std.specs.List.{AllByRecursion}
use mathlib.Core.Logic.{dite}
use native.Mathlib.Decide.{ℕ_discrete}
use Rattle.resource_mon.specs.Claims.{IsNoneOf, EachOnce}
use Rattle.resource_mon.specs.DiskCalls.{IsSeated}

abbrev pub IsWithin : ℕ → ℕ → Type 0
IsWithin n p = (1 ≤ p) × (p ≤ n)

below : (n : ℕ) (processes : List ℕ) → AllByRecursion (IsWithin (suc n)) processes → IsNoneOf processes (suc n) → AllByRecursion (IsWithin n) processes
below n [] all none = tt
below n (p ∷ later) all none = let low = all.0.0 in let high = all.0.1 in let apart : p ≢ suc n = none.0 in ((low, grind arith), below n later all.1 none.1)

-- the same processes but for one, the greatest that there may be
pub record Fewer (n : ℕ) (processes : List ℕ) : Type 0 where
  pub rest : List ℕ
  pub once : EachOnce rest
  pub within : AllByRecursion (IsWithin n) rest
  pub count : length processes ≤ length rest + 1
  pub none : (p : ℕ) → IsNoneOf processes p → IsNoneOf rest p

without : (n : ℕ) (processes : List ℕ) → EachOnce processes → AllByRecursion (IsWithin (suc n)) processes → Fewer n processes
without n [] once all = record { rest = []; once = tt; within = tt; count = omega arith; none = λ p none. tt }
without n (p ∷ later) once all = dite (ℕ_discrete p (suc n))
    (λ is. let none = subst (IsNoneOf later) is once.0 in record { rest = later; once = once.1; within = below n later all.1 none; count = omega arith; none = λ q none. none.1 })
    (λ apart. let fewer = without n later once.1 all.1 in let low = all.0.0 in let high = all.0.1 in let count = fewer.count in record {
      rest = p ∷ fewer.rest;
      once = (fewer.none p once.0, fewer.once);
      within = ((low, grind arith), fewer.within);
      count = omega arith;
      none = λ q none. (none.0, fewer.none q none.1);
    })

-- No more processes than numbers.
few : (n : ℕ) (processes : List ℕ) → EachOnce processes → AllByRecursion (IsWithin n) processes → length processes ≤ n
few zero [] once all = omega arith
few zero (p ∷ later) once all = let low = all.0.0 in let high = all.0.1 in absurd (omega arith)
few (suc n) processes once all =
    let fewer = without n processes once all in
    let count = fewer.count in
    let rest = few n fewer.rest fewer.once fewer.within in
    omega arith

-- A process that neither has the resource nor waits finds a place to wait in.
pub has_room : (holder : Option ℕ) (waiting : List ℕ) (p : ℕ) → EachOnce (option_to_list holder ++ waiting) → AllByRecursion IsSeated (option_to_list holder ++ waiting) → IsSeated p → IsNoneOf (option_to_list holder ++ waiting) p
    → length waiting < 8
has_room None waiting p once all seat none = let count = few 8 (p ∷ waiting) (none, once) (seat, all) in omega arith
has_room (Some q) waiting p once all seat none = let count = few 8 (p ∷ q ∷ waiting) (none, once) (seat, all) in omega arith
