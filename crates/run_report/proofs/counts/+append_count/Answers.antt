use Rattle.std.proofs.Common.{◌≡◌, ℕ, ◌+◌, ◌<◌, ◌≤◌, ◌/◌, ◌%◌, ◌^◌, List, [], ◌∷◌, ◌++◌, length, length-append, append_assoc, arith, rules}
use Rattle.std.specs.Fmt.{decimal}
use Rattle.std.proofs.lemmas.Fmt.{decimal_digit, decimal_step_wide, length-decimal-le_wide}
use Rattle.run_report.proofs.counts.+append_count.Goals as goal

fits : (count : ℕ) → count < 18446744073709551616 → count < 10 ^ 20
fits count below = omega (arith, below)

short_decimal : (count : ℕ) → count < 10 ^ 20 → length (decimal count) ≤ 20
short_decimal count few = length-decimal-le_wide 20 count (omega arith) few (omega (arith, few))

-- a tenth of a count has a digit less
shorter_decimal : (count : ℕ) → count < 10 ^ 20 → length (decimal (count / 10)) ≤ 19
shorter_decimal count few = length-decimal-le_wide 19 (count / 10) (omega arith) (omega (arith, few)) (omega (arith, few))

-- a line has the last digit of a count behind the others
one_digit_more : (line : List ℕ) (count : ℕ) → 10 ≤ count → count < 10 ^ 20
    → (line ++ decimal (count / 10)) ++ (48 + count % 10) ∷ [] ≡ line ++ decimal count
one_digit_more line count many few =
    let small : count < 10 ^ 64 = omega (arith, few) in
    rw (decimal_step_wide count many small) (append_assoc line (decimal (count / 10)) ((48 + count % 10) ∷ []))

pub returns-then-count-lt10-clause-text : goal.returns-then-count-lt10-clause-text
returns-then-count-lt10-clause-text t c = rw (c.push.ensures, decimal_digit c.args.count (omega arith)) (search rules)

pub push-requires-2-clause-room : goal.push-requires-2-clause-room
push-requires-2-clause-room t c =
    let short = shorter_decimal c.args.count (fits c.args.count c.ranges.count.fits) in
    let whole = length-append c.args.line.now (decimal (c.args.count / 10)) in
    rw c.append_count.ensures.text (omega (arith, short, whole, c.requires.room))

pub returns-clause-text : goal.returns-clause-text
returns-clause-text t c =
    rw (c.push-2.ensures, c.append_count.ensures.text) (one_digit_more c.args.line.now c.args.count (omega arith) (fits c.args.count c.ranges.count.fits))

pub returns-clause-short : goal.returns-clause-short
returns-clause-short t c =
    let same = one_digit_more c.args.line.now c.args.count (omega arith) (fits c.args.count c.ranges.count.fits) in
    let short = short_decimal c.args.count (fits c.args.count c.ranges.count.fits) in
    let whole = length-append c.args.line.now (decimal c.args.count) in
    rw (c.push-2.ensures, c.append_count.ensures.text, same) (omega (arith, short, whole))
