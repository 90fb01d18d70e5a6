-- The deck of a number is within the limit of decks.
use Rattle.std.proofs.Common.{◌≡◌, ◌≤◌, ◌<◌, ℕ, zero, suc, ◌+◌, ◌*◌, ◌%◌, ◌==◌, Bool, true, false, if◌then◌else◌, List, [], ◌∷◌, ◌++◌, length, codes, ◌∙◌, ap, length-append, arith}
use Rattle.std.specs.Fmt.{decimal}
use Rattle.std.proofs.lemmas.Fmt.{length-decimal-le}
use Rattle.solo_base.specs.Text.{text, line_text}
use Rattle.solo_devices.specs.CardUnit.{byte_limit}
use Rattle.made_deck.specs.MadeDeck.{numbered_cards, list_cards, loop_card, program_cards, job_cards, jobs_to, made_deck}
use Rattle.run_report.proofs.Adding.{text-append}

-- the text of lines behind each other
both-long : (lines more : List (List ℕ)) → length (text (lines ++ more)) ≡ length (text lines) + length (text more)
both-long lines more = ap length (text-append lines more) ∙ length-append (text lines) (text more)

-- a line in front is so much longer
front-long : (line : List ℕ) (lines : List (List ℕ)) → length (text (line ∷ lines)) ≡ length line + 1 + length (text lines)
front-long line lines = (let one = length-append (line_text line) (text lines) in let two = length-append line (10 ∷ []) in omega (arith, one, two))

digits : (n : ℕ) → n < 1000000 → length (decimal n) ≤ 6
digits n small = length-decimal-le 6 n (omega arith) (omega (arith, small)) (omega (arith, small))

numbered-long : (n : ℕ) → n < 10 → length (text (numbered_cards n)) ≤ 12 * n
numbered-long zero small = omega arith
numbered-long (suc n) small =
    let card = codes "CARD " ++ decimal (n + 1) in
    let before = numbered-long n (omega (arith, small)) in
    let all = both-long (numbered_cards n) (card ∷ []) in
    let one = front-long card [] in
    let wide = length-append (codes "CARD ") (decimal (n + 1)) in
    let few = digits (n + 1) (omega (arith, small)) in
    omega (arith, before, all, one, wide, few)

list-long : (k : ℕ) → k < 1000000 → length (text (list_cards k)) ≤ 300
list-long k small =
    let opener = codes "#LIST L" ++ decimal k in
    let first = front-long opener (numbered_cards (k % 7) ++ codes "#END" ∷ []) in
    let wide = length-append (codes "#LIST L") (decimal k) in
    let few = digits k small in
    let all = both-long (numbered_cards (k % 7)) (codes "#END" ∷ []) in
    let rest : k % 7 < 7 = omega arith in
    let middle = numbered-long (k % 7) (omega (arith, rest)) in
    let last = front-long (codes "#END") [] in
    omega (arith, first, wide, few, all, rest, middle, last)

loop-long : (n : ℕ) → n < 1000000 → length (loop_card n) ≤ 60
loop-long n small =
    let front = length-append (codes "FOR I := 1 TO ") (decimal n ++ codes " DO BEGIN WRITEINT(I); WRITE(NL) END") in
    let back = length-append (decimal n) (codes " DO BEGIN WRITEINT(I); WRITE(NL) END") in
    let few = digits n small in
    omega (arith, front, back, few)

program-long : (k : ℕ) → k < 1000000 → length (text (program_cards k)) ≤ 300
program-long k small =
    let opener = codes "#JOB P" ++ decimal k in
    let wide = length-append (codes "#JOB P") (decimal k) in
    let few = digits k small in
    let rest : k % 10 < 10 = omega arith in
    let loop = loop-long (k % 10) (omega (arith, rest)) in
    let one = front-long opener (codes "VAR I: INTEGER;" ∷ codes "BEGIN" ∷ loop_card (k % 10) ∷ codes "END." ∷ codes "#END" ∷ []) in
    let two = front-long (codes "VAR I: INTEGER;") (codes "BEGIN" ∷ loop_card (k % 10) ∷ codes "END." ∷ codes "#END" ∷ []) in
    let three = front-long (codes "BEGIN") (loop_card (k % 10) ∷ codes "END." ∷ codes "#END" ∷ []) in
    let four = front-long (loop_card (k % 10)) (codes "END." ∷ codes "#END" ∷ []) in
    omega (arith, wide, few, loop, one, two, three, four)

by-test : (test : Bool) (k : ℕ) → k < 1000000 → length (text (if test then list_cards k else program_cards k)) ≤ 300
by-test true k small = list-long k small
by-test false k small = program-long k small

jobs-long : (n : ℕ) → n < 999999 → length (text (jobs_to n)) ≤ 300 * n
jobs-long zero small = omega arith
jobs-long (suc n) small =
    let before = jobs-long n (omega (arith, small)) in
    let all = both-long (jobs_to n) (job_cards (n + 1)) in
    let one = by-test ((n + 1) % 3 == 0) (n + 1) (omega (arith, small)) in
    omega (arith, before, all, one)

pub made-short : (number : ℕ) → number ≤ 50000 → length (made_deck number) ≤ byte_limit
made-short number few = (let long = jobs-long (100 + number) (omega (arith, few)) in omega (arith, long, few))
