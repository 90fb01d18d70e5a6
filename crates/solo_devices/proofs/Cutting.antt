-- Where a text is cut into lines.
use Rattle.std.proofs.Common.{◌≡◌, ℕ, ◌+◌, ◌<◌, ◌≤◌, List, [], ◌∷◌, ◌++◌, length, zero, suc, subst, take, drop, drop-cons, add-one, refl, ap, append_assoc, length-append, ◌∙◌, sym, arith, Bool, true, false}
use Rattle.std.specs.Prelude.{◌&&◌, ◌==◌, not, nat_le, slice_index, map}
use Rattle.std.specs.List.{list_all, position_or_len}
use Rattle.std.proofs.lemmas.Bool.Decides.{nat_tests}
use Rattle.std.proofs.lemmas.List.{take-append-drop, take_all, length-take-le}
use Rattle.std.proofs.lemmas.List.Folds.{list_all-append}
use Rattle.std.proofs.lemmas.List.Sums.{fails_before_first, passes_at_first, prefix_len-le-length}
use Rattle.std.proofs.lemmas.Bool.{true≢false}
use Rattle.solo_base.specs.Card.{lines, before_lines, card_of, cards, without_return}
use Rattle.solo_base.specs.declared.item.Item.TheVariants.{Spoiled}
use Rattle.solo_devices.specs.CardUnit.{goes_on, IsPartial}
use Rattle.solo_devices.proofs.Judging.{length-without_return}

both : (a b : Bool) → a && b ≡ true → (a ≡ true) × (b ≡ true)
both true b is = (refl, is)
both false b is = cc

in_line : (x : ℕ) → goes_on x ≡ true → (x == 10) ≡ false
in_line x is = grind (arith, nat_tests)

-- up to a line feed a text is its first line
pub lines-line : (line rest : List ℕ) → IsPartial line → lines (line ++ 10 ∷ rest) ≡ line ∷ lines rest
lines-line [] rest partial = refl
lines-line (x ∷ xs) rest partial =
    let parts : (goes_on x ≡ true) × (list_all goes_on xs ≡ true) = both (goes_on x) (list_all goes_on xs) partial in
    rw (in_line x parts.0, lines-line xs rest parts.1) refl

-- with no line feed it is one line, if it isn't empty
pub lines-last : (x : ℕ) (xs : List ℕ) → IsPartial (x ∷ xs) → lines (x ∷ xs) ≡ (x ∷ xs) ∷ []
lines-last x [] partial = rw (in_line x (both (goes_on x) true partial).0) refl
lines-last x (y ∷ ys) partial =
    let parts : (goes_on x ≡ true) × (list_all goes_on (y ∷ ys) ≡ true) = both (goes_on x) (list_all goes_on (y ∷ ys)) partial in
    rw (in_line x parts.0, lines-last y ys parts.1) refl

-- what the first line of a text is, and what stands behind it
abbrev first_of : List (List ℕ) → List ℕ
first_of [] = []
first_of (line ∷ rest) = line

abbrev others_of : List (List ℕ) → List (List ℕ)
others_of [] = []
others_of (line ∷ rest) = rest

before_lines-is : (x : ℕ) (ls : List (List ℕ)) → before_lines x ls ≡ (x ∷ first_of ls) ∷ others_of ls
before_lines-is x [] = refl
before_lines-is x (line ∷ rest) = refl

-- bytes that end no line stand before the first line of what comes behind them
lines-front : (x : ℕ) (front more : List ℕ) → IsPartial (x ∷ front) →
    lines ((x ∷ front) ++ more) ≡ ((x ∷ front) ++ first_of (lines more)) ∷ others_of (lines more)
lines-front x [] more partial = rw (in_line x (both (goes_on x) true partial).0) (before_lines-is x (lines more))
lines-front x (y ∷ front) more partial =
    let parts : (goes_on x ≡ true) × (list_all goes_on (y ∷ front) ≡ true) = both (goes_on x) (list_all goes_on (y ∷ front)) partial in
    rw (in_line x parts.0, lines-front y front more parts.1) refl

long_line : (line : List ℕ) → 82 ≤ length line → card_of line ≡ Spoiled
long_line line long =
    let over : nat_le (length (without_return line)) 80 ≡ false = grind (arith, nat_tests, length-without_return line) in
    rw over refl

partial_front : (p : List ℕ) (n : ℕ) → IsPartial p → IsPartial (take n p)
partial_front p n partial =
    let parts : list_all goes_on (take n p) && list_all goes_on (drop n p) ≡ true =
    sym (list_all-append goes_on (take n p) (drop n p)) ∙ ap (list_all goes_on) (take-append-drop n p) ∙ partial in
    (both (list_all goes_on (take n p)) (list_all goes_on (drop n p)) parts).0

-- a line of 82 bytes is spoiled, whatever comes behind them
pub cards-long : (p more : List ℕ) → IsPartial p → 82 ≤ length p → cards (take 82 p ++ more) ≡ cards (p ++ more)
cards-long [] more partial long = absurd (omega arith)
cards-long (x ∷ xs) more partial long =
    let short : IsPartial (x ∷ take 81 xs) = partial_front (x ∷ xs) 82 partial in
    let count : length (take 81 xs) ≡ 81 = length-take-le 81 xs (omega arith) in
    let kept : card_of ((x ∷ take 81 xs) ++ first_of (lines more)) ≡ Spoiled = long_line ((x ∷ take 81 xs) ++ first_of (lines more)) (omega (arith, length-append (x ∷ take 81 xs) (first_of (lines more)))) in
    let whole : card_of ((x ∷ xs) ++ first_of (lines more)) ≡ Spoiled = long_line ((x ∷ xs) ++ first_of (lines more)) (omega (arith, length-append (x ∷ xs) (first_of (lines more)))) in
    ap (map card_of) (lines-front x (take 81 xs) more short)
    ∙ ap (λ item. item ∷ map card_of (others_of (lines more))) (kept ∙ sym whole)
    ∙ sym (ap (map card_of) (lines-front x xs more partial))

-- the first line taken out
pub cards-line : (line rest more : List ℕ) → IsPartial line → cards ((line ++ 10 ∷ rest) ++ more) ≡ card_of line ∷ cards (rest ++ more)
cards-line line rest more partial =
    ap cards (append_assoc line (10 ∷ rest) more) ∙ ap (map card_of) (lines-line line (rest ++ more) partial)

pub cards-last : (line : List ℕ) → IsPartial line → 0 < length line → cards line ≡ card_of line ∷ []
cards-last [] partial some = absurd (omega arith)
cards-last (x ∷ xs) partial some = ap (map card_of) (lines-last x xs partial)

other : (x : ℕ) → (x == 10 ≡ true → ⊥) → goes_on x ≡ true
other x not_end = grind (arith, nat_tests)

-- up to the first line feed no line ends
pub partial_before : (bytes : List ℕ) (n : ℕ) → n ≤ length bytes → ((k : ℕ) → k < n → slice_index bytes k == 10 ≡ true → ⊥) → IsPartial (take n bytes)
partial_before bytes zero within none = refl
partial_before [] (suc n) within none = absurd (omega arith)
partial_before (x ∷ xs) (suc n) within none =
    let rest : IsPartial (take n xs) = partial_before xs n (omega arith) (λ k below. none (suc k) (omega arith)) in
    rw (other x (none 0 (omega arith)), rest) refl

pub partial_all : (bytes : List ℕ) → ((k : ℕ) → k < length bytes → slice_index bytes k == 10 ≡ true → ⊥) → IsPartial bytes
partial_all bytes none = subst IsPartial (take_all (length bytes) bytes (omega arith)) (partial_before bytes (length bytes) (omega arith) none)

code_of : (x y : ℕ) → x == y ≡ true → x ≡ y
code_of x y same = grind (arith, nat_tests)

apart_at : (bytes : List ℕ) (n : ℕ) → n < length bytes → bytes ≡ take n bytes ++ slice_index bytes n ∷ drop (n + 1) bytes
apart_at bytes n below = sym (take-append-drop n bytes) ∙ ap (λ rest. take n bytes ++ rest) (rw (add-one) (drop-cons bytes n 0 below))

-- the first line of bytes in which a line ends
pub cards-first : (bytes : List ℕ) (n : ℕ) → n < length bytes → ((k : ℕ) → k < n → slice_index bytes k == 10 ≡ true → ⊥) → slice_index bytes n == 10 ≡ true →
    (more : List ℕ) → cards (bytes ++ more) ≡ card_of (take n bytes) ∷ cards (drop (n + 1) bytes ++ more)
cards-first bytes n below none is more =
    let end : slice_index bytes n ≡ 10 = code_of (slice_index bytes n) 10 is in
    let whole : bytes ≡ take n bytes ++ 10 ∷ drop (n + 1) bytes = apart_at bytes n below ∙ ap (λ code. take n bytes ++ code ∷ drop (n + 1) bytes) end in
    ap (λ all. cards (all ++ more)) whole ∙ cards-line (take n bytes) (drop (n + 1) bytes) more (partial_before bytes n (omega arith) none)

-- before the first line feed there is none
before_first_feed : (bytes : List ℕ) (k : ℕ) → k < position_or_len (λ code. code == 10) bytes → slice_index bytes k == 10 ≡ true → ⊥
before_first_feed bytes k below is = true≢false (sym is ∙ fails_before_first (λ code. code == 10) bytes k 0 below)

-- bytes in which no line feed was found
pub partial_nowhere : (bytes : List ℕ) (n : ℕ) → n ≡ position_or_len (λ code. code == 10) bytes → n ≡ length bytes → IsPartial bytes
partial_nowhere bytes n found all = partial_all bytes (λ k below. before_first_feed bytes k (omega (arith, found, all, below)))

-- the first line of bytes in which a line feed was found
pub cards-found : (bytes : List ℕ) (n : ℕ) → n ≡ position_or_len (λ code. code == 10) bytes → (n ≡ length bytes → ⊥)
    → (more : List ℕ) → cards (bytes ++ more) ≡ card_of (take n bytes) ∷ cards (drop (n + 1) bytes ++ more)
cards-found bytes n found other =
    let within : n ≤ length bytes = omega (arith, found, prefix_len-le-length (λ code. not (code == 10)) bytes) in
    let inside : n < length bytes = omega (arith, within, other) in
    cards-first bytes n inside (λ k below. before_first_feed bytes k (omega (arith, found, below)))
    (rw found (passes_at_first (λ code. code == 10) bytes 0 (omega (arith, found, inside))))
