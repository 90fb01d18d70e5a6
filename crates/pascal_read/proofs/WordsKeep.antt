-- The words of cards are words, and the end token is the last of them.
use Rattle.std.proofs.Common.{◌≡◌, ℕ, zero, suc, ◌+◌, ◌-◌, ◌≤◌, Bool, true, false, cond, List, [], ◌∷◌, ◌++◌, Option, Some, None, Ok, Err, length, take, drop, refl, sym, ap, subst, append_assoc, arith}
use Rattle.std.specs.Prelude.{take_while, nat_le, nat_lt, ◌==◌, ◌&&◌, ◌||◌, not, if◌then◌else◌, codes, nat_eq, position}
use Rattle.std.specs.Cmp.{first_so, second_so}
use Rattle.std.specs.List.{starts_with}
use Rattle.std.proofs.lemmas.Bool.Decides.{nat_tests}
use Rattle.std.proofs.lemmas.Grind.{common_steps}
use Rattle.solo_base.specs.Ident.{is_letter, is_digit, is_letter_or_digit}
use Rattle.solo_base.specs.Line.{is_printable}
use Rattle.solo_base.specs.LineList.{AreLines}
use Rattle.solo_base.specs.Text.{text}
use Rattle.pascal_tree.specs.Word.{Spot, IsName, IsWord, AreWords}
use Rattle.pascal_tree.specs.declared.token.Word.TheVariants as word
use Rattle.pascal_tree.specs.declared.token.Reserved.{Reserved}
use Rattle.pascal_tree.specs.declared.token.Symbol.{Symbol}
use Rattle.pascal_tree.specs.declared.token.Symbol.TheVariants as symbol
use Rattle.pascal_read.specs.ErrorPlace.{EndAtTheEnd}
use Rattle.pascal_read.specs.Piece.{Piece, Gap, Spells, Bad, look_up, reserved_or_name, name_at, value, number_at, code_at, character_at, symbols, symbol_or, symbol_within, symbol_at, comment_piece, piece_at}
use Rattle.pascal_read.specs.Scan.{Words, line_after, before, words_at, words_from, words}
use Rattle.pascal_read.proofs.Fronts.{take_while-passes}
use Rattle.pascal_read.proofs.Capitals.{IsName-front}

-- no place of the text begins more than 132 letters and digits
abbrev HasShortRuns : List ℕ → Type 0
HasShortRuns [] = Unit {0}
HasShortRuns (code ∷ text) = (length (take_while is_letter_or_digit (code ∷ text)) ≤ 132) × HasShortRuns text

take_while-stops : (p : ℕ → Bool) (x : ℕ) (xs : List ℕ) → p x ≡ false → take_while p (x ∷ xs) ≡ []
take_while-stops p x xs stops = grind (arith, common_steps)

-- what stands behind a card's end counts for none of its runs
run_by : (code : ℕ) (others behind : List ℕ) (passes : Bool) → is_letter_or_digit code ≡ passes → length (take_while is_letter_or_digit (others ++ 10 ∷ behind)) ≤ length others →
    length (take_while is_letter_or_digit (code ∷ (others ++ 10 ∷ behind))) ≤ length (code ∷ others)
run_by code others behind true is h = rw (take_while-passes is_letter_or_digit code (others ++ 10 ∷ behind) is) (omega arith)
run_by code others behind false is h = rw (take_while-stops is_letter_or_digit code (others ++ 10 ∷ behind) is) (omega arith)

run_in_card : (card behind : List ℕ) → length (take_while is_letter_or_digit (card ++ 10 ∷ behind)) ≤ length card
run_in_card [] behind = omega arith
run_in_card (code ∷ others) behind = run_by code others behind (is_letter_or_digit code) refl (run_in_card others behind)

short_runs-card : (card behind : List ℕ) → length card ≤ 132 → HasShortRuns behind → HasShortRuns (card ++ 10 ∷ behind)
short_runs-card [] behind h b =
    let run = run_in_card [] behind in
    (omega arith, b)
short_runs-card (code ∷ others) behind h b =
    let run = run_in_card (code ∷ others) behind in
    (omega arith, short_runs-card others behind (omega arith) b)

short_runs : (cards : List (List ℕ)) → AreLines cards → HasShortRuns (text cards)
short_runs [] l = tt
short_runs (card ∷ cards) l =
    subst HasShortRuns (sym (append_assoc card (10 ∷ []) (text cards))) (short_runs-card card (text cards) l.0.short (short_runs cards l.1))

-- what a piece spells is a word
abbrev Keeps : Piece → Type 0
Keeps (Gap length) = Unit {0}
Keeps (Spells found length) = IsWord found
Keeps Bad = Unit {0}

keeps_if : (b : Bool) (x y : Piece) → (b ≡ true → Keeps x) → Keeps y → Keeps (cond b x y)
keeps_if true x y f g = f refl
keeps_if false x y f g = g

named_keeps : (o : Option Reserved) (letters : List ℕ) (b : Bool) → IsName letters → IsWord (cond b (word.Symbol symbol.And) (reserved_or_name o letters))
named_keeps o letters true n = tt
named_keeps None letters false n = n
named_keeps (Some found) letters false n = tt

name_keeps : (code : ℕ) (others : List ℕ) → is_letter code ≡ true → length (take_while is_letter_or_digit (code ∷ others)) ≤ 132 → Keeps (name_at (code ∷ others))
name_keeps code others l h = named_keeps _ _ _ (IsName-front code others l h)

number_keeps : (text : List ℕ) → Keeps (number_at text)
number_keeps text =
    let n : ℕ = value (take_while is_digit text) in
    keeps_if (nat_le n 32767) _ _ (λ h. let small : n ≤ 32767 = grind (arith, nat_tests) in small) tt

code_keeps : (text : List ℕ) → Keeps (code_at text)
code_keeps text =
    let digits : List ℕ = take_while is_digit text in
    let n : ℕ = value digits in
    let some : Bool = nat_lt 0 (length digits) in
    let closed : Bool = starts_with nat_eq (drop (length digits) text) (codes ":)'") in
    keeps_if (some && nat_le n 127 && closed) (Spells (word.Character n) (length digits + 6)) Bad (λ h.
    let le : nat_le n 127 ≡ true = second_so some (nat_le n 127) (first_so (some && nat_le n 127) closed h) in
    let small : n ≤ 127 = grind (arith, nat_tests) in
    small) tt

character_keeps : (text : List ℕ) → Keeps (character_at text)
character_keeps [] = tt
character_keeps (code ∷ []) = tt
character_keeps (code ∷ next ∷ text) =
    let quote : Piece = if is_printable code && not (code == 39) then Spells (word.Character code) 3 else Bad in
    let number : Piece = if code == 40 && next == 58 then code_at text else Bad in
    keeps_if (next == 39) quote number
    (λ q. keeps_if (is_printable code && not (code == 39)) (Spells (word.Character code) 3) Bad (λ h.
    let le : nat_le code 126 ≡ true = second_so (nat_le 32 code) (nat_le code 126) (first_so (is_printable code) (not (code == 39)) h) in
    let small : code ≤ 127 = grind (arith, nat_tests) in
    small) tt)
    (keeps_if (code == 40 && next == 58) (code_at text) Bad (λ q. code_keeps text) tt)

symbol_or_keeps : (o : Option Symbol) (n : ℕ) (shorter : Piece) → Keeps shorter → Keeps (symbol_or o n shorter)
symbol_or_keeps None n shorter k = k
symbol_or_keeps (Some found) n shorter k = tt

symbol_keeps : (n : ℕ) (text : List ℕ) → Keeps (symbol_within n text)
symbol_keeps zero text = tt
symbol_keeps (suc n) text = symbol_or_keeps (look_up symbols (take (suc n) text)) (length (take (suc n) text)) (symbol_within n text) (symbol_keeps n text)

comment_keeps : (o : Option ℕ) → Keeps (comment_piece o)
comment_keeps None = tt
comment_keeps (Some place) = tt

piece_keeps : (code : ℕ) (others : List ℕ) → length (take_while is_letter_or_digit (code ∷ others)) ≤ 132 → Keeps (piece_at (code ∷ others))
piece_keeps code others h =
    keeps_if (is_letter code) _ _ (λ l. name_keeps code others l h)
    (keeps_if (is_digit code) _ _ (λ d. number_keeps (code ∷ others))
    (keeps_if (code == 39) _ _ (λ q. character_keeps others)
    (keeps_if (code == 34) _ _ (λ q. comment_keeps (position (λ c. c == 34) others))
    (keeps_if (code == 32 || code == 10) (Gap 1) (symbol_at (code ∷ others)) (λ q. tt) (symbol_keeps 2 (code ∷ others))))))

-- words that are words, with the end token last
abbrev pub AreKept : Words → Type 0
AreKept (Ok tokens) = AreWords tokens × EndAtTheEnd tokens
AreKept (Err line) = Unit {0}

before_kept : (s : Spot) (w : Words) → IsWord s.word → AreKept w → AreKept (before s w)
before_kept s (Ok tokens) i k = ((i, k.0), (s ∷ k.1.0, k.1.1, ap (λ ts. s ∷ ts) k.1.2))
before_kept s (Err line) i k = tt

words_at_kept : (line : ℕ) (piece : Piece) (behind : ℕ → Words) → Keeps piece → ((n : ℕ) → AreKept (behind n)) → AreKept (words_at line piece behind)
words_at_kept line (Gap n) behind k f = f n
words_at_kept line (Spells found n) behind k f = before_kept _ (behind n) k (f n)
words_at_kept line Bad behind k f = tt

words_from_kept : (line covered : ℕ) (text : List ℕ) → HasShortRuns text → AreKept (words_from line covered text)
words_from_kept line covered [] h = ((tt, tt), ([], line, refl))
words_from_kept line (suc covered) (code ∷ text) h = words_from_kept (line_after code line) covered text h.1
words_from_kept line zero (code ∷ text) h =
    words_at_kept line (piece_at (code ∷ text)) (λ n. words_from (line_after code line) (n - 1) text) (piece_keeps code text h.0) (λ n. words_from_kept (line_after code line) (n - 1) text h.1)

pub words_are_kept : (cards : List (List ℕ)) → AreLines cards → AreKept (words cards)
words_are_kept cards l = words_from_kept 1 0 (text cards) (short_runs cards l)

pub words_kept : (cards : List (List ℕ)) (tokens : List Spot) → AreLines cards → words cards ≡ Ok tokens → AreWords tokens × EndAtTheEnd tokens
words_kept cards tokens l e = subst AreKept e (words_are_kept cards l)
