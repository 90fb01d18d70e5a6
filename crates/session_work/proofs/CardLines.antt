-- The lines of a text, and its first bad word where a line is none.
use Rattle.std.proofs.Common.{◌≡◌, ◌⊎◌, inl, inr, ◌≤◌, ◌<◌, ℕ, zero, suc, ◌+◌, ◌-◌, Bool, true, false, cond, not, ◌&&◌, List, [], ◌∷◌, ◌++◌, length, take, drop, Option, None, Some, Ok, Err, Result, refl, sym, ◌∙◌, ap, subst, arith, append_assoc, length-append}
use Rattle.std.specs.Prelude.{◌==◌, nat_le, if◌then◌else◌, min, IfOk, IfErr}
use Rattle.std.specs.List.{list_all, position_or_len, AllByRecursion}
use Rattle.std.proofs.lemmas.Bool.Decides.{nat_tests}
use Rattle.std.proofs.lemmas.Bool.{cases_eq, eq-eqb, ne_eqb}
use Rattle.std.proofs.lemmas.List.{append-nil}
use Rattle.solo_base.specs.Card.{lines, before_lines}
use Rattle.solo_base.specs.Text.{text, line_text}
use Rattle.solo_base.specs.Line.{is_printable, IsLine, line_of}
use Rattle.solo_base.specs.LineList.{AreLines}
use Rattle.pascal_read.specs.Scan.{words, words_from, line_after, next_line}
use Rattle.pascal_read.proofs.Steps.{same_line}
use Rattle.stack_code.specs.CodeLists.{CodeLists}
use Rattle.pascal_compile.specs.declared.compile_fault.CompileFault.{CompileFault}
use Rattle.code_law.specs.Compiling.{Compiling, compiling, compiled, bad_word, IsCodeFor}
use Rattle.pascal_compile.specs.Faults.{Explains}
use Rattle.solo_task.specs.Compiles.{is_line, bad_line_from, first_bad, by_bad_line, compiling_text}
use Rattle.session_work.specs.Cards.{card_of, stops_at, NextCard, line_behind, ReadsOn, ReadSo, closing_if, closing, IsCodeOfText}
use Rattle.session_work.proofs.Words.{has_quote, Ends, line_through, same-front}

both : (a b : Bool) → a && b ≡ true → (a ≡ true) × (b ≡ true)
both true b is = (refl, is)
both false b is = cc

not-empty : (code : ℕ) (rest : List ℕ) → ◌≡◌ {A = List ℕ} (code ∷ rest) [] → ⊥
not-empty code rest e = cc

not-none : (card : List ℕ) → ◌≡◌ {A = Option (List ℕ)} None (Some card) → ⊥
not-none card e = cc

not-some : (card : List ℕ) → ◌≡◌ {A = Option (List ℕ)} (Some card) None → ⊥
not-some card e = cc

some-same : (a b : List ℕ) → Some a ≡ Some b → a ≡ b
some-same a b e = cc

and-true : (a b : Bool) → a ≡ true → b ≡ true → a && b ≡ true
and-true true b e f = f
and-true false b e f = absurd cc

-- ---- One line of a text

cut-step : (ends : Bool) (code e : ℕ) (text : List ℕ)
    → (text ≡ [] → e ≡ 0) → ((text ≡ [] → ⊥) → lines text ≡ take e text ∷ lines (drop (e + 1) text))
    → cond ends ([] ∷ lines text) (before_lines code (lines text))
    ≡ take (cond (not ends) (1 + e) 0) (code ∷ text) ∷ lines (drop (cond (not ends) (1 + e) 0 + 1) (code ∷ text))
cut-step true code e text none some = refl
cut-step false code e [] none some =
    let zero_is : 1 + e ≡ 1 = omega (arith, none refl) in
    ap (λ n. take n (code ∷ []) ∷ lines (drop (n + 1) (code ∷ []))) (sym zero_is)
cut-step false code e (next ∷ text) none some =
    let one : 1 + e ≡ suc e = omega arith in
    let two : suc e + 1 ≡ suc (e + 1) = omega arith in
    ap (before_lines code) (some (not-empty next text))
    ∙ ap (λ n. (code ∷ take e (next ∷ text)) ∷ lines (drop n (code ∷ next ∷ text))) (sym two)
    ∙ ap (λ n. take n (code ∷ next ∷ text) ∷ lines (drop (n + 1) (code ∷ next ∷ text))) (sym one)

none-before : (text : List ℕ) → text ≡ [] → position_or_len (λ code. code == 10) text ≡ 0
none-before text empty = ap (position_or_len (λ code. code == 10)) empty

pub line-cut : (text : List ℕ) → (text ≡ [] → ⊥)
    → lines text ≡ take (position_or_len (λ code. code == 10) text) text ∷ lines (drop (position_or_len (λ code. code == 10) text + 1) text)
line-cut [] some = absurd (some refl)
line-cut (code ∷ text) some =
    cut-step (code == 10) code (position_or_len (λ code. code == 10) text) text (none-before text) (line-cut text)

few-left : (n : ℕ) (text : List ℕ) → length (drop n text) < suc (length text)
few-left zero text = omega arith
few-left (suc n) [] = omega arith
few-left (suc n) (code ∷ text) = let rest = few-left n text in omega (arith, rest)

shorter : (n : ℕ) (text : List ℕ) (code : ℕ) → length (drop (n + 1) (code ∷ text)) < length (code ∷ text)
shorter n text code =
    let one : n + 1 ≡ suc n = omega arith in
    subst (λ k. length (drop k (code ∷ text)) < suc (length text)) (sym one) (few-left n text)

line-by : (bytes : List ℕ) (test : Bool) → is_line bytes ≡ test → (if test then Some bytes else None) ≡ line_of bytes
line-by bytes test is = ap (λ (b : Bool). if b then Some bytes else None) (sym is)

card-by : (bytes card : List ℕ) (test : Bool) → is_line bytes ≡ test → line_of bytes ≡ Some card → (is_line bytes ≡ true) × (bytes ≡ card)
card-by bytes card true is found = (is, some-same bytes card (line-by bytes true is ∙ found))
card-by bytes card false is found = absurd (not-none card (line-by bytes false is ∙ found))

is-card : (bytes card : List ℕ) → line_of bytes ≡ Some card → (is_line bytes ≡ true) × (bytes ≡ card)
is-card bytes card found = card-by bytes card (is_line bytes) refl found

no-card-by : (bytes : List ℕ) (test : Bool) → is_line bytes ≡ test → line_of bytes ≡ None → is_line bytes ≡ false
no-card-by bytes true is none = absurd (not-some bytes (line-by bytes true is ∙ none))
no-card-by bytes false is none = is

no-card : (bytes : List ℕ) → line_of bytes ≡ None → is_line bytes ≡ false
no-card bytes none = no-card-by bytes (is_line bytes) refl none

short-by : (n : ℕ) → nat_le n 132 ≡ true → n ≤ 132
short-by n is = grind (arith, nat_tests)

short-is : (n : ℕ) → n ≤ 132 → nat_le n 132 ≡ true
short-is n short = grind (arith, nat_tests)

valid : (bytes : List ℕ) → is_line bytes ≡ true → IsLine bytes
valid bytes is =
    let (short, printable) = both (nat_le (length bytes) 132) (list_all is_printable bytes) is in
    record { short = short-by (length bytes) short; printable = printable }

valid-is : (bytes : List ℕ) → IsLine bytes → is_line bytes ≡ true
valid-is bytes line = and-true (nat_le (length bytes) 132) (list_all is_printable bytes) (short-is (length bytes) line.short) line.printable

-- a line that is a card is taken
pub card-taken : (rest : List ℕ) (line end : ℕ) (card rest_now : List ℕ) (line_now : ℕ) → end ≡ position_or_len (λ code. code == 10) rest
    → card_of rest end ≡ Some card → rest_now ≡ drop (end + 1) rest → line_now ≡ next_line line → NextCard rest line (Some card) rest_now line_now
card-taken [] line end card rest_now line_now at found behind number = absurd (not-none card found)
card-taken (code ∷ rest) line end card rest_now line_now at found behind number =
    let (is, same) = is-card (take end (code ∷ rest)) card found in
    let cut = line-cut (code ∷ rest) (not-empty code rest) in (
      cut ∙ ap (λ n. take n (code ∷ rest) ∷ lines (drop (n + 1) (code ∷ rest))) (sym at)
          ∙ ap (λ c. c ∷ lines (drop (end + 1) (code ∷ rest))) same ∙ ap (λ r. card ∷ lines r) (sym behind),
      subst IsLine same (valid (take end (code ∷ rest)) is),
      number,
      subst (λ r. length r < length (code ∷ rest)) (sym behind) (shorter end rest code),
    )

-- and any other ends the reading
pub no-card-left : (rest : List ℕ) (line end : ℕ) → end ≡ position_or_len (λ code. code == 10) rest
    → card_of rest end ≡ None → bad_line_from line (lines rest) ≡ stops_at rest line
no-card-left [] line end at none = refl
no-card-left (code ∷ rest) line end at none =
    let bad = no-card (take end (code ∷ rest)) none in
    ap (bad_line_from line) (line-cut (code ∷ rest) (not-empty code rest)
    ∙ ap (λ n. take n (code ∷ rest) ∷ lines (drop (n + 1) (code ∷ rest))) (sym at))
    ∙ ap (λ (b : Bool). if b then bad_line_from (next_line line) (lines (drop (end + 1) (code ∷ rest))) else Some line) bad

-- ---- Line by line

pub reading-begins : (text : List ℕ) → ReadsOn text [] text 1
reading-begins text = record { lines_are = refl; are_cards = tt; number = refl }

all-push : (cards : List (List ℕ)) (card : List ℕ) → AreLines cards → IsLine card → AreLines (cards ++ card ∷ [])
all-push [] card are is = (is, tt)
all-push (first ∷ cards) card (one, are) is = (one, all-push cards card are is)

behind-push : (line : ℕ) (cards : List (List ℕ)) (card : List ℕ) → line_behind line (cards ++ card ∷ []) ≡ next_line (line_behind line cards)
behind-push line [] card = refl
behind-push line (first ∷ cards) card = behind-push (next_line line) cards card

pub reading-goes-on : (text rest rest_now : List ℕ) (cards : List (List ℕ)) (line line_now : ℕ) (card : List ℕ)
    → ReadsOn text cards rest line → NextCard rest line (Some card) rest_now line_now → ReadsOn text (cards ++ card ∷ []) rest_now line_now
reading-goes-on text rest rest_now cards line line_now card on (next, is, number, less) = record {
  lines_are = on.lines_are ∙ ap (λ ls. cards ++ ls) next ∙ sym (append_assoc cards (card ∷ []) (lines rest_now));
  are_cards = all-push cards card on.are_cards is;
  number = number ∙ ap next_line on.number ∙ sym (behind-push 1 cards card);
}

pub reading-ends : (text rest rest_now : List ℕ) (cards : List (List ℕ)) (line line_now : ℕ)
    → ReadsOn text cards rest line → NextCard rest line None rest_now line_now → ReadSo text cards rest_now line_now
reading-ends text rest rest_now cards line line_now on (same, number, stops) =
    subst (λ n. ReadSo text cards rest_now n) (sym number) (subst (λ r. ReadSo text cards r line) (sym same) (record { reads = on; stops = stops }))

-- ---- Whole texts

bad-behind : (cards more : List (List ℕ)) (line : ℕ) → AreLines cards → bad_line_from line (cards ++ more) ≡ bad_line_from (line_behind line cards) more
bad-behind [] more line are = refl
bad-behind (card ∷ cards) more line (is, are) =
    ap (λ (b : Bool). if b then bad_line_from (next_line line) (cards ++ more) else Some line) (valid-is card is)
    ∙ bad-behind cards more (next_line line) are

bad-is : (text rest : List ℕ) (cards : List (List ℕ)) (line : ℕ) → ReadSo text cards rest line → bad_line_from 1 (lines text) ≡ stops_at rest line
bad-is text rest cards line so =
    ap (bad_line_from 1) so.reads.lines_are ∙ bad-behind cards (lines rest) 1 so.reads.are_cards
    ∙ ap (λ n. bad_line_from n (lines rest)) (sym so.reads.number) ∙ so.stops

-- all its lines are cards
pub all-cards : (text : List ℕ) (cards : List (List ℕ)) (line : ℕ) (rest : List ℕ) → rest ≡ [] → ReadSo text cards rest line
    → compiling_text text ≡ compiling cards
all-cards text cards line rest empty so =
    let none : bad_line_from 1 (lines text) ≡ None = bad-is text rest cards line so ∙ ap (λ r. stops_at r line) empty in
    let same : lines text ≡ cards = so.reads.lines_are ∙ ap (λ r. cards ++ lines r) empty ∙ append-nil cards in
    ap (by_bad_line (lines text)) none ∙ ap compiling same

-- ---- A line is none

text-append : (some more : List (List ℕ)) → text (some ++ more) ≡ text some ++ text more
text-append [] more = refl
text-append (line ∷ some) more = ap (λ t. line_text line ++ t) (text-append some more) ∙ sym (append_assoc (line_text line) (text some) (text more))

ends-line : (line : List ℕ) (more : List ℕ) → Ends more → Ends (line_text line ++ more)
ends-line [] [] ends = refl
ends-line [] (code ∷ more) ends = ends
ends-line (code ∷ []) more ends = ends-line [] more ends
ends-line (code ∷ next ∷ line) more ends = ends-line (next ∷ line) more ends

ends-text : (cards : List (List ℕ)) → Ends (text cards)
ends-text [] = tt
ends-text (card ∷ cards) = ends-line card (text cards) (ends-text cards)

through-line : (card more : List ℕ) (line : ℕ) → list_all is_printable card ≡ true
    → line_through line (line_text card ++ more) ≡ line_through (next_line line) more
through-line [] more line printable = refl
through-line (code ∷ card) more line printable =
    let (one, rest) = both (is_printable code) (list_all is_printable card) printable in
    ap (λ n. line_through n (line_text card ++ more)) (same_line code line one) ∙ through-line card more line rest

through-text : (cards : List (List ℕ)) (line : ℕ) → AreLines cards → line_through line (text cards) ≡ line_behind line cards
through-text [] line are = refl
through-text (card ∷ cards) line (is, are) = through-line card (text cards) line is.printable ∙ through-text cards (next_line line) are

code-is : (a b : ℕ) → a == b ≡ true → a ≡ b
code-is a b is = grind (arith, nat_tests)

-- the quotes of a text stand on its lines
quote-before : (code : ℕ) (ls : List (List ℕ)) (rest : List ℕ) → has_quote (text ls) ≡ has_quote rest
    → has_quote (text (before_lines code ls)) ≡ cond (code == 34) true (has_quote rest)
quote-before code [] rest same = ap (λ q. cond (code == 34) true q) same
quote-before code (first ∷ others) rest same = ap (λ q. cond (code == 34) true q) same

end-no-quote : (code : ℕ) → code == 10 ≡ true → false ≡ (code == 34)
end-no-quote code is = let ten = code-is code 10 is in subst (λ c. false ≡ (c == 34)) (sym ten) refl

quote-step : (ends : Bool) (code : ℕ) (rest : List ℕ) → code == 10 ≡ ends → has_quote (text (lines rest)) ≡ has_quote rest
    → has_quote (text (cond ends ([] ∷ lines rest) (before_lines code (lines rest)))) ≡ cond (code == 34) true (has_quote rest)
quote-step true code rest is same =
    same ∙ ap (λ (b : Bool). cond b true (has_quote rest)) (end-no-quote code is)
quote-step false code rest is same = quote-before code (lines rest) rest same

quote-lines : (rest : List ℕ) → has_quote (text (lines rest)) ≡ has_quote rest
quote-lines [] = refl
quote-lines (code ∷ rest) = quote-step (code == 10) code rest refl (quote-lines rest)

-- and where there is one is told by the place of the first
same-test : (a b : ℕ) → (a == b) ≡ (1 + a == suc b)
same-test a b = elim (cases_eq a b) [
  | inl same ↦ eq-eqb a b same ∙ sym (eq-eqb (1 + a) (suc b) (omega (arith, same)))
  | inr other ↦ ne_eqb a b other ∙ sym (ne_eqb (1 + a) (suc b) (λ e. other (omega (arith, e))))
]

found-step : (quote : Bool) (place many : ℕ) (found : Bool) → found ≡ not (place == many)
    → cond quote true found ≡ not (cond (not quote) (1 + place) 0 == suc many)
found-step true place many found is = ap not (sym (ne_eqb 0 (suc many) (λ e. absurd (omega (arith, e)))))
found-step false place many found is = is ∙ ap not (same-test place many)

quote-found : (rest : List ℕ) → has_quote rest ≡ not (position_or_len (λ code. code == 34) rest == length rest)
quote-found [] = refl
quote-found (code ∷ rest) = found-step (code == 34) (position_or_len (λ code. code == 34) rest) (length rest) (has_quote rest) (quote-found rest)

closing-quote : (none : Bool) → not none ≡ has_quote (text (closing_if none))
closing-quote true = refl
closing-quote false = refl

quotes-same : (rest : List ℕ) → has_quote (text (lines rest)) ≡ has_quote (text (closing rest))
quotes-same rest = quote-lines rest ∙ quote-found rest ∙ closing-quote (position_or_len (λ code. code == 34) rest == length rest)

words-same : (text0 rest : List ℕ) (cards : List (List ℕ)) (line : ℕ) → ReadSo text0 cards rest line
    → first_bad line (words (lines text0)) ≡ first_bad line (words (cards ++ closing rest))
words-same text0 rest cards line so =
    ap (λ ls. first_bad line (words ls)) so.reads.lines_are
    ∙ ap (λ t. first_bad line (words_from 1 0 t)) (text-append cards (lines rest))
    ∙ same-front (text cards) (text (lines rest)) (text (closing rest)) None 1 0 line (ends-text cards) (omega arith)
    (through-text cards 1 so.reads.are_cards ∙ sym so.reads.number) (quotes-same rest)
    ∙ ap (λ t. first_bad line (words_from 1 0 t)) (sym (text-append cards (closing rest)))

stops-here : (rest : List ℕ) (line : ℕ) → (rest ≡ [] → ⊥) → stops_at rest line ≡ Some line
stops-here [] line some = absurd (some refl)
stops-here (code ∷ rest) line some = refl

-- its first bad word is that of the cards, with a comment ended where a later line would end it
pub bad-word : (text0 rest : List ℕ) (cards : List (List ℕ)) (line : ℕ) → (rest ≡ [] → ⊥) → ReadSo text0 cards rest line
    → compiling_text text0 ≡ bad_word (first_bad line (words (cards ++ closing rest)))
bad-word text0 rest cards line some so =
    ap (by_bad_line (lines text0)) (bad-is text0 rest cards line so ∙ stops-here rest line some) ∙ ap bad_word (words-same text0 rest cards line so)

-- ---- In the words of the code

pub begins-so : (text : List ℕ) (cards : List (List ℕ)) (line : ℕ) → cards ≡ [] → line ≡ 1 → ReadsOn text cards text line
begins-so text cards line none first =
    subst (λ c. ReadsOn text c text line) (sym none) (subst (λ n. ReadsOn text [] text n) (sym first) (reading-begins text))

pub no-more : (given : Option (List ℕ)) → ((card : List ℕ) → given ≡ Some card → ⊥) → given ≡ None
no-more None not_some = refl
no-more (Some card) not_some = absurd (not_some card refl)

pub less-left : (rest rest_now : List ℕ) (line line_now : ℕ) (card : List ℕ) → NextCard rest line (Some card) rest_now line_now
    → length rest_now < length rest
less-left rest rest_now line line_now card (next, is, number, less) = less

nothing-left : (rest : List ℕ) → length rest ≡ 0 → rest ≡ []
nothing-left [] e = refl
nothing-left (code ∷ rest) e = absurd (omega (arith, e))

-- the code of cards that are the whole text
pub code-of : (text : List ℕ) (cards : List (List ℕ)) (line : ℕ) (rest : List ℕ) (code : CodeLists) → length rest ≡ 0 → ReadSo text cards rest line
    → IsCodeFor cards code → IsCodeOfText text code
code-of text cards line rest code empty so is = record {
  program = is.program;
  comes_to = all-cards text cards line rest (nothing-left rest empty) so ∙ is.comes_to;
  is = is.is_code.is;
}

-- and why they have none
pub why-none : (text : List ℕ) (cards : List (List ℕ)) (line : ℕ) (rest : List ℕ) (why : CompileFault) → length rest ≡ 0 → ReadSo text cards rest line
    → Explains why (compiling cards) → Explains why (compiling_text text)
why-none text cards line rest why empty so explains =
    subst (Explains why) (sym (all-cards text cards line rest (nothing-left rest empty) so)) explains

pub bad-so : (text : List ℕ) (cards : List (List ℕ)) (line : ℕ) (rest : List ℕ) (now : List (List ℕ)) (why : CompileFault)
    → (length rest ≡ 0 → ⊥) → ReadSo text cards rest line → now ≡ cards ++ closing rest → Explains why (bad_word (first_bad line (words now)))
    → Explains why (compiling_text text)
bad-so text cards line rest now why some so is explains =
    subst (Explains why)
    (sym (bad-word text rest cards line (λ empty. some (ap length empty)) so ∙ ap (λ c. bad_word (first_bad line (words c))) (sym is))) explains

no-length : (n : ℕ) → (n == 0) ≡ true → n ≡ 0
no-length n is = grind (arith, nat_tests)

some-length : (n : ℕ) → (n == 0) ≡ false → n ≡ 0 → ⊥
some-length n is e = grind (arith, nat_tests)

pub compiled-if : (text : List ℕ) (cards : List (List ℕ)) (line : ℕ) (rest : List ℕ) (result : Result CodeLists CompileFault) → (length rest == 0) ≡ true
    → ReadSo text cards rest line → IfOk result (IsCodeFor cards) → IfOk result (IsCodeOfText text)
compiled-if text cards line rest (Ok code) empty so is = code-of text cards line rest code (no-length (length rest) empty) so is
compiled-if text cards line rest (Err why) empty so is = tt

pub refused-if : (text : List ℕ) (cards : List (List ℕ)) (line : ℕ) (rest : List ℕ) (result : Result CodeLists CompileFault) → (length rest == 0) ≡ true
    → ReadSo text cards rest line → IfErr result (λ why. Explains why (compiling cards)) → IfErr result (λ why. Explains why (compiling_text text))
refused-if text cards line rest (Ok code) empty so explains = tt
refused-if text cards line rest (Err why) empty so explains = why-none text cards line rest why (no-length (length rest) empty) so explains

pub bad-if : (text : List ℕ) (cards now : List (List ℕ)) (line : ℕ) (rest : List ℕ) (why : CompileFault) → (length rest == 0) ≡ false
    → ReadSo text cards rest line → now ≡ cards ++ closing rest → Explains why (bad_word (first_bad line (words now)))
    → Explains why (compiling_text text)
bad-if text cards now line rest why some so is explains = bad-so text cards line rest now why (some-length (length rest) some) so is explains
