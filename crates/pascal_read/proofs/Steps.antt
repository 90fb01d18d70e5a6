-- What each word of a card leaves of the words of the text.
use Rattle.std.proofs.Common.{◌≡◌, ℕ, zero, suc, ◌-◌, ◌<◌, ◌≤◌, Bool, true, List, [], ◌∷◌, ◌++◌, length, Ok, Err, refl, ap, ◌∙◌, drop, arith, length-drop}
use Rattle.std.specs.List.{list_all}
use Rattle.std.specs.Cmp.{first_so, second_so}
use Rattle.std.proofs.lemmas.Bool.Decides.{nat_tests}
use Rattle.solo_base.specs.Line.{is_printable, IsLine}
use Rattle.pascal_tree.specs.Word.{Spot}
use Rattle.pascal_tree.specs.declared.token.Word.{Word}
use Rattle.pascal_read.specs.Piece.{Spells, Bad, piece_at}
use Rattle.pascal_read.specs.Scan.{Words, spot, before, line_after, words_at, words_from}
use Rattle.pascal_read.specs.Card.{before_all}

-- a character that prints ends no line
pub same_line : (code line : ℕ) → is_printable code ≡ true → line_after code line ≡ line
same_line code line printable = grind (arith, nat_tests)

-- the characters of a word on a card are left behind
covered : (line length_left : ℕ) (card later : List ℕ) → list_all is_printable card ≡ true → length_left ≤ length card → words_from line length_left (card ++ 10 ∷ later) ≡ words_from line 0 (drop length_left card ++ 10 ∷ later)
covered line zero card later printable inside = refl
covered line (suc left) [] later printable inside = absurd (omega arith)
covered line (suc left) (code ∷ card) later printable inside =
    ap (λ number. words_from number left (card ++ 10 ∷ later)) (same_line code line (first_so _ _ printable))
    ∙ covered line left card later (second_so _ _ printable) (omega arith)

-- a word stands before the words behind it
pub word_step : (line : ℕ) (card later : List ℕ) (found : Word) (size : ℕ) → list_all is_printable card ≡ true → 0 < size → size ≤ length card → piece_at (card ++ 10 ∷ later) ≡ Spells found size → words_from line 0 (card ++ 10 ∷ later) ≡ before (spot found line) (words_from line 0 (drop size card ++ 10 ∷ later))
word_step line card later found zero printable begun inside stands = absurd (omega arith)
word_step line [] later found (suc size) printable begun inside stands = absurd (omega arith)
word_step line (code ∷ card) later found (suc size) printable begun inside stands =
    let less : suc size - 1 ≡ size = omega arith in
    ap (λ piece. words_at line piece (λ covering. words_from (line_after code line) (covering - 1) (card ++ 10 ∷ later))) stands
    ∙ ap (λ number. before (spot found line) (words_from number (suc size - 1) (card ++ 10 ∷ later))) (same_line code line (first_so _ _ printable))
    ∙ ap (λ left. before (spot found line) (words_from line left (card ++ 10 ∷ later))) less
    ∙ ap (before (spot found line)) (covered line size card later (second_so _ _ printable) (omega arith))

-- a bad word ends the reading
pub bad_step : (line : ℕ) (card later : List ℕ) → 0 < length card → piece_at (card ++ 10 ∷ later) ≡ Bad → words_from line 0 (card ++ 10 ∷ later) ≡ Err line
bad_step line [] later begun stands = absurd (omega arith)
bad_step line (code ∷ card) later begun stands =
    ap (λ piece. words_at line piece (λ covering. words_from (line_after code line) (covering - 1) (card ++ 10 ∷ later))) stands

list_all-drop : (p : ℕ → Bool) (n : ℕ) (xs : List ℕ) → list_all p xs ≡ true → list_all p (drop n xs) ≡ true
list_all-drop p zero xs each = each
list_all-drop p (suc n) [] each = each
list_all-drop p (suc n) (x ∷ xs) each = list_all-drop p n xs (second_so _ _ each)

-- what is left of a line is a line
pub line_drop : (n : ℕ) (card : List ℕ) → IsLine card → IsLine (drop n card)
line_drop n card line = record {
  short = omega (arith, length-drop n card, line.short);
  printable = list_all-drop is_printable n card line.printable;
}

-- words are read one behind the other
pub before_all-push : (old : List Spot) (one : Spot) (others : Words) → before_all (old ++ one ∷ []) others ≡ before_all old (before one others)
before_all-push [] one others = refl
before_all-push (first ∷ old) one others = ap (before first) (before_all-push old one others)

pub before_all-Err : (old : List Spot) (line : ℕ) → before_all old (Err line) ≡ Err line
before_all-Err [] line = refl
before_all-Err (first ∷ old) line = ap (before first) (before_all-Err old line)

before-from_Err : (one : Spot) (others : Words) (line : ℕ) → before one others ≡ Err line → others ≡ Err line
before-from_Err one (Ok found) line bad = cc
before-from_Err one (Err first) line bad = bad

-- words before a bad one don't hide it
pub before_all-from_Err : (old : List Spot) (others : Words) (line : ℕ) → before_all old others ≡ Err line → others ≡ Err line
before_all-from_Err [] others line bad = bad
before_all-from_Err (first ∷ old) others line bad =
    before_all-from_Err old others line (before-from_Err first (before_all old others) line bad)
