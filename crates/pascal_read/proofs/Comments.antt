-- Comments, on one card and over several.
use Rattle.std.proofs.Common.{◌≡◌, ℕ, suc, ◌+◌, ◌-◌, ◌<◌, ◌≤◌, Bool, true, false, cond, not, List, [], ◌∷◌, ◌++◌, length, Option, Some, None, Err, refl, sym, ap, ◌∙◌, subst, drop, arith}
use Rattle.std.specs.Prelude.{◌==◌, nat_lt, slice_index}
use Rattle.std.specs.List.{list_all, position_or_len}
use Rattle.std.specs.Cmp.{first_so, second_so}
use Rattle.std.proofs.lemmas.Bool.Decides.{nat_tests}
use Rattle.solo_base.specs.Line.{is_printable, IsLine}
use Rattle.pascal_read.specs.Piece.{comment_piece}
use Rattle.pascal_read.specs.Scan.{Words, line_after, next_line, words_at, words_from}
use Rattle.pascal_read.proofs.Steps.{same_line}
use Rattle.pascal_read.specs.Card.{behind_quote, words_inside, words_behind, words_of_card}

abbrev quotes : ℕ → Bool
quotes code = code == 34

closed-step : (first line code : ℕ) (text : List ℕ) (ends : Bool) → (code == 34) ≡ ends → (position_or_len quotes text < length text → words_from (line_after code line) (position_or_len quotes text + 1) text ≡ words_inside first (line_after code line) text) → cond (not ends) (1 + position_or_len quotes text) 0 < suc (length text) → words_from line (cond (not ends) (1 + position_or_len quotes text) 0 + 1) (code ∷ text) ≡ cond ends (words_from line 0 text) (words_inside first (line_after code line) text)
closed-step first line code text true ends others found =
    ap (λ number. words_from number 0 text) (grind (arith, nat_tests))
closed-step first line code text false ends others found =
    let one_more : 1 + position_or_len quotes text + 1 ≡ suc (position_or_len quotes text + 1) = omega arith in
    ap (λ covering. words_from line covering (code ∷ text)) one_more ∙ others (omega arith)

-- the words behind a comment that is closed
closed : (first line : ℕ) (text : List ℕ) → position_or_len quotes text < length text → words_from line (position_or_len quotes text + 1) text ≡ words_inside first line text
closed first line [] found = absurd (omega arith)
closed first line (code ∷ text) found =
    closed-step first line code text (code == 34) refl (closed first (line_after code line) text) found

unclosed-step : (first line code : ℕ) (text : List ℕ) (ends : Bool) → (length text ≤ position_or_len quotes text → Err first ≡ words_inside first (line_after code line) text) → suc (length text) ≤ cond (not ends) (1 + position_or_len quotes text) 0 → Err first ≡ cond ends (words_from line 0 text) (words_inside first (line_after code line) text)
unclosed-step first line code text true others missing = absurd (omega arith)
unclosed-step first line code text false others missing = others (omega arith)

-- no words but a bad one where a comment isn't closed
unclosed : (first line : ℕ) (text : List ℕ) → length text ≤ position_or_len quotes text → Err first ≡ words_inside first line text
unclosed first line [] missing = refl
unclosed first line (code ∷ text) missing =
    unclosed-step first line code text (code == 34) (unclosed first (line_after code line) text) missing

comment-step : (line : ℕ) (text : List ℕ) (found : Bool) → nat_lt (position_or_len quotes text) (length text) ≡ found → words_at line (comment_piece (cond found (Some (position_or_len quotes text)) None)) (λ covering. words_from line (covering - 1) text) ≡ words_inside line line text
comment-step line text true found =
    let less : position_or_len quotes text + 2 - 1 ≡ position_or_len quotes text + 1 = omega arith in
    ap (λ covering. words_from line covering text) less ∙ closed line line text (grind (arith, nat_tests))
comment-step line text false found = unclosed line line text (grind (arith, nat_tests))

-- the first quote mark of a comment stands before its inside
pub comment_step : (line : ℕ) (text : List ℕ) → words_from line 0 (34 ∷ text) ≡ words_inside line line text
comment_step line text = comment-step line text (nat_lt (position_or_len quotes text) (length text)) refl

-- the words behind a card that began inside a comment
abbrev pub words_behind_quote : (first line : ℕ) → Option (List ℕ) → List ℕ → Words
words_behind_quote first line None later = words_inside first (next_line line) later
words_behind_quote first line (Some card) later = words_from line 0 (card ++ 10 ∷ later)

inside-step : (first line code : ℕ) (card later : List ℕ) (ends : Bool) → line_after code line ≡ line → words_inside first line (card ++ 10 ∷ later) ≡ words_behind_quote first line (behind_quote card) later → cond ends (words_from line 0 (card ++ 10 ∷ later)) (words_inside first (line_after code line) (card ++ 10 ∷ later)) ≡ words_behind_quote first line (cond ends (Some card) (behind_quote card)) later
inside-step first line code card later true same others = refl
inside-step first line code card later false same others =
    ap (λ number. words_inside first number (card ++ 10 ∷ later)) same ∙ others

pub inside_card : (first line : ℕ) (card later : List ℕ) → list_all is_printable card ≡ true → words_inside first line (card ++ 10 ∷ later) ≡ words_behind_quote first line (behind_quote card) later
inside_card first line [] later printable = refl
inside_card first line (code ∷ card) later printable =
    inside-step first line code card later (code == 34) (same_line code line (first_so _ _ printable)) (inside_card first line card later (second_so _ _ printable))

-- what stands behind a quote mark of a line is a line
some_is : (one other : List ℕ) → Some one ≡ Some other → one ≡ other
some_is one other same = cc

line_behind-step : (code : ℕ) (card rest : List ℕ) (ends : Bool) → cond ends (Some card) (behind_quote card) ≡ Some rest → IsLine card → (behind_quote card ≡ Some rest → IsLine rest) → IsLine rest
line_behind-step code card rest true found line others =
    subst IsLine (some_is _ _ found) line
line_behind-step code card rest false found line others = others found

pub line_behind : (card rest : List ℕ) → behind_quote card ≡ Some rest → IsLine card → IsLine rest
line_behind [] rest found line = cc
line_behind (code ∷ card) rest found line =
    let behind : IsLine card = record { short = omega (arith, line.short); printable = second_so _ _ line.printable } in
    line_behind-step code card rest (code == 34) found behind (λ later. line_behind card rest later behind)

behind_shorter-step : (code : ℕ) (card rest : List ℕ) (ends : Bool) → cond ends (Some card) (behind_quote card) ≡ Some rest → (behind_quote card ≡ Some rest → length rest < length card) → length rest < suc (length card)
behind_shorter-step code card rest true found others =
    let same : length card ≡ length rest = ap length (some_is _ _ found) in omega arith
behind_shorter-step code card rest false found others = omega (arith, others found)

-- and it is shorter
pub behind_shorter : (card rest : List ℕ) → behind_quote card ≡ Some rest → length rest < length card
behind_shorter [] rest found = cc
behind_shorter (code ∷ card) rest found = behind_shorter-step code card rest (code == 34) found (behind_shorter card rest)

-- a comment that begins at the front of what is left of a card
pub comment_on_card : (line : ℕ) (card later : List ℕ) → IsLine card → 0 < length card → slice_index card 0 ≡ 34 → words_from line 0 (card ++ 10 ∷ later) ≡ words_behind_quote line line (behind_quote (drop 1 card)) later
comment_on_card line [] later fits begun quote = absurd (omega arith)
comment_on_card line (code ∷ card) later fits begun quote =
    ap (λ first. words_from line 0 (first ∷ card ++ 10 ∷ later)) quote
    ∙ comment_step line (card ++ 10 ∷ later)
    ∙ inside_card line line card later (second_so _ _ fits.printable)

-- a card that begins inside a comment which ends on it
pub comment_ends : (comment : Option ℕ) (first line : ℕ) (card rest later : List ℕ) → comment ≡ Some first → behind_quote card ≡ Some rest → IsLine card → words_of_card comment line card later ≡ words_of_card None line rest later
comment_ends comment first line card rest later opened found fits =
    ap (λ open_comment. words_of_card open_comment line card later) opened
    ∙ inside_card first line card later fits.printable
    ∙ ap (λ behind. words_behind_quote first line behind later) found

-- a card that is all comment
pub comment_goes_on : (comment : Option ℕ) (first line : ℕ) (card later : List ℕ) → comment ≡ Some first → behind_quote card ≡ None → IsLine card → words_of_card comment line card later ≡ words_behind comment (next_line line) later
comment_goes_on comment first line card later opened found fits =
    ap (λ open_comment. words_of_card open_comment line card later) opened
    ∙ inside_card first line card later fits.printable
    ∙ ap (λ behind. words_behind_quote first line behind later) found
    ∙ ap (λ open_comment. words_behind open_comment (next_line line) later) (sym opened)
