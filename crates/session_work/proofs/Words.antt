-- The first bad word of a text before a line: it hangs on what stands before that line, and on whether a `"` stands behind.
use Rattle.std.proofs.Common.{◌≡◌, ◌≤◌, ℕ, zero, suc, ◌+◌, ◌-◌, Bool, true, false, cond, List, [], ◌∷◌, ◌++◌, Option, None, Some, Ok, Err, refl, sym, ◌∙◌, ap, subst, arith, append_assoc}
use Rattle.std.specs.Prelude.{◌==◌, ◌||◌, min}
use Rattle.std.proofs.lemmas.Bool.Decides.{nat_tests}
use Rattle.solo_base.specs.Ident.{is_letter, is_digit}
use Rattle.pascal_tree.specs.Word.{Spot}
use Rattle.pascal_read.specs.Piece.{Piece, Gap, Spells, Bad, piece_at, comment_at, name_at, number_at, character_at, symbol_at}
use Rattle.pascal_read.specs.Scan.{Words, words_from, words_at, before, spot, line_after, next_line}
use Rattle.pascal_read.specs.Card.{words_inside}
use Rattle.pascal_read.proofs.CardEnd.{ended, name_at-ended, number_at-ended, character_at-ended}
use Rattle.pascal_read.proofs.Comments.{comment_step}
use Rattle.solo_task.specs.Compiles.{first_bad}

-- ---- Behind a line there is no bad word before it

line-later-by : (ends : Bool) (line k : ℕ) → k ≤ line → line ≤ 4294967295
    → (k ≤ cond ends (next_line line) line) × (cond ends (next_line line) line ≤ 4294967295)
line-later-by true line k later small = (omega (arith, later, small), omega (arith, later, small))
line-later-by false line k later small = (later, small)

line-later : (code line k : ℕ) → k ≤ line → line ≤ 4294967295 → (k ≤ line_after code line) × (line_after code line ≤ 4294967295)
line-later code line k later small = line-later-by (code == 10) line k later small

first-before : (k : ℕ) (s : Spot) (w : Words) → first_bad k (before s w) ≡ first_bad k w
first-before k s (Ok spots) = refl
first-before k s (Err line) = refl

least : (line k : ℕ) → k ≤ line → min line k ≡ k
least line k later = omega (arith, later)

first-at : (line k : ℕ) (p : Piece) (behind : ℕ → Words) → k ≤ line → ((n : ℕ) → first_bad k (behind n) ≡ k) → first_bad k (words_at line p behind) ≡ k
first-at line k (Gap n) behind later rest = rest n
first-at line k (Spells found n) behind later rest = first-before k (spot found line) (behind n) ∙ rest n
first-at line k Bad behind later rest = least line k later

first-behind : (text : List ℕ) (line covered k : ℕ) → k ≤ line → line ≤ 4294967295 → first_bad k (words_from line covered text) ≡ k
first-behind [] line covered k later small = refl
first-behind (code ∷ text) line (suc covered) k later small =
    let (still, few) = line-later code line k later small in first-behind text (line_after code line) covered k still few
first-behind (code ∷ text) line zero k later small =
    let (still, few) = line-later code line k later small in
    first-at line k (piece_at (code ∷ text)) (λ n. words_from (line_after code line) (n - 1) text) later
    (λ n. first-behind text (line_after code line) (n - 1) k still few)

-- ---- A comment that is open there

abbrev pub has_quote : List ℕ → Bool
has_quote [] = false
has_quote (code ∷ text) = cond (code == 34) true (has_quote text)

inside-step : (quote : Bool) (k first : ℕ) (w v : Words) (found : Bool) → first_bad k w ≡ k → first_bad k v ≡ cond found k (min first k)
    → first_bad k (cond quote w v) ≡ cond (cond quote true found) k (min first k)
inside-step true k first w v found closed runs = closed
inside-step false k first w v found closed runs = runs

inside-behind : (text : List ℕ) (first line k : ℕ) → k ≤ line → line ≤ 4294967295
    → first_bad k (words_inside first line text) ≡ cond (has_quote text) k (min first k)
inside-behind [] first line k later small = refl
inside-behind (code ∷ text) first line k later small =
    let (still, few) = line-later code line k later small in
    inside-step (code == 34) k first (words_from line 0 text) (words_inside first (line_after code line) text) (has_quote text)
    (first-behind text line 0 k later small) (inside-behind text first (line_after code line) k still few)

-- ---- What stands on a line doesn't depend on what stands behind its end

both-ways : (test : Bool) {x y v w : Piece} → (test ≡ true → x ≡ v) → y ≡ w → cond test x y ≡ cond test v w
both-ways true e f = e refl
both-ways false e f = f

symbol-ended : (code : ℕ) (card l m : List ℕ) → symbol_at (code ∷ ended card l) ≡ symbol_at (code ∷ ended card m)
symbol-ended code [] l m = refl
symbol-ended code (next ∷ card) l m = refl

piece-ended : (code : ℕ) (card l m : List ℕ) → (code == 34 ≡ true → ⊥) → piece_at (code ∷ ended card l) ≡ piece_at (code ∷ ended card m)
piece-ended code card l m none =
    both-ways (is_letter code) (λ e. name_at-ended (code ∷ card) l ∙ sym (name_at-ended (code ∷ card) m))
    (both-ways (is_digit code) (λ e. number_at-ended (code ∷ card) l ∙ sym (number_at-ended (code ∷ card) m))
    (both-ways (code == 39) (λ e. character_at-ended card l ∙ sym (character_at-ended card m))
    (both-ways (code == 34) (λ e. absurd (none e))
    (both-ways (code == 32 || code == 10) (λ e. refl) (symbol-ended code card l m)))))

-- whole lines
abbrev pub Ends : List ℕ → Type 0
Ends [] = Unit {0}
Ends (code ∷ []) = code ≡ 10
Ends (code ∷ next ∷ text) = Ends (next ∷ text)

ends-behind : (code : ℕ) (text : List ℕ) → Ends (code ∷ text) → Ends text
ends-behind code [] ends = tt
ends-behind code (next ∷ text) ends = ends

-- the text up to its first line feed
parted : (code : ℕ) (text : List ℕ) → Ends (code ∷ text) → (card : List ℕ) × (later : List ℕ) × (code ∷ text ≡ card ++ 10 ∷ later)
parted code [] ends = ([], [], ap (λ c. c ∷ []) ends)
parted code (next ∷ text) ends = let (card, later, e) = parted next text ends in (code ∷ card, later, ap (λ t. code ∷ t) e)

piece-same : (code : ℕ) (text r t : List ℕ) → Ends (code ∷ text) → (code == 34 ≡ true → ⊥) → piece_at (code ∷ (text ++ r)) ≡ piece_at (code ∷ (text ++ t))
piece-same code [] r t ends none = subst (λ c. piece_at (c ∷ r) ≡ piece_at (c ∷ t)) (sym ends) refl
piece-same code (next ∷ text) r t ends none =
    let (card, later, e) = parted next text ends in
    ap (λ all. piece_at (code ∷ (all ++ r))) e ∙ ap (λ all. piece_at (code ∷ all)) (append_assoc card (10 ∷ later) r)
    ∙ piece-ended code card (later ++ r) (later ++ t) none
    ∙ ap (λ all. piece_at (code ∷ all)) (sym (append_assoc card (10 ∷ later) t)) ∙ ap (λ all. piece_at (code ∷ (all ++ t))) (sym e)

-- ---- The words up to a line

-- the line behind a text
abbrev pub line_through : ℕ → List ℕ → ℕ
line_through line [] = line
line_through line (code ∷ text) = line_through (line_after code line) text

-- words from a line on, where a comment may be open
abbrev walk : Option ℕ → ℕ → ℕ → List ℕ → Words
walk None line covered text = words_from line covered text
walk (Some first) line covered text = words_inside first line text

at-same : (line k : ℕ) (p : Piece) (b c : ℕ → Words) → ((n : ℕ) → first_bad k (b n) ≡ first_bad k (c n))
    → first_bad k (words_at line p b) ≡ first_bad k (words_at line p c)
at-same line k (Gap n) b c same = same n
at-same line k (Spells found n) b c same = first-before k (spot found line) (b n) ∙ same n ∙ sym (first-before k (spot found line) (c n))
at-same line k Bad b c same = refl

still-small : (code line : ℕ) → line ≤ 4294967295 → line_after code line ≤ 4294967295
still-small code line small = (line-later code line 0 (omega arith) small).1

is-quote : (code : ℕ) → code == 34 ≡ true → code ≡ 34
is-quote code e = grind (arith, nat_tests)

no-quote : false ≡ true → ⊥
no-quote e = cc

-- at a word or a comment
word-here : (code : ℕ) (p r t : List ℕ) (line k : ℕ) → Ends (code ∷ p)
    → (code == 34 ≡ true → first_bad k (words_inside line line (p ++ r)) ≡ first_bad k (words_inside line line (p ++ t)))
    → ((n : ℕ) → first_bad k (words_from (line_after code line) (n - 1) (p ++ r)) ≡ first_bad k (words_from (line_after code line) (n - 1) (p ++ t)))
    → (quote : Bool) → code == 34 ≡ quote → first_bad k (words_from line 0 (code ∷ (p ++ r))) ≡ first_bad k (words_from line 0 (code ∷ (p ++ t)))
word-here code p r t line k ends inside behind true e =
    let is = is-quote code e in
    ap (λ c. first_bad k (words_from line 0 (c ∷ (p ++ r)))) is ∙ ap (first_bad k) (comment_step line (p ++ r)) ∙ inside e
    ∙ sym (ap (first_bad k) (comment_step line (p ++ t))) ∙ ap (λ c. first_bad k (words_from line 0 (c ∷ (p ++ t)))) (sym is)
word-here code p r t line k ends inside behind false e =
    ap (λ piece. first_bad k (words_at line piece (λ n. words_from (line_after code line) (n - 1) (p ++ r))))
    (piece-same code p r t ends (λ q. no-quote (sym e ∙ q)))
    ∙ at-same line k (piece_at (code ∷ (p ++ t))) (λ n. words_from (line_after code line) (n - 1) (p ++ r))
    (λ n. words_from (line_after code line) (n - 1) (p ++ t)) behind

-- inside a comment
inside-here : (quote : Bool) (k : ℕ) (a b c d : Words) → (quote ≡ true → first_bad k a ≡ first_bad k c) → first_bad k b ≡ first_bad k d
    → first_bad k (cond quote a b) ≡ first_bad k (cond quote c d)
inside-here true k a b c d closed runs = closed refl
inside-here false k a b c d closed runs = runs

pub same-front : (p r t : List ℕ) (open_at : Option ℕ) (line covered k : ℕ) → Ends p → line ≤ 4294967295 → line_through line p ≡ k → has_quote r ≡ has_quote t
    → first_bad k (walk open_at line covered (p ++ r)) ≡ first_bad k (walk open_at line covered (p ++ t))
same-front [] r t None line covered k ends small through quotes =
    first-behind r line covered k (omega (arith, through)) small ∙ sym (first-behind t line covered k (omega (arith, through)) small)
same-front [] r t (Some first) line covered k ends small through quotes =
    inside-behind r first line k (omega (arith, through)) small ∙ ap (λ q. cond q k (min first k)) quotes
    ∙ sym (inside-behind t first line k (omega (arith, through)) small)
same-front (code ∷ p) r t None line (suc covered) k ends small through quotes =
    same-front p r t None (line_after code line) covered k (ends-behind code p ends) (still-small code line small) through quotes
same-front (code ∷ p) r t None line zero k ends small through quotes =
    word-here code p r t line k ends
    (λ e. same-front p r t (Some line) line 0 k (ends-behind code p ends) small
    (subst (λ c. line_through (line_after c line) p ≡ k) (is-quote code e) through) quotes)
    (λ n. same-front p r t None (line_after code line) (n - 1) k (ends-behind code p ends) (still-small code line small) through quotes)
    (code == 34) refl
same-front (code ∷ p) r t (Some first) line covered k ends small through quotes =
    inside-here (code == 34) k (words_from line 0 (p ++ r)) (words_inside first (line_after code line) (p ++ r)) (words_from line 0 (p ++ t))
    (words_inside first (line_after code line) (p ++ t))
    (λ e. same-front p r t None line 0 k (ends-behind code p ends) small
    (subst (λ c. line_through (line_after c line) p ≡ k) (is-quote code e) through) quotes)
    (same-front p r t (Some first) (line_after code line) 0 k (ends-behind code p ends) (still-small code line small) through quotes)
