-- A text that is cut into lines: how many, each of them, and one line more.
use Rattle.std.proofs.Common.{◌≡◌, ℕ, zero, suc, ◌+◌, ◌-◌, ◌<◌, ◌≤◌, ◌^◌, List, [], ◌∷◌, ◌++◌, length, take, drop, refl, ap, subst, arith, get_or, Some, length-append, length-drop}
use Rattle.std.specs.Prelude.{slice_get}
use Rattle.std.proofs.lemmas.List.{take-append-le, drop-append-le, take_all}
use Rattle.std.proofs.Math.Seq.{drop-append_seam}
use Rattle.solo_base.specs.Line.{IsLine}
use Rattle.solo_base.specs.LineList.{pieces, start_at, IsCutTo, AreLines, IsCutIntoLines}

pub length-pieces : (text : List ℕ) (from : ℕ) (ends : List ℕ) → length (pieces text from ends) ≡ length ends
length-pieces text from [] = refl
length-pieces text from (end ∷ ends) = ap suc (length-pieces text end ends)

-- a place at which a cut text is cut lies within it
pub cut_within : (text_end from : ℕ) (ends : List ℕ) → IsCutTo text_end from ends → from ≤ text_end
cut_within text_end from [] cut = omega arith
cut_within text_end from (end ∷ ends) cut = let rest : end ≤ text_end = cut_within text_end end ends cut.1 in omega arith

piece-append : (text line : List ℕ) (from end : ℕ) → from ≤ end → end ≤ length text →
    take (end - from) (drop from (text ++ line)) ≡ take (end - from) (drop from text)
piece-append text line from end rises within =
    let inside : from ≤ length text = omega arith in
    let short : end - from ≤ length (drop from text) = omega (arith, length-drop from text) in
    rw (drop-append-le from text line) (take-append-le (end - from) (drop from text) line short)

last_piece : (text line : List ℕ) → take (length text + length line - length text) (drop (length text) (text ++ line)) ≡ line
last_piece text line = rw (drop-append_seam text line) (take_all (length text + length line - length text) line (omega arith))

pub pieces-append : (text line : List ℕ) (from : ℕ) (ends : List ℕ) → IsCutTo (length text) from ends →
    pieces (text ++ line) from (ends ++ (length text + length line) ∷ []) ≡ pieces text from ends ++ line ∷ []
pieces-append text line from [] cut = rw cut (ap (λ l. l ∷ []) (last_piece text line))
pieces-append text line from (end ∷ ends) cut =
    rw (piece-append text line from end cut.0 (cut_within (length text) end ends cut.1))
    (ap (λ ls. take (end - from) (drop from text) ∷ ls) (pieces-append text line end ends cut.1))

pub IsCutTo-append : (old new from : ℕ) (ends : List ℕ) → old ≤ new → IsCutTo old from ends → IsCutTo new from (ends ++ new ∷ [])
IsCutTo-append old new from [] more cut = (omega arith, refl)
IsCutTo-append old new from (end ∷ ends) more cut = (cut.0, IsCutTo-append old new end ends more cut.1)

pub AreLines-append : (lines : List (List ℕ)) (line : List ℕ) → AreLines lines → IsLine line → AreLines (lines ++ line ∷ [])
AreLines-append [] line are is = (is, tt)
AreLines-append (first ∷ lines) line are is = (are.0, AreLines-append lines line are.1 is)

pub start_at-suc : (from : ℕ) (ends : List ℕ) (place : ℕ) → place < length ends → start_at from ends (suc place) ≡ get_or ends place 0
start_at-suc from [] place below = absurd (omega arith)
start_at-suc from (end ∷ ends) zero below = refl
start_at-suc from (end ∷ ends) (suc place) below = start_at-suc end ends place (omega arith)

-- the piece at a place
pub record IsPieceAt (text : List ℕ) (from : ℕ) (ends : List ℕ) (place : ℕ) : Type 0 where
  pub rises : start_at from ends place ≤ get_or ends place 0
  pub within : get_or ends place 0 ≤ length text
  pub piece : slice_get (pieces text from ends) place ≡ Some (take (get_or ends place 0 - start_at from ends place) (drop (start_at from ends place) text))

pub piece_at : (text : List ℕ) (from : ℕ) (ends : List ℕ) (place : ℕ) → IsCutTo (length text) from ends → place < length ends → IsPieceAt text from ends place
piece_at text from [] place cut below = absurd (omega arith)
piece_at text from (end ∷ ends) zero cut below = record { rises = cut.0; within = cut_within (length text) end ends cut.1; piece = refl }
piece_at text from (end ∷ ends) (suc place) cut below =
    let rest : IsPieceAt text end ends place = piece_at text end ends place cut.1 (omega arith) in
    record { rises = rest.rises; within = rest.within; piece = rest.piece }

pub line_at : (lines : List (List ℕ)) (place : ℕ) (line : List ℕ) → AreLines lines → slice_get lines place ≡ Some line → IsLine line
line_at [] place line are is = cc
line_at (first ∷ lines) zero line are is = let same : first ≡ line = cc in subst IsLine same are.0
line_at (first ∷ lines) (suc place) line are is = line_at lines place line are.1 is

-- a text that is cut into lines, with one line more
pub record Grows (text ends text' ends' line : List ℕ) : Type 0 where
  pub cut : IsCutIntoLines text' ends'
  pub pieces_are : pieces text' 0 ends' ≡ pieces text 0 ends ++ line ∷ []

grown : (text ends line : List ℕ) → IsCutIntoLines text ends → IsLine line → length text + length line < 2 ^ 32 →
    Grows text ends (text ++ line) (ends ++ (length text + length line) ∷ []) line
grown text ends line is line_is small =
    let same : pieces (text ++ line) 0 (ends ++ (length text + length line) ∷ []) ≡ pieces text 0 ends ++ line ∷ [] = pieces-append text line 0 ends is.cut in
    record {
      cut = record {
        cut = rw (length-append text line) (IsCutTo-append (length text) (length text + length line) 0 ends (omega arith) is.cut);
        lines = rw same (AreLines-append (pieces text 0 ends) line is.lines line_is);
        small = rw (length-append text line) small;
      };
      pieces_are = same;
    }

pub grows : (text ends text' ends' line : List ℕ) (end : ℕ) → IsCutIntoLines text ends → IsLine line →
    text' ≡ text ++ line → ends' ≡ ends ++ end ∷ [] → end ≡ length text + length line → end < 2 ^ 32 →
    Grows text ends text' ends' line
grows text ends text' ends' line end is line_is text_is ends_are end_is small =
    let small' : length text + length line < 2 ^ 32 = rw (← end_is) small in
    rw (text_is, ends_are, end_is) (grown text ends line is line_is small')
