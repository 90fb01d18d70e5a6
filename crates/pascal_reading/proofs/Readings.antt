-- Cards are read as a tree exactly where their words are its spelling, and as an error exactly at its place.
use Rattle.std.proofs.Common.{◌≡◌, ℕ, List, Result, Ok, Err, refl, sym, ap, subst, ◌∙◌}
use Rattle.solo_base.specs.LineList.{AreLines}
use Rattle.pascal_tree.specs.Word.{Spot, AreWords}
use Rattle.pascal_tree.specs.Program.{Program}
use Rattle.pascal_tree.specs.Limits.{IsTree}
use Rattle.pascal_tree.specs.SpellProgram.{spelled}
use Rattle.pascal_tree.proofs.UniqueProgram.{unique_program}
use Rattle.pascal_read.specs.ErrorPlace.{ErrorPlace, EndAtTheEnd}
use Rattle.pascal_read.specs.ParseFirst.{first_line}
use Rattle.pascal_read.specs.ParseWants.{Outcome, run, report, stuck_line, program_wants}
use Rattle.pascal_read.specs.Scan.{Words, words}
use Rattle.pascal_reading.specs.Parts.{PartsOf}
use Rattle.pascal_reading.specs.Reading.{Reading, tree, bad_word, syntax_error, parts_of, read_as, reading_of, reading}
use Rattle.pascal_reading.proofs.PartsMade.{IsToldBy, parts_tell, program_levels, program_spells, program_keeps}
use Rattle.pascal_read.proofs.ParsePlace.{stuck_is_error_place}
use Rattle.pascal_read.proofs.ParseOnePlace.{no_tree, one_place}
use Rattle.pascal_read.proofs.WordsKeep.{AreKept, words_are_kept}

-- what a reading of words tells of them
abbrev Tells : List Spot → Reading → Type 0
Tells tokens (tree t) = (spelled t ≡ tokens) × IsTree t
Tells tokens (bad_word line) = ⊥
Tells tokens (syntax_error line) = ErrorPlace tokens line

tells_by : (tokens : List Spot) → AreWords tokens → EndAtTheEnd tokens → (o : Outcome) (found : Result (PartsOf program_wants) (List Spot))
    → run tokens program_wants ≡ o → IsToldBy program_wants tokens o found → Tells tokens (read_as found)
unfolding report
tells_by tokens w e o (Ok p) r told = (program_spells p tokens told, program_keeps p tokens told w)
tells_by tokens w e o (Err left) r told = stuck_is_error_place tokens (first_line left) w e (ap stuck_line (r ∙ told))

tells : (tokens : List Spot) → AreWords tokens → EndAtTheEnd tokens → Tells tokens (reading_of (Ok tokens))
tells tokens w e =
    tells_by tokens w e (run tokens program_wants) (parts_of tokens program_wants) refl (parts_tell tokens program_wants program_levels)

not_bad : (line : ℕ) (found : Result (PartsOf program_wants) (List Spot)) → read_as found ≡ bad_word line → ⊥
not_bad line (Ok p) e = cc
not_bad line (Err left) e = cc

tree_told : (w : Words) (t : Program) → AreKept w → reading_of w ≡ tree t → (w ≡ Ok (spelled t)) × IsTree t
tree_told (Ok tokens) t k e =
    let f = subst (λ x. Tells tokens x) e (tells tokens k.0 k.1) in
    (ap Ok (sym f.0), f.1)
tree_told (Err line) t k e = absurd cc

same_tree : (tokens : List Spot) (x : Reading) (t : Program) → Tells tokens x → tokens ≡ spelled t → IsTree t → x ≡ tree t
same_tree tokens (tree u) t f e k = ap tree (unique_program u t f.1 k (f.0 ∙ e))
same_tree tokens (bad_word line) t f e k = absurd f
same_tree tokens (syntax_error line) t f e k = absurd (no_tree tokens line f (record { tree = t; is_tree = k; is = sym e }))

tree_found : (w : Words) (t : Program) → AreKept w → w ≡ Ok (spelled t) → IsTree t → reading_of w ≡ tree t
tree_found (Ok tokens) t k e i =
    let same : tokens ≡ spelled t = cc in
    same_tree tokens _ t (tells tokens k.0 k.1) same i
tree_found (Err line) t k e i = absurd cc

same_place : (tokens : List Spot) (x : Reading) (line : ℕ) → Tells tokens x → ErrorPlace tokens line → x ≡ syntax_error line
same_place tokens (tree u) line f p = absurd (no_tree tokens line p (record { tree = u; is_tree = f.1; is = f.0 }))
same_place tokens (bad_word other) line f p = absurd f
same_place tokens (syntax_error other) line f p = ap syntax_error (one_place tokens other line f p)

bad_told : (w : Words) (line : ℕ) → reading_of w ≡ bad_word line → w ≡ Err line
bad_told (Ok tokens) line e = absurd (not_bad line (parts_of tokens program_wants) e)
bad_told (Err other) line e = let same : other ≡ line = cc in ap Err same

pub read_tree : (cards : List (List ℕ)) (t : Program) → AreLines cards → reading cards ≡ tree t → (words cards ≡ Ok (spelled t)) × IsTree t
unfolding reading
read_tree cards t l e = tree_told (words cards) t (words_are_kept cards l) e

pub tree_read : (cards : List (List ℕ)) (t : Program) → AreLines cards → words cards ≡ Ok (spelled t) → IsTree t → reading cards ≡ tree t
unfolding reading
tree_read cards t l e i = tree_found (words cards) t (words_are_kept cards l) e i

pub read_bad : (cards : List (List ℕ)) (line : ℕ) → reading cards ≡ bad_word line → words cards ≡ Err line
unfolding reading
read_bad cards line e = bad_told (words cards) line e

pub bad_read : (cards : List (List ℕ)) (line : ℕ) → words cards ≡ Err line → reading cards ≡ bad_word line
unfolding reading
bad_read cards line e = ap reading_of e

pub read_error : (cards : List (List ℕ)) (tokens : List Spot) (line : ℕ) → AreLines cards → words cards ≡ Ok tokens → reading cards ≡ syntax_error line → ErrorPlace tokens line
unfolding reading
read_error cards tokens line l w e =
    let k = subst AreKept w (words_are_kept cards l) in
    subst (λ x. Tells tokens x) (ap reading_of (sym w) ∙ e) (tells tokens k.0 k.1)

pub error_read : (cards : List (List ℕ)) (tokens : List Spot) (line : ℕ) → AreLines cards → words cards ≡ Ok tokens → ErrorPlace tokens line → reading cards ≡ syntax_error line
unfolding reading
error_read cards tokens line l w p =
    let k = subst AreKept w (words_are_kept cards l) in
    ap reading_of w ∙ same_place tokens _ line (tells tokens k.0 k.1) p
