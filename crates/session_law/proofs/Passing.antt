-- Piece by piece: where the work stands, and to which files it comes.
use Rattle.std.proofs.Common.{◌≡◌, ◌⊎◌, inl, inr, List, [], ◌∷◌, ◌++◌, refl, sym, ◌∙◌, ap, subst, append_assoc}
use Rattle.std.proofs.lemmas.List.{append-nil}
use Rattle.disk_layout.specs.Files.{Files}
use Rattle.solo_needs.specs.Needs.{Given, OfLine, OfCards, OfTyped, OfNothing}
use Rattle.solo_task.specs.Doing.{line_does}
use Rattle.solo_task.specs.Needs.{Pause, WantsCards, WantsLine, GoesOn, or_idle, resumes}
use Rattle.solo_task.specs.Laws.{last_of}
use Rattle.solo_task.proofs.NeedsMet.{leaves-last}
use Rattle.session_law.specs.Plans.{FilesAndPause, at_rest, piece, behind, behind_pieces, plan_from, maps_passed}
use Rattle.session_law.specs.Passing.{IsAmong, ComesBy, stands_behind, OnePieceMore, EachPieceLeadsOn, BehindIsPassed}

behind-more : (before : List Given) (given : Given) (s : FilesAndPause) → behind_pieces (before ++ given ∷ []) s ≡ behind given (behind_pieces before s)
behind-more [] given s = refl
behind-more (first ∷ before) given s = behind-more before given (behind first s)

passed-more : (before : List Given) (given : Given) (s : FilesAndPause)
    → maps_passed (before ++ given ∷ []) s ≡ maps_passed before s ++ (piece given (behind_pieces before s)).maps
passed-more [] given s = append-nil (piece given s).maps
passed-more (first ∷ before) given s =
    ap (λ maps. (piece first s).maps ++ maps) (passed-more before given (behind first s))
    ∙ sym (append_assoc (piece first s).maps (maps_passed before (behind first s)) (piece given (behind_pieces before (behind first s))).maps)

-- ---- the last of some files

piece-last : (given : Given) (files : Files) (pause : Pause) → (resumes given files pause).files ≡ last_of files (resumes given files pause).maps
piece-last (OfLine item) files pause = leaves-last [] (or_idle (line_does item files)) files
piece-last (OfCards cards spoiled) files (WantsCards hand more) = leaves-last hand (more (record { cards = cards; spoiled = spoiled })) files
piece-last (OfTyped typed) files (WantsLine hand more) = leaves-last hand (more typed) files
piece-last OfNothing files (GoesOn hand later) = leaves-last hand later files
piece-last given files pause = refl

among-further : (all first : Files) (some more : List Files) → IsAmong all (last_of first some) more → IsAmong all first (some ++ more)
among-further all first [] more is = is
among-further all first (next ∷ some) more is = inr (among-further all next some more is)

last-append : (first : Files) (some more : List Files) → last_of first (some ++ more) ≡ last_of (last_of first some) more
last-append first [] more = refl
last-append first (next ∷ some) more = last-append next some more

last-among : (first : Files) (maps : List Files) → IsAmong (last_of first maps) first maps
last-among first [] = refl
last-among first (next ∷ rest) = inr (last-among next rest)

files-last : (givens : List Given) (s : FilesAndPause) → (behind_pieces givens s).files ≡ last_of s.files (maps_passed givens s)
files-last [] s = refl
files-last (given ∷ rest) s =
    files-last rest (behind given s) ∙ ap (λ all. last_of all (maps_passed rest (behind given s))) (piece-last given s.files s.pause)
    ∙ sym (last-append s.files (piece given s).maps (maps_passed rest (behind given s)))

-- ---- the laws

pub each-piece : EachPieceLeadsOn
each-piece opening before given =
    let s = stands_behind opening before in
    record {
      leads = behind-more before given (at_rest opening);
      need = refl;
      plan = ap plan_from (sym (behind-more before given (at_rest opening)));
      passes = λ all is.
          subst (λ maps. IsAmong all opening maps) (sym (passed-more before given (at_rest opening)))
          (among-further all opening (maps_passed before (at_rest opening)) (piece given s).maps
          (subst (λ first. IsAmong all first (piece given s).maps) (files-last before (at_rest opening)) is));
    }

pub behind-passed : BehindIsPassed
behind-passed opening givens =
    subst (λ all. IsAmong all opening (maps_passed givens (at_rest opening))) (sym (files-last givens (at_rest opening)))
    (last-among opening (maps_passed givens (at_rest opening)))
