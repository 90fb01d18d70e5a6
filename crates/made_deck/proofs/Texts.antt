-- The text of more lines.
use Rattle.std.proofs.Common.{◌≡◌, ◌<◌, ℕ, ◌+◌, List, [], ◌∷◌, ◌++◌, length, take, get_or, refl, sym, ◌∙◌, ap, append_assoc, add-one}
use Rattle.std.specs.Prelude.{slice_get, Some}
use Rattle.std.proofs.lemmas.List.{append-nil, take_more}
use Rattle.std.proofs.lemmas.Option.{get_or_from_slice_get}
use Rattle.solo_base.specs.Text.{line_text, text}
use Rattle.made_deck.specs.MadeDeck.{jobs_to, job_cards}

text-append : (lines more : List (List ℕ)) → text (lines ++ more) ≡ text lines ++ text more
text-append [] more = refl
text-append (line ∷ lines) more =
    ap (λ bytes. line_text line ++ bytes) (text-append lines more) ∙ sym (append_assoc (line_text line) (text lines) (text more))

-- behind a text, one line more
pub line_more : (before : List ℕ) (lines : List (List ℕ)) (n : ℕ) (line : List ℕ) → n < length lines → slice_get lines n ≡ Some line
    → (before ++ text (take n lines)) ++ line_text line ≡ before ++ text (take (n + 1) lines)
line_more before lines n line below found =
    let got : get_or lines n line ≡ line = get_or_from_slice_get lines n line line found in
    let more : take (n + 1) lines ≡ take n lines ++ line ∷ [] = take_more lines n line below ∙ ap (λ last. take n lines ++ last ∷ []) got in
    append_assoc before (text (take n lines)) (line_text line)
    ∙ ap (λ all. before ++ all)
    (ap (λ last. text (take n lines) ++ last) (sym (append-nil (line_text line))) ∙ sym (text-append (take n lines) (line ∷ [])) ∙ ap text (sym more))

-- and one job more
pub job_more : (n : ℕ) → text (jobs_to n) ++ text (job_cards (n + 1)) ≡ text (jobs_to (n + 1))
job_more n = sym (text-append (jobs_to n) (job_cards (n + 1))) ∙ ap (λ m. text (jobs_to m)) (sym (add-one n))
