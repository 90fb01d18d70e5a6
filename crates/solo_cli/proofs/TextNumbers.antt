-- The lines and characters of a text are counted by its line ends.
use Rattle.std.proofs.Common.{◌≡◌, ℕ, ◌+◌, ◌==◌, Bool, true, false, cond, List, [], ◌∷◌, length, refl, ◌∙◌, length-append, arith}
use Rattle.std.specs.Prelude.{count_by, ◌&&◌}
use Rattle.std.specs.List.{AllByRecursion, list_all}
use Rattle.std.proofs.lemmas.List.Sums.{sum_by-append, sum_by-cons}
use Rattle.std.proofs.lemmas.Bool.Decides.{nat_tests}
use Rattle.solo_base.specs.Line.{is_printable, IsLine}
use Rattle.solo_base.specs.Text.{text, line_text}
use Rattle.solo_cli.specs.DeckNumbers.{characters_of}

abbrev end_at : ℕ → ℕ
end_at code = cond (code == 10) 1 0

abbrev ends : List ℕ → ℕ
ends bytes = count_by (λ code. code == 10) bytes

both : (a b : Bool) → a && b ≡ true → (a ≡ true) × (b ≡ true)
both true b is = (refl, is)
both false b is = cc

not-end : (code : ℕ) → is_printable code ≡ true → code == 10 ≡ false
not-end code is = grind (arith, nat_tests)

none-ends : (line : List ℕ) → list_all is_printable line ≡ true → ends line ≡ 0
none-ends [] are = refl
none-ends (code ∷ line) are =
    let parts = both (is_printable code) (list_all is_printable line) are in
    sum_by-cons end_at code line ∙ rw (not-end code parts.0, none-ends line parts.1) refl

one-ends : (line : List ℕ) → IsLine line → ends (line_text line) ≡ 1
one-ends line is = sum_by-append end_at line (10 ∷ []) ∙ rw (none-ends line is.printable) refl

pub ends_of : (lines : List (List ℕ)) → AllByRecursion IsLine lines → ends (text lines) ≡ length lines
ends_of [] are = refl
ends_of (line ∷ lines) are =
    let all = sum_by-append end_at (line_text line) (text lines) in
    let one = one-ends line are.0 in
    let rest = ends_of lines are.1 in
    omega (arith, all, one, rest)

pub length_of : (lines : List (List ℕ)) → length (text lines) ≡ characters_of lines + length lines
length_of [] = refl
length_of (line ∷ lines) =
    let all = length-append (line_text line) (text lines) in
    let one = length-append line (10 ∷ []) in
    let rest = length_of lines in
    omega (arith, all, one, rest)
