-- A text that is cut at a character, and its words between the commas.
use Rattle.std.proofs.Common.{◌≡◌, ℕ, zero, suc, ◌+◌, ◌-◌, ◌<◌, ◌≤◌, Bool, true, false, not, cond, List, [], ◌∷◌, length, take, drop, map, Option, Some, None, refl, ap, sym, subst, ◌∙◌, arith}
use Rattle.std.specs.Prelude.{◌==◌}
use Rattle.std.specs.List.{position_or_len}
use Rattle.std.specs.Option.{option_map}
use Rattle.std.proofs.lemmas.List.{take_all, length-drop}
use Rattle.std.proofs.lemmas.List.Sums.{prefix_len-le-length}
use Rattle.solo_base.specs.Words.{before_parts}
use Rattle.solo_commands.specs.Words.{without_blanks, comma_parts, comma_words, cut_later, cut_at}

abbrev first : ℕ → List ℕ → ℕ
first stop text = position_or_len (λ other. other == stop) text

first-here : (stop code : ℕ) (rest : List ℕ) → (code == stop) ≡ true → first stop (code ∷ rest) ≡ 0
first-here stop code rest is = ap (λ t. cond (not t) (1 + first stop rest) 0) is

first-later : (stop code : ℕ) (rest : List ℕ) → (code == stop) ≡ false → first stop (code ∷ rest) ≡ 1 + first stop rest
first-later stop code rest is = ap (λ t. cond (not t) (1 + first stop rest) 0) is

none-by : (b : Bool) (stop code : ℕ) (rest : List ℕ) → (code == stop) ≡ b → (first stop rest ≡ length rest → cut_at stop rest ≡ None)
    → first stop (code ∷ rest) ≡ length (code ∷ rest) → cut_at stop (code ∷ rest) ≡ None
none-by true stop code rest is more all = let here = first-here stop code rest is in absurd (omega (arith, here, all))
none-by false stop code rest is more all =
    let later = first-later stop code rest is in
    let none : cut_at stop rest ≡ None = more (omega (arith, later, all)) in rw (is, none) refl

cut-none : (stop : ℕ) (text : List ℕ) → first stop text ≡ length text → cut_at stop text ≡ None
cut-none stop [] all = refl
cut-none stop (code ∷ rest) all = none-by (code == stop) stop code rest refl (cut-none stop rest) all

drop-more : (place code : ℕ) (rest : List ℕ) → drop (suc place + 1) (code ∷ rest) ≡ drop (place + 1) rest
drop-more place code rest = let one : suc place + 1 ≡ suc (place + 1) = omega arith in rw one refl

some-by : (b : Bool) (stop code : ℕ) (rest : List ℕ) (place : ℕ) → (code == stop) ≡ b
    → ((at : ℕ) → first stop rest ≡ at → at < length rest → cut_at stop rest ≡ Some (take at rest, drop (at + 1) rest))
    → first stop (code ∷ rest) ≡ place → place < length (code ∷ rest)
    → cut_at stop (code ∷ rest) ≡ Some (take place (code ∷ rest), drop (place + 1) (code ∷ rest))
some-by true stop code rest zero is more at inside = rw is refl
some-by true stop code rest (suc place) is more at inside = let here = first-here stop code rest is in absurd (omega (arith, here, at))
some-by false stop code rest zero is more at inside = let later = first-later stop code rest is in absurd (omega (arith, later, at))
some-by false stop code rest (suc place) is more at inside =
    let later = first-later stop code rest is in
    let some : cut_at stop rest ≡ Some (take place rest, drop (place + 1) rest) = more place (omega (arith, later, at)) (omega (arith, inside)) in
    rw (is, some, drop-more place code rest) refl

-- a text with the character at this place first
pub cut_some : (stop : ℕ) (text : List ℕ) (place : ℕ) → first stop text ≡ place → place < length text
    → cut_at stop text ≡ Some (take place text, drop (place + 1) text)
cut_some stop [] place at inside = absurd (omega (arith, inside))
cut_some stop (code ∷ rest) place at inside = some-by (code == stop) stop code rest place refl (cut_some stop rest) at inside

-- a text without the character
pub cut_none : (stop : ℕ) (text : List ℕ) (place : ℕ) → place ≡ first stop text → length text ≤ place → cut_at stop text ≡ None
cut_none stop text place at past =
    let most = prefix_len-le-length (λ other. not (other == stop)) text in cut-none stop text (omega (arith, most, at, past))

-- what stands before and behind it, as a cut slice has them
pub cut_parts : (stop : ℕ) (text : List ℕ) (place : ℕ) → place ≡ first stop text → place < length text
    → cut_at stop text ≡ Some (take place text, take (length text - (place + 1)) (drop (place + 1) text))
cut_parts stop text place at inside =
    let long = length-drop (place + 1) text in
    let all : take (length text - (place + 1)) (drop (place + 1) text) ≡ drop (place + 1) text =
    take_all (length text - (place + 1)) (drop (place + 1) text) (omega (arith, long)) in
    rw all (cut_some stop text place (sym at) inside)

-- ---- Parts

abbrev PartsAre : List (List ℕ) → List ℕ → Option (List ℕ × List ℕ) → Type 0
PartsAre all text None = all ≡ text ∷ []
PartsAre all text (Some (before, behind)) = all ≡ before ∷ comma_parts behind

front-parts : (code : ℕ) (rest : List ℕ) (cut : Option (List ℕ × List ℕ)) → PartsAre (comma_parts rest) rest cut
    → PartsAre (before_parts code (comma_parts rest)) (code ∷ rest) (option_map (cut_later code) cut)
front-parts code rest None is = ap (before_parts code) is
front-parts code rest (Some (before, behind)) is = ap (before_parts code) is

parts-by : (b : Bool) (code : ℕ) (rest : List ℕ) → (code == 44) ≡ b → PartsAre (comma_parts rest) rest (cut_at 44 rest)
    → PartsAre (comma_parts (code ∷ rest)) (code ∷ rest) (cut_at 44 (code ∷ rest))
parts-by true code rest is more = rw is refl
parts-by false code rest is more = rw is (front-parts code rest (cut_at 44 rest) more)

parted : (text : List ℕ) → PartsAre (comma_parts text) text (cut_at 44 text)
parted [] = refl
parted (code ∷ rest) = parts-by (code == 44) code rest refl (parted rest)

-- the words of a text without a comma
pub words_one : (text : List ℕ) → cut_at 44 text ≡ None → comma_words text ≡ without_blanks text ∷ []
words_one text none = ap (map without_blanks) (subst (PartsAre (comma_parts text) text) none (parted text))

-- and of one that is cut at its first comma
pub words_more : (text before behind : List ℕ) → cut_at 44 text ≡ Some (before, behind) → comma_words text ≡ without_blanks before ∷ comma_words behind
words_more text before behind some = ap (map without_blanks) (subst (PartsAre (comma_parts text) text) some (parted text))

-- the words of a text that has one comma
pub words_two : (text before behind : List ℕ) → cut_at 44 text ≡ Some (before, behind) → cut_at 44 behind ≡ None
    → comma_words text ≡ without_blanks before ∷ without_blanks behind ∷ []
words_two text before behind some none = words_more text before behind some ∙ ap (λ others. without_blanks before ∷ others) (words_one behind none)

-- a text has a first word
pub record HasWord (text : List ℕ) : Type 0 where
  pub word : List ℕ
  pub others : List (List ℕ)
  pub are : comma_words text ≡ word ∷ others

word-by : (text : List ℕ) (cut : Option (List ℕ × List ℕ)) → cut_at 44 text ≡ cut → HasWord text
word-by text None none = record { word = without_blanks text; others = []; are = words_one text none }
word-by text (Some (before, behind)) some = record { word = without_blanks before; others = comma_words behind; are = words_more text before behind some }

pub has_word : (text : List ℕ) → HasWord text
has_word text = word-by text (cut_at 44 text) refl
