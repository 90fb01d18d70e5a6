-- The first word of a text, and the others.
use Rattle.std.proofs.Common.{◌≡◌, ℕ, ◌<◌, List, [], ◌∷◌, length, take, drop, refl, ap, ◌∙◌, arith, Bool, true, false, add-one}
use Rattle.std.specs.Prelude.{filter, ◌==◌}
use Rattle.solo_base.specs.Words.{parts, is_word, words, word_length}

-- the parts behind the first
abbrev others : List ℕ → List (List ℕ)
others [] = []
others (code ∷ rest) = parts rest

-- a text begins with its first word
record Begins (text : List ℕ) : Type 0 where
  parts_are : parts text ≡ take (word_length text) text ∷ others (drop (word_length text) text)
  words_are : filter is_word (others (drop (word_length text) text)) ≡ words (drop (word_length text) text)

at_blank : (b : Bool) (code : ℕ) (rest : List ℕ) → b ≡ true → (code == 32) ≡ b → Begins (code ∷ rest)
at_blank b code rest blank is =
    let there : (code == 32) ≡ true = is ∙ blank in
    record { parts_are = rw there refl; words_are = rw there (rw there refl) }

in_word : (code : ℕ) (rest : List ℕ) → (code == 32) ≡ false → Begins rest → Begins (code ∷ rest)
in_word code rest is more = record {
  parts_are = rw (is, add-one, more.parts_are) refl;
  words_are = rw (is, add-one) more.words_are;
}

begin : (b : Bool) (code : ℕ) (rest : List ℕ) → (code == 32) ≡ b → Begins rest → Begins (code ∷ rest)
begin true code rest is more = at_blank true code rest refl is
begin false code rest is more = in_word code rest is more

begins : (text : List ℕ) → Begins text
begins [] = record { parts_are = refl; words_are = refl }
begins (code ∷ rest) = begin (code == 32) code rest refl (begins rest)

word_of : (word : List ℕ) → 0 < length word → is_word word ≡ true
word_of [] some = absurd (omega arith)
word_of (code ∷ rest) some = refl

pub words-first : (text : List ℕ) (n : ℕ) → n ≡ word_length text → 0 < length (take n text) → words text ≡ take n text ∷ words (drop n text)
words-first text n is some =
    let all : Begins text = begins text in
    let word : is_word (take (word_length text) text) ≡ true = word_of (take (word_length text) text) (rw (← is) some) in
    rw is (ap (filter is_word) all.parts_are ∙ rw word (ap (λ ws. take (word_length text) text ∷ ws) all.words_are))
