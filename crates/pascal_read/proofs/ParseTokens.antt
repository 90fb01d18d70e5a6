-- Tokens are words, one after the other.
use Rattle.std.proofs.Common.{◌≡◌, ℕ, suc, ◌+◌, ◌<◌, ◌≤◌, List, ◌∷◌, length, get_or, drop, sym, ap, subst, ◌∙◌, drop-cons, add-one, arith}
use lib.Seq.{drop-length}
use Rattle.pascal_tree.specs.Word.{Spot, IsWord, AreWords}

-- a word before words
pub words_behind : (tokens : List Spot) (place : ℕ) (token : Spot) → place < length tokens → token ≡ get_or tokens place token → IsWord token.word →
    AreWords (drop (place + 1) tokens) → AreWords (drop place tokens)
words_behind tokens place token h e w rest =
    let first : drop place tokens ≡ token ∷ drop (suc place) tokens = drop-cons tokens place token h ∙ ap (λ t. t ∷ drop (suc place) tokens) (sym e) in
    subst AreWords (sym first) (w, subst (λ n. AreWords (drop n tokens)) (add-one place) rest)

-- no word is left
pub words_past : (tokens : List Spot) (place : ℕ) → length tokens ≤ place → place ≤ length tokens → AreWords (drop place tokens)
words_past tokens place h g =
    let all : place ≡ length tokens = omega arith in
    rw (all, drop-length tokens) tt
