-- A card's end parts words: what stands on a card doesn't depend on what stands behind the card.
use Rattle.std.proofs.Common.{◌≡◌, ◌≢◌, ℕ, ◌+◌, ◌<◌, ◌≤◌, Bool, true, false, cond, ◌&&◌, List, [], ◌∷◌, ◌++◌, length, refl, sym, ◌∙◌, take, drop, arith}
use Rattle.std.specs.Prelude.{take_while, slice_index, nat_eq, codes, ◌==◌}
use Rattle.std.specs.List.{prefix_len, starts_with}
use Rattle.std.proofs.lemmas.Grind.{common_steps}
use Rattle.std.proofs.lemmas.Bool.{cond-true, cond-false}
use Rattle.std.proofs.lemmas.Bool.Decides.{nat_tests}
use Rattle.pascal_read.proofs.Fronts.{length-take_while}
use Rattle.solo_base.specs.Ident.{is_letter, is_digit, is_letter_or_digit}
use Rattle.pascal_read.specs.Piece.{Bad, name_at, number_at, character_at, code_at, symbol_at, piece_at}

-- the card's end is behind the text
abbrev pub ended : List ℕ → List ℕ → List ℕ
ended card later = card ++ 10 ∷ later

take_while-step : (p : ℕ → Bool) (x : ℕ) (xs ys : List ℕ) (passes : Bool) → p x ≡ passes → take_while p xs ≡ take_while p ys → take (cond passes (1 + prefix_len p xs) 0) (x ∷ xs) ≡ take (cond passes (1 + prefix_len p ys) 0) (x ∷ ys)
take_while-step p x xs ys true is same = grind (arith, common_steps)
take_while-step p x xs ys false is same = refl

-- characters of one kind stop at the card's end
pub take_while-ended : (p : ℕ → Bool) → p 10 ≡ false → (card later : List ℕ) → take_while p (ended card later) ≡ take_while p card
take_while-ended p stops [] later = rw stops refl
take_while-ended p stops (x ∷ xs) later = take_while-step p x (ended xs later) xs (p x) refl (take_while-ended p stops xs later)

pub name_at-ended : (card later : List ℕ) → name_at (ended card later) ≡ name_at card
name_at-ended card later = rw (take_while-ended is_letter_or_digit refl card later) refl

pub number_at-ended : (card later : List ℕ) → number_at (ended card later) ≡ number_at card
number_at-ended card later = rw (take_while-ended is_digit refl card later) refl

closes-ended : (card later : List ℕ) → starts_with nat_eq (ended card later) (codes ":)'") ≡ starts_with nat_eq card (codes ":)'")
closes-ended [] later = refl
closes-ended (a ∷ []) later = refl
closes-ended (a ∷ b ∷ []) later = refl
closes-ended (a ∷ b ∷ c ∷ others) later = refl

drop-ended : (n : ℕ) (card later : List ℕ) → n ≤ length card → drop n (ended card later) ≡ ended (drop n card) later
drop-ended n card later inside = grind (arith, common_steps)

pub code_at-ended : (card later : List ℕ) → code_at (ended card later) ≡ code_at card
code_at-ended card later =
    rw (take_while-ended is_digit refl card later, drop-ended (length (take_while is_digit card)) card later (length-take_while is_digit card), closes-ended (drop (length (take_while is_digit card)) card) later) refl

pub character_at-ended : (card later : List ℕ) → character_at (ended card later) ≡ character_at card
character_at-ended [] [] = refl
character_at-ended [] (x ∷ later) = elim (x == 39) as (λ quote. cond quote Bad Bad ≡ Bad) [ true ↦ refl | false ↦ refl ]
character_at-ended (code ∷ []) later = elim (code == 40) as (λ opens. cond (opens && false) (code_at later) Bad ≡ Bad) [ true ↦ refl | false ↦ refl ]
character_at-ended (code ∷ next ∷ card) later = rw (code_at-ended card later) refl

-- a letter begins a name
pub name_stands : (card later : List ℕ) → 0 < length card → is_letter (slice_index card 0) ≡ true → name_at card ≡ piece_at (ended card later)
name_stands [] later begun letter = absurd (omega arith)
name_stands (code ∷ card) later begun letter = sym (cond-true _ _ _ letter ∙ name_at-ended (code ∷ card) later)

-- a digit begins a number
pub number_stands : (card later : List ℕ) → 0 < length card → is_letter (slice_index card 0) ≡ false → is_digit (slice_index card 0) ≡ true → number_at card ≡ piece_at (ended card later)
number_stands [] later begun no_letter digit = absurd (omega arith)
number_stands (code ∷ card) later begun no_letter digit = sym (cond-false _ _ _ no_letter ∙ cond-true _ _ _ digit ∙ number_at-ended (code ∷ card) later)

-- a quote begins a character
pub character_stands : (card later : List ℕ) → 0 < length card → slice_index card 0 ≡ 39 → character_at (drop 1 card) ≡ piece_at (ended card later)
character_stands [] later begun quote = absurd (omega arith)
character_stands (code ∷ card) later begun quote = rw quote (sym (character_at-ended card later))

-- what begins nothing else is a symbol
pub record BeginsSymbol (code : ℕ) : Type 0 where
  pub no_letter : is_letter code ≡ false
  pub no_digit : is_digit code ≡ false
  pub no_quote : code ≢ 39
  pub no_comment : code ≢ 34
  pub no_blank : code ≢ 32
  pub no_end : code ≢ 10

pub symbol_stands : (card later : List ℕ) → 0 < length card → BeginsSymbol (slice_index card 0) → symbol_at (ended card later) ≡ piece_at (ended card later)
symbol_stands [] later begun begins = absurd (omega arith)
symbol_stands (code ∷ card) later begun begins = grind (arith, nat_tests, begins.no_letter, begins.no_digit)

-- the last character of a card is followed by the card's end
pub symbol_alone : (card later : List ℕ) → 1 ≤ length card → length card < 2 → symbol_at (slice_index card 0 ∷ 10 ∷ later) ≡ symbol_at (ended card later)
symbol_alone [] later some few = absurd (omega arith)
symbol_alone (code ∷ []) later some few = refl
symbol_alone (code ∷ next ∷ card) later some few = absurd (omega arith)

-- and any other by the next one
pub symbol_pair : (card later : List ℕ) → 2 ≤ length card → symbol_at (slice_index card 0 ∷ slice_index card 1 ∷ ended (drop 2 card) later) ≡ symbol_at (ended card later)
symbol_pair [] later some = absurd (omega arith)
symbol_pair (code ∷ []) later some = absurd (omega arith)
symbol_pair (code ∷ next ∷ card) later some = refl
