-- The text of cards, one card after the other.
use Rattle.std.proofs.Common.{◌≡◌, ℕ, zero, suc, ◌+◌, Some, List, [], ◌∷◌, ◌++◌, drop, sym, ◌∙◌, ap, subst, append_assoc, arith}
use Rattle.std.specs.Prelude.{slice_get}
use Rattle.solo_base.specs.Text.{line_text, text}

card_first : (cards : List (List ℕ)) (place : ℕ) (card : List ℕ) → slice_get cards place ≡ Some card
    → text (drop place cards) ≡ line_text card ++ text (drop (place + 1) cards)
card_first [] place card is = absurd cc
card_first (c ∷ cards) zero card is =
    let same : c ≡ card = cc in
    ap (λ l. line_text l ++ text cards) same
card_first (c ∷ cards) (suc place) card is =
    let next : suc (place + 1) ≡ suc place + 1 = omega arith in
    subst (λ n. text (drop place cards) ≡ line_text card ++ text (drop n (c ∷ cards))) next (card_first cards place card is)

-- what was read so far, with one card more
pub one_card_more : (cards : List (List ℕ)) (place : ℕ) (card old : List ℕ) → slice_get cards place ≡ Some card → old ++ text (drop place cards) ≡ text cards
    → ((old ++ card) ++ 10 ∷ []) ++ text (drop (place + 1) cards) ≡ text cards
one_card_more cards place card old is before =
    let rest = text (drop (place + 1) cards) in
    append_assoc (old ++ card) (10 ∷ []) rest ∙ append_assoc old card (10 ∷ rest)
    ∙ ap (λ l. old ++ l) (sym (append_assoc card (10 ∷ []) rest)) ∙ ap (λ l. old ++ l) (sym (card_first cards place card is)) ∙ before
