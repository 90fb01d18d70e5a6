-- What pushes of lines give: the pages that go out, and the page that is then in hand.
use Rattle.std.specs.Prelude.{◌≡◌, ℕ, List, [], ◌∷◌, ◌++◌, Option, Some, None, option_to_list}
use Rattle.solo_base.specs.declared.item.Item.TheVariants.{Line}
use Rattle.solo_base.specs.declared.page.Page.{Page}
use Rattle.page_codec.specs.Packing.{PageInHand, page_given, hand_after}

-- the pages that the pushes give
abbrev pub pages_given : PageInHand → List (List ℕ) → List Page
pages_given hand [] = []
pages_given hand (line ∷ lines) =
    option_to_list (page_given hand (Line line)) ++ pages_given (hand_after hand (Line line)) lines

-- the page in hand behind these lines
abbrev pub hand_behind : PageInHand → List (List ℕ) → PageInHand
hand_behind hand [] = hand
hand_behind hand (line ∷ lines) = hand_behind (hand_after hand (Line line)) lines

-- The last push, and no other, gives a page.
abbrev pub IsGivenLast : PageInHand → List (List ℕ) → Type 0
IsGivenLast hand [] = ⊥
IsGivenLast hand (line ∷ []) = (page_given hand (Line line) ≡ None) → ⊥
IsGivenLast hand (line ∷ next ∷ lines) =
    (page_given hand (Line line) ≡ None) × IsGivenLast (hand_after hand (Line line)) (next ∷ lines)

-- These lines were pushed, in order: either none gave a page, or the last alone.
abbrev pub PushesUpTo : PageInHand → List (List ℕ) → Option Page → Type 0
PushesUpTo hand lines None = pages_given hand lines ≡ []
PushesUpTo hand lines (Some page) = (pages_given hand lines ≡ page ∷ []) × IsGivenLast hand lines
