use Rattle.std.proofs.Common.{◌≡◌, ◌++◌, ◌∷◌, codes}
use Rattle.std.specs.Fmt.{decimal}
use Rattle.made_deck.specs.MadeDeck.{numbered_cards}
use Rattle.made_deck.proofs.deck.list.Given as goal

abbrev pub invariant-loop-i : goal.invariant-loop-i
invariant-loop-i l = l.cards ≡ (codes "#LIST L" ++ decimal l.fn.k) ∷ numbered_cards l.i
