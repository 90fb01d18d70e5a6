use Rattle.std.proofs.Common.{◌≡◌, ◌++◌, take}
use Rattle.solo_base.specs.Text.{text}
use Rattle.made_deck.proofs.deck.put_all.Given as goal

abbrev pub invariant-loop-place : goal.invariant-loop-place
invariant-loop-place l = l.deck.items ≡ l.fn.deck.items ++ text (take l.place l.fn.cards)
