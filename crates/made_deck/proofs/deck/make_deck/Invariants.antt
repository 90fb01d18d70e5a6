use Rattle.std.proofs.Common.{◌≡◌}
use Rattle.solo_base.specs.Text.{text}
use Rattle.made_deck.specs.MadeDeck.{jobs_to}
use Rattle.made_deck.proofs.deck.make_deck.Given as goal

abbrev pub invariant-loop-k : goal.invariant-loop-k
invariant-loop-k l = l.deck.items ≡ text (jobs_to l.k)
