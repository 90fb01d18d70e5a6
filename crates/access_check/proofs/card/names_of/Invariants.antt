use Rattle.std.proofs.Common.{length, ◌≡◌}
use Rattle.solo_base.specs.Words.{words}
use Rattle.access_check.specs.Cards.{names_of}
use Rattle.access_check.proofs.Naming.{behind_names}
use Rattle.access_check.proofs.card.names_of.Given as goal

abbrev pub invariant-loop-word : goal.invariant-loop-word
invariant-loop-word l = names_of (words l.text) ≡ behind_names l.names (names_of (words l.rest))

abbrev pub decreases-loop-word : goal.decreases-loop-word
decreases-loop-word l = length l.rest
