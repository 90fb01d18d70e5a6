use Rattle.std.proofs.Common.{◌≡◌, length}
use Rattle.session_work.specs.Cards.{ReadsOn}
use Rattle.session_work.proofs.cards.read_cards.Given as goal

abbrev pub invariant-reading : goal.invariant-reading
invariant-reading l = ReadsOn l.initial.text.rest.now l.cards l.text.rest.now l.text.line

abbrev pub decreases-reading : goal.decreases-reading
decreases-reading l = length l.text.rest.now
