use Rattle.std.proofs.Common.{length}
use Rattle.code_tests.proofs.printed_lines.+take_by_card.Given as goal

abbrev pub decreases-take_by_card : goal.decreases-take_by_card
decreases-take_by_card l = length l.cards.now
