use Rattle.program_lines.proofs.Going.{more-cards, all-cards}
use Rattle.program_lines.proofs.laws.lines_go_on_with_more_cards.Goals as goal

pub returns-clause-goes_on : goal.returns-clause-goes_on
returns-clause-goes_on c = more-cards

pub returns-clause-all : goal.returns-clause-all
returns-clause-all c = all-cards
