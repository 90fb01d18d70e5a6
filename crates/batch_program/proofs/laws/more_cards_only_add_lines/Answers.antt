use Rattle.batch_program.proofs.MoreCards.{more_cards, more_lines, given_first}
use Rattle.batch_program.proofs.laws.more_cards_only_add_lines.Goals as goal

pub returns-clause-goes_on : goal.returns-clause-goes_on
returns-clause-goes_on c = λ w more closed outcome later is_open first second. more_cards w more closed outcome later is_open first second

pub returns-clause-lines : goal.returns-clause-lines
returns-clause-lines c = λ w more closed outcome later is_open first second. more_lines w more closed outcome later is_open first second

pub returns-clause-given : goal.returns-clause-given
returns-clause-given c = λ p w given outcome at comes. given_first p w given outcome at comes
