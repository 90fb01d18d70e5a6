use Rattle.std.proofs.Common.{false, ◌++◌}
use Rattle.batch_program.specs.Outcome.{meaning_so_far}
use Rattle.batch_program.proofs.MoreCards.{lines_go_on}
use Rattle.batch_program.proofs.Source.{meaning_goes_on, meaning_ends}
use Rattle.batch_program.proofs.laws.meanings_go_on_with_more_cards.Goals as goal

pub returns-clause-goes_on : goal.returns-clause-goes_on
returns-clause-goes_on c = λ p limit cards more closed. meaning_goes_on p limit cards more closed

pub returns-clause-lines : goal.returns-clause-lines
returns-clause-lines c =
    λ p limit cards more closed.
    lines_go_on (meaning_so_far p limit cards false) (meaning_so_far p limit (cards ++ more) closed) (meaning_goes_on p limit cards more closed)

pub returns-clause-ending : goal.returns-clause-ending
returns-clause-ending c = λ p limit cards. meaning_ends p limit cards
