use Rattle.code_law.proofs.SuitedPrograms.{suited}
use Rattle.code_law.proofs.laws.a_program_that_breaks_no_rule_suits_its_code.Goals as goal

pub returns : goal.returns
returns c = λ p tree none. suited p tree.words none
