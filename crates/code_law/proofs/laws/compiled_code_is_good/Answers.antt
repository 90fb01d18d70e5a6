use Rattle.code_law.proofs.Lawful.{code_is_code, code_is_good}
use Rattle.code_law.proofs.laws.compiled_code_is_good.Goals as goal

pub returns : goal.returns
returns c = λ p is. (code_is_code p is, code_is_good p is)
