use Rattle.pascal_check.proofs.Unbroken.{expr_typed}
use Rattle.pascal_check.proofs.laws.expressions_have_types.Goals as goal

pub returns : goal.returns
returns c = expr_typed
