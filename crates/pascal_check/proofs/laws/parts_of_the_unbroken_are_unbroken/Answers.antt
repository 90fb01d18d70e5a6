use Rattle.pascal_check.proofs.Unbroken.{before, behind}
use Rattle.pascal_check.proofs.laws.parts_of_the_unbroken_are_unbroken.Goals as goal

pub returns : goal.returns
returns c = record { before = before; behind = behind }
