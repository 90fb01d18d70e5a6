use Rattle.std.proofs.Common.{refl}
use Rattle.pascal_tree.specs.DeclarationRules.{broken}
use Rattle.pascal_check.proofs.laws.a_program_is_its_nodes.Goals as goal

pub returns : goal.returns
unfolding broken
returns c = λ p. refl
