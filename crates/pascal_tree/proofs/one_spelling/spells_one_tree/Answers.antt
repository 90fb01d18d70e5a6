use Rattle.pascal_tree.proofs.UniqueProgram.{unique_program}
use Rattle.pascal_tree.proofs.one_spelling.spells_one_tree.Goals as goal

pub returns : goal.returns
returns c = unique_program
