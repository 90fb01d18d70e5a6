use Rattle.pascal_read.proofs.ParseCompleteProgram.{each_is_read}
use Rattle.pascal_read.proofs.parse_law.each_tree_is_read.Goals as goal

pub returns : goal.returns
returns c = each_is_read
