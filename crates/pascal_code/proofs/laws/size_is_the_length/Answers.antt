use Rattle.pascal_code.proofs.SizesOfPrograms.{program_sized}
use Rattle.pascal_code.proofs.laws.size_is_the_length.Goals as goal

pub returns : goal.returns
returns c = program_sized
