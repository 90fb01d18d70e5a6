use Rattle.batch_program.proofs.FewLines.{few-lines}
use Rattle.batch_program.proofs.laws.each_program_prints_few_lines.Goals as goal

pub returns : goal.returns
returns c = record { few = λ w outcome code good lines comes. few-lines w outcome code good lines comes }
