use Rattle.program_lines.proofs.FewLines.{few-lines, few-of-code}
use Rattle.program_lines.proofs.laws.each_program_has_few_lines.Goals as goal

pub returns-clause-compiled : goal.returns-clause-compiled
returns-clause-compiled c = few-lines

pub returns-clause-code : goal.returns-clause-code
returns-clause-code c = few-of-code
