use Rattle.solo_base.specs.Text.{text}
use Rattle.batch_program.proofs.Onward.{some_outcome}
use Rattle.batch_program.proofs.Courses.{one_outcome}
use Rattle.batch_program.proofs.laws.each_program_comes_to_one_thing.Goals as goal

pub returns-clause-some : goal.returns-clause-some
returns-clause-some c = λ w code good lines. some_outcome w code good lines

pub returns-clause-one : goal.returns-clause-one
returns-clause-one c = λ w outcome other first second. one_outcome w.code w.limit (text w.cards) w.closed outcome other first second
