use Rattle.std.proofs.Common.{subst, ◌++◌, option_to_list}
use Rattle.program_lines.specs.Standing.{StandsFor}
use Rattle.batch_job.specs.Places.{IsPart}
use Rattle.batch_job.proofs.Account.{input-goes, input-rests}
use Rattle.batch_job.proofs.part.Part.next.Goals as goal

pub returns-in-Input-clause-gives : goal.returns-in-Input-clause-gives
returns-in-Input-clause-gives c = λ place is.
    input-goes c.in-Input.name c.in-Input.number c.in-Input.lines c.next.new.self place c.next.result (subst (λ p. IsPart p place) c.in-Input.is is)
    c.next.ensures.stands

pub returns-in-Input-clause-rests : goal.returns-in-Input-clause-rests
returns-in-Input-clause-rests c = λ none place is.
    input-rests c.in-Input.name c.in-Input.number c.in-Input.lines c.next.new.self place (subst (λ p. IsPart p place) c.in-Input.is is)
    (λ t given s. subst (λ r. StandsFor c.next.new.self t (given ++ option_to_list r)) none (c.next.ensures.stands t given s)) (c.next.ensures.none none)
