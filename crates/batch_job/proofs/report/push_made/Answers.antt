use Rattle.std.proofs.Common.{subst, ◌++◌, option_to_list}
use Rattle.program_lines.specs.Standing.{StandsFor}
use Rattle.batch_job.proofs.Account.{no-line}
use Rattle.batch_job.proofs.RunLines.{made-all}
use Rattle.batch_job.proofs.report.push_made.Goals as goal

pub returns-clause-made : goal.returns-clause-made
returns-clause-made c = λ t given s.
    let none = no-line c.next.result c.in_default.not-Some in
    made-all t given c.args.lines.now c.made.lines c.made.program c.next.new.self (c.made.invariant t given s)
    (λ u g at. subst (λ r. StandsFor c.next.new.self u (g ++ option_to_list r)) none (c.next.ensures.stands u g at)) (c.next.ensures.none none)
