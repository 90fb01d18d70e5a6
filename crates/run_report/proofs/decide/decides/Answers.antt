use Rattle.std.proofs.Common.{sym, ◌∙◌}
use Rattle.run_report.proofs.Lowest.{among, least, no-fault}
use Rattle.run_report.proofs.decide.decides.Goals as goal

pub returns-clause-fault : goal.returns-clause-fault
returns-clause-fault c = λ why is. among c.args.outcomes.now why (sym c.lowest_of.ensures ∙ is)

pub returns-clause-least : goal.returns-clause-least
returns-clause-least c = λ why is. least c.args.outcomes.now why (sym c.lowest_of.ensures ∙ is)

pub returns-clause-none : goal.returns-clause-none
returns-clause-none c = λ is. no-fault c.args.outcomes.now (sym c.lowest_of.ensures ∙ is)
