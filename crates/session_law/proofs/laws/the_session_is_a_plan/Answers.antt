use Rattle.session_law.proofs.Fitting.{plans-fit}
use Rattle.session_law.proofs.Told.{needs-are}
use Rattle.session_law.proofs.laws.the_session_is_a_plan.Goals as goal

pub returns-clause-fits : goal.returns-clause-fits
returns-clause-fits c = plans-fit

pub returns-clause-needs : goal.returns-clause-needs
returns-clause-needs c = needs-are
