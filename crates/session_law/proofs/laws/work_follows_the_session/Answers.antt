use Rattle.session_law.proofs.Passing.{each-piece, behind-passed}
use Rattle.session_law.proofs.laws.work_follows_the_session.Goals as goal

pub returns-clause-each : goal.returns-clause-each
returns-clause-each c = each-piece

pub returns-clause-behind : goal.returns-clause-behind
returns-clause-behind c = behind-passed
