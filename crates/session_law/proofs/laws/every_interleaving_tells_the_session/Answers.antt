use Rattle.session_law.proofs.Told.{tells-so, openings-sound, stored-runs}
use Rattle.session_law.proofs.laws.every_interleaving_tells_the_session.Goals as goal

pub returns-clause-session : goal.returns-clause-session
returns-clause-session c = tells-so

pub returns-clause-stored : goal.returns-clause-stored
returns-clause-stored c = stored-runs

pub returns-clause-premise : goal.returns-clause-premise
returns-clause-premise c = openings-sound
