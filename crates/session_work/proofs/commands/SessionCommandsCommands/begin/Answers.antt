use Rattle.session_work.proofs.Face.{at-rest, awaits-line, opening-plans, opening-follows, opening-passes}
use Rattle.session_work.proofs.commands.SessionCommandsCommands.begin.Goals as goal

pub returns-clause-awaits : goal.returns-clause-awaits
returns-clause-awaits g c = awaits-line c.new.result c.new.ensures.idle c.new.ensures.paper

pub returns-clause-plans : goal.returns-clause-plans
returns-clause-plans g c = λ files plan opens.
    opening-plans c.new.result (g.A.Area.pages files.area) plan (at-rest c.new.result c.new.ensures.idle c.new.ensures.paper) opens

pub returns-clause-follows : goal.returns-clause-follows
returns-clause-follows g c = λ files.
    opening-follows c.new.result (g.A.Area.pages files.area) (at-rest c.new.result c.new.ensures.idle c.new.ensures.paper)

pub returns-clause-passes : goal.returns-clause-passes
returns-clause-passes g c = λ files. opening-passes (g.A.Area.pages files.area)
