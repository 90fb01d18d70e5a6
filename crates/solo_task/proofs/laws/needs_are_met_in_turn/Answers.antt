use Rattle.solo_task.proofs.NeedsMet.{needs-print, needs-display, comes-each, changes-each, leaves-last}
use Rattle.solo_task.proofs.laws.needs_are_met_in_turn.Goals as goal

pub returns-clause-print : goal.returns-clause-print
returns-clause-print c = needs-print

pub returns-clause-display : goal.returns-clause-display
returns-clause-display c = needs-display

pub returns-clause-each : goal.returns-clause-each
returns-clause-each c = comes-each

pub returns-clause-maps : goal.returns-clause-maps
returns-clause-maps c = changes-each

pub returns-clause-files : goal.returns-clause-files
returns-clause-files c = leaves-last
