use Rattle.time_net.proofs.Typing.{read-bad, read-blank}
use Rattle.time_net.proofs.operator.Operator.obey.Goals as goal

pub returns-in-Blank : goal.returns-in-Blank
returns-in-Blank c = λ s ready. record { does = read-blank s c.args.line.now _ _ _ c.in-Blank.is ready; fault_is = ready.well }

pub returns-in-Bad : goal.returns-in-Bad
returns-in-Bad c = λ s ready. record { does = read-bad s c.args.line.now _ _ _ c.in-Bad.is ready; fault_is = ready.well }
