use Rattle.solo_procs.specs.Commands.{given_of}
use Rattle.solo_net_tests.proofs.Fit.{comes}
use Rattle.solo_net_tests.proofs.deeds.DeedsCommands.work.Goals as goal

pub returns-in-Ok-clause-comes : goal.returns-in-Ok-clause-comes
returns-in-Ok-clause-comes c = λ pages has. comes c.go_on.new.self.paper (given_of c.args.given) pages c.in-Ok.need (c.in-Ok.ensures pages has)
