use Rattle.time_net.proofs.NetSteps.{ended-steps}
use Rattle.time_net.proofs.net.TimeNet.end.Goals as goal

pub returns : goal.returns
returns g c = λ at place is.
    ended-steps _ c.args.self.now at.opening at.state at.reached at.stands place c.go_on.new.self is (c.go_on.ensures at.state at.stands.is.operator)
