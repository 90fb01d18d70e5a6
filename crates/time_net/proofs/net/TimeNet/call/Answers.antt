use Rattle.std.proofs.Common.{true, subst}
use Rattle.network_run.specs.Law.{Steps}
use Rattle.real_time.specs.TimesLaw.{timing}
use Rattle.time_net.specs.TimeStands.{TimesMoves, TimesStand, tellers}
use Rattle.time_net.proofs.NetSteps.{called-steps, delayed-steps}
use Rattle.time_net.proofs.net.TimeNet.call.Goals as goal

pub returns-in-Delayed : goal.returns-in-Delayed
returns-in-Delayed g c =
    let tells = tellers g.Y.Source.left g.Y.Source.taken g.Y.Source.faults g.T.Sink.given g.T.Sink.faults in λ at asks may.
    subst (λ how. Steps timing (TimesStand tells) (TimesMoves tells) c.args.self.now
    (record c.args.self.now { table = c.call_table.new.table; waits = true }) at.state 1 how) c.in-Delayed.is
    (delayed-steps tells c.args.self.now at.opening at.state at.reached at.stands c.args.call c.call_table.result c.call_table.new.table asks may
    c.call_table.ensures.how c.call_table.ensures.table c.in-Delayed.is)

pub returns-in_default : goal.returns-in_default
returns-in_default g c = λ at asks may.
    called-steps _ c.args.self.now at.opening at.state at.reached at.stands c.args.call c.call_table.result c.call_table.new.table c.go_on.new.self asks may
    c.call_table.ensures.how c.call_table.ensures.table c.in_default.not-Delayed (c.go_on.ensures at.state at.stands.is.operator)
