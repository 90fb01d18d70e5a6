use Rattle.time_net.proofs.NetSteps.{read-steps}
use Rattle.time_net.proofs.Operating.{is-ready}
use Rattle.time_net.proofs.net.TimeNet.read.Goals as goal

pub returns : goal.returns
returns g c = λ at reads.
    let ready = is-ready c.args.self.now.operator at.state.stage at.state.script at.state.fault at.stands.is.operator reads in
    read-steps _ c.args.self.now at.opening at.state at.reached at.stands c.accept-answer.new.self c.read.new.self c.accept-answer.result reads ready.1
    c.accept-answer.ensures.next record {
      failed = c.accept-answer.ensures.failed;
      counts = c.accept-answer.ensures.counts;
      limit = c.accept-answer.ensures.limit;
      live = c.accept-answer.ensures.live;
      total = c.accept-answer.ensures.total;
      falls = c.accept-answer.ensures.falls;
      console = c.accept-answer.ensures.console;
      all_taken = c.accept-answer.ensures.all_taken;
    } (c.read.ensures at.state at.stands.is.operator reads)
