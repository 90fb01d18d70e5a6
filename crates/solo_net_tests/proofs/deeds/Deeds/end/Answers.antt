use Rattle.solo_net_tests.proofs.Fit.{ended}
use Rattle.solo_net_tests.proofs.deeds.Deeds.end.Goals as goal

pub returns-in-Ok : goal.returns-in-Ok
returns-in-Ok c =
    ended c.args.self.now.paper c.replace-paper.new.dest c.last.result c.push.new.self
    (λ pages hand is. c.last.ensures pages hand (rw c.replace-paper.ensures.value is)) (rw c.replace-paper.ensures.after c.new.ensures)
