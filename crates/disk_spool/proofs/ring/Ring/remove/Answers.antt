use Rattle.disk_spool.proofs.RingSteps.{mark_first, page_removed, has_some}
use Rattle.disk_spool.proofs.ring.Ring.remove.Goals as goal

pub returns-clause-mark : goal.returns-clause-mark
returns-clause-mark c =
    let ring = c.self.inside in
    rw c.behind-self-inside.ensures.place
    (mark_first ring.capacity ring.first ring.held ring.marks c.self.invariant.0 c.args.self.now c.self.view_is c.self.invariant.1
    (has_some ring.capacity ring.first ring.held ring.marks c.args.self.now c.self.view_is c.requires))

pub returns-clause-after : goal.returns-clause-after
returns-clause-after c =
    let ring = c.self.inside in
    rw c.behind-self-inside.ensures.place
    (page_removed ring.capacity ring.first ring.held ring.marks c.self.invariant.0 c.args.self.now c.self.view_is c.self.invariant.1
    (has_some ring.capacity ring.first ring.held ring.marks c.args.self.now c.self.view_is c.requires))
