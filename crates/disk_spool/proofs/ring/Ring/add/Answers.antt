use Rattle.std.proofs.Common.{arith}
use Rattle.disk_spool.proofs.RingSteps.{page_added, has_room}
use Rattle.disk_spool.proofs.ring.Ring.add.Goals as goal

pub returns : goal.returns
returns c =
    let ring = c.self.inside in
    rw c.behind-place.ensures.place
    (page_added ring.capacity ring.first ring.held ring.marks c.self.invariant.0 c.args.mark c.args.self.now c.self.view_is
    (has_room ring.capacity ring.first ring.held ring.marks c.args.self.now c.self.view_is c.requires) (omega (arith, c.self.told, c.self.invariant.2)))
