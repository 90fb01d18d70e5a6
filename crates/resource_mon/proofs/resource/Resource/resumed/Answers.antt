use Rattle.resource_mon.proofs.Queues.{queued-resumed, processes-resumed}
use Rattle.resource_mon.specs.History.{resumed-history}
use Rattle.resource_mon.proofs.resource.Resource.resumed.Goals as goal

pub invariant_of-self : goal.invariant_of-self
invariant_of-self g c =
    let before = rw c.in-Handed.is at c.self.invariant in
    rw c.resume_in.ensures (queued-resumed g.row.N c.self.inside.queues c.self.inside.order.waiting c.in-Handed.position c.self.inside.holder before c.self.told)

pub returns-in-Handed-clause-after : goal.returns-in-Handed-clause-after
returns-in-Handed-clause-after g c =
    let h = c.self.invariant.handed c.in-Handed.position c.in-Handed.is in
    rw (c.resume_in.ensures, ← c.self.view_is, processes-resumed c.self.inside.queues c.self.inside.order.waiting c.in-Handed.position h.1)

pub returns-in-Handed-clause-history : goal.returns-in-Handed-clause-history
returns-in-Handed-clause-history g c =
    resumed-history c.args.self.now _ (returns-in-Handed-clause-after g c)
