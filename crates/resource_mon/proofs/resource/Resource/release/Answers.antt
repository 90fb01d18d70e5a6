use Rattle.std.proofs.Common.{rules, None}
use Rattle.resource_mon.proofs.Queues.{none_of, turn_is_free, queued-departed, first_at, processes-departed}
use Rattle.resource_mon.specs.History.{release-history}
use Rattle.resource_mon.proofs.resource.Resource.release.Goals as goal

pub returns-then-empty-clause-history : goal.returns-then-empty-clause-history
returns-then-empty-clause-history g c = release-history c.args.self.now _ None (search rules) (search rules)

pub invariant_of-self-2 : goal.invariant_of-self-2
invariant_of-self-2 g c =
    let free = turn_is_free g.row.N c.self.inside.queues c.self.inside.order.waiting c.self.inside.turn c.self.inside.holder c.self.invariant (rw (← c.self.view_is) at c.requires.free) in
    let before = rw c.departure-position.ensures.earliest at c.self.invariant in
    rw c.process_in-next.ensures (queued-departed g.row.N c.self.inside.queues c.departure-position.result c.departure-position.new.self.waiting c.self.inside.turn c.self.inside.holder before free
    (none_of c.departure-position.new.self.waiting c.departure-position.result c.departure-position.ensures.alone))

pub returns-clause-answer : goal.returns-clause-answer
returns-clause-answer g c =
    let first = first_at g.row.N c.self.inside.queues c.self.inside.order.waiting c.self.inside.turn c.self.inside.holder c.departure-position.result c.departure-position.new.self.waiting c.self.invariant c.departure-position.ensures.earliest in
    rw (c.process_in-next.ensures, ← c.self.view_is, c.departure-position.ensures.earliest, processes-departed c.self.inside.queues c.departure-position.result first.0 c.departure-position.new.self.waiting first.1) first.1

pub returns-clause-after : goal.returns-clause-after
returns-clause-after g c =
    let first = first_at g.row.N c.self.inside.queues c.self.inside.order.waiting c.self.inside.turn c.self.inside.holder c.departure-position.result c.departure-position.new.self.waiting c.self.invariant c.departure-position.ensures.earliest in
    rw (c.process_in-next.ensures, ← c.self.view_is, c.departure-position.ensures.earliest, processes-departed c.self.inside.queues c.departure-position.result first.0 c.departure-position.new.self.waiting first.1, first.1)

pub returns-clause-history : goal.returns-clause-history
returns-clause-history g c =
    release-history c.args.self.now _ c.process_in-next.result (returns-clause-answer g c) (returns-clause-after g c)
