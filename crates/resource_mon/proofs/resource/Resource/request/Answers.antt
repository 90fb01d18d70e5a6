-- The position of who waits was unused, since the turn is free and no two that wait have one position.
use Rattle.std.proofs.Common.{rules, ◌<◌, length, Some, lit<}
use Rattle.resource_mon.specs.declared.grant.Grant.TheVariants.{Got, Wait}
use Rattle.resource_mon.proofs.Queues.{none_of, free_turn, empty_at, queued-delayed, processes-delayed, length-processes, handed-delayed}
use Rattle.resource_mon.specs.History.{request-history}
use Rattle.resource_mon.proofs.resource.Resource.request.Goals as goal

pub returns-then-is_none-clause-history : goal.returns-then-is_none-clause-history
returns-then-is_none-clause-history g c =
    request-history c.args.self.now _ c.args.p Got c.requires.admitted c.requires.no_claim (search rules) (search rules)

pub arrival-position-requires : goal.arrival-position-requires
arrival-position-requires g c =
    let room = rw (← c.self.view_is) at c.requires.room in
    (lit< tt, rw (← length-processes g.row.N c.self.inside.queues c.self.inside.order.waiting c.self.invariant.in_use) room)

pub delay_in-requires-clause-empty : goal.delay_in-requires-clause-empty
delay_in-requires-clause-empty g c =
    let may = rw (← c.self.view_is) at c.requires.admitted in
    let claim = rw (← c.self.view_is) at c.requires.no_claim in
    empty_at g.row.N c.self.inside.queues c.self.inside.order.waiting c.self.inside.turn c.self.inside.holder c.arrival-position.result c.self.invariant
    (free_turn g.row.N c.self.inside.queues c.self.inside.order.waiting c.self.inside.turn c.self.inside.holder c.args.p c.self.invariant may claim)
    c.arrival-position.ensures.below (none_of c.self.inside.order.waiting c.arrival-position.result c.arrival-position.ensures.fresh)

pub invariant_of-self-2 : goal.invariant_of-self-2
invariant_of-self-2 g c =
    let may = rw (← c.self.view_is) at c.requires.admitted in
    let claim = rw (← c.self.view_is) at c.requires.no_claim in
    rw (c.delay_in.ensures, c.arrival-position.ensures.behind)
    (queued-delayed g.row.N c.self.inside.queues c.self.inside.order.waiting c.self.inside.turn c.self.inside.holder c.arrival-position.result c.args.p c.self.invariant
    (free_turn g.row.N c.self.inside.queues c.self.inside.order.waiting c.self.inside.turn c.self.inside.holder c.args.p c.self.invariant may claim)
    c.self.told c.arrival-position.ensures.below (none_of c.self.inside.order.waiting c.arrival-position.result c.arrival-position.ensures.fresh))

pub returns-clause-after : goal.returns-clause-after
returns-clause-after g c =
    let may = rw (← c.self.view_is) at c.requires.admitted in
    let claim = rw (← c.self.view_is) at c.requires.no_claim in
    let free = free_turn g.row.N c.self.inside.queues c.self.inside.order.waiting c.self.inside.turn c.self.inside.holder c.args.p c.self.invariant may claim in
    let none = none_of c.self.inside.order.waiting c.arrival-position.result c.arrival-position.ensures.fresh in
    let inside : c.arrival-position.result < length c.self.inside.queues = rw c.self.told c.arrival-position.ensures.below in
    rw (
      c.delay_in.ensures,
      c.arrival-position.ensures.behind,
      ← c.self.view_is,
      processes-delayed c.self.inside.queues c.self.inside.order.waiting c.arrival-position.result c.args.p inside none,
      handed-delayed c.self.inside.queues c.self.inside.turn c.arrival-position.result (Some c.args.p) free,
    )

pub returns-clause-history : goal.returns-clause-history
returns-clause-history g c =
    request-history c.args.self.now _ c.args.p Wait c.requires.admitted c.requires.no_claim (search rules) (returns-clause-after g c)
