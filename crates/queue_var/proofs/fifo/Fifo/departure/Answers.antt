-- What the positions in use are, before and after the first has gone.
use Rattle.queue_var.proofs.Places.{not_empty, earliest, next-kept, alone, stands-departure}
use Rattle.queue_var.proofs.fifo.Fifo.departure.Goals as goal

pub returns-clause-earliest : goal.returns-clause-earliest
returns-clause-earliest g c =
    let some = not_empty g.row.N c.self.inside.first c.self.inside.length (rw (← c.self.view_is) at c.requires) in
    rw (c.place_behind-next.ensures.place, ← c.self.view_is) (earliest g.row.N c.self.inside.first c.self.inside.length c.self.invariant.0 some c.self.invariant.1)

pub returns-clause-next : goal.returns-clause-next
returns-clause-next g c =
    let some = not_empty g.row.N c.self.inside.first c.self.inside.length (rw (← c.self.view_is) at c.requires) in
    rw (c.place_behind-next.ensures.place, ← c.self.view_is) (next-kept g.row.N c.self.inside.first c.self.inside.length c.self.invariant.0 some c.self.invariant.1)

pub returns-clause-history : goal.returns-clause-history
returns-clause-history g c =
    let some = not_empty g.row.N c.self.inside.first c.self.inside.length (rw (← c.self.view_is) at c.requires) in
    rw (c.place_behind-next.ensures.place, ← c.self.view_is) (λ before. stands-departure g.row.N c.self.inside.first c.self.inside.length before c.self.invariant.0 some c.self.invariant.1)

pub returns-clause-alone : goal.returns-clause-alone
returns-clause-alone g c =
    let some = not_empty g.row.N c.self.inside.first c.self.inside.length (rw (← c.self.view_is) at c.requires) in
    rw (c.place_behind-next.ensures.place) (alone g.row.N c.self.inside.first c.self.inside.length c.self.invariant.0 some c.self.invariant.1)
