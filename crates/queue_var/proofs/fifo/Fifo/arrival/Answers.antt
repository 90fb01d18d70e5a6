-- What the positions in use are, before and after one more.
use Rattle.std.proofs.Common.{rules}
use Rattle.queue_var.proofs.Places.{length-shown, behind, fresh, stands-arrival}
use Rattle.queue_var.proofs.fifo.Fifo.arrival.Goals as goal

pub overflow_add-self : goal.overflow_add-self
overflow_add-self g c = let room = rw (← c.self.view_is, length-shown) at c.requires in search rules

pub invariant_of-self : goal.invariant_of-self
invariant_of-self g c = let room = rw (← c.self.view_is, length-shown) at c.requires in search rules

pub returns-clause-behind : goal.returns-clause-behind
returns-clause-behind g c =
    rw (c.place_behind-position.ensures.place, ← c.self.view_is) (behind g.row.N c.self.inside.first c.self.inside.length)

pub returns-clause-history : goal.returns-clause-history
returns-clause-history g c =
    let room = rw (← c.self.view_is, length-shown) at c.requires in
    rw (← c.self.view_is) (λ before. stands-arrival g.row.N c.self.inside.first c.self.inside.length before c.self.invariant.0 room)

pub returns-clause-fresh : goal.returns-clause-fresh
returns-clause-fresh g c =
    let room = rw (← c.self.view_is, length-shown) at c.requires in
    rw (c.place_behind-position.ensures.place, ← c.self.view_is) (fresh g.row.N c.self.inside.first c.self.inside.length c.self.invariant.0 room)
