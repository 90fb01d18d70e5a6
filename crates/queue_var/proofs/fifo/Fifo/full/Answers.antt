use Rattle.std.proofs.Common.{arith, rules}
use Rattle.queue_var.proofs.Places.{length-shown}
use Rattle.queue_var.proofs.fifo.Fifo.full.Goals as goal

pub returns-clause-full : goal.returns-clause-full
returns-clause-full g c = rw (← c.self.view_is, length-shown) (search rules)

pub returns-clause-within : goal.returns-clause-within
returns-clause-within g c = rw (← c.self.view_is, length-shown) (omega arith)
