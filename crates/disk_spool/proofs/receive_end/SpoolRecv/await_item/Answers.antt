use Rattle.solo_base.specs.declared.outcome.Side.TheVariants.{Receiver}
use Rattle.disk_spool.proofs.Running.{ready-given}
use Rattle.disk_spool.proofs.receive_end.SpoolRecv.await_item.Goals as goal

pub returns-clause-ready : goal.returns-clause-ready
returns-clause-ready g c = ready-given Receiver c.self.inside.pass c.await_item.new.pass c.await_item.result c.await_item.ensures.call

pub returns-clause-answer : goal.returns-clause-answer
returns-clause-answer g c = rw (← c.gate.view_is, ← c.self.view_is) c.await_item.ensures.answer
