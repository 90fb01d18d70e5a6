use Rattle.solo_base.specs.declared.outcome.Side.TheVariants.{Sender}
use Rattle.disk_spool.proofs.Running.{ready-given}
use Rattle.disk_spool.proofs.send_end.SpoolSend.await_room.Goals as goal

pub returns-clause-ready : goal.returns-clause-ready
returns-clause-ready g c = ready-given Sender c.self.inside.pass c.await_room.new.pass c.await_room.result c.await_room.ensures.call

pub returns-clause-answer : goal.returns-clause-answer
returns-clause-answer g c = rw (← c.gate.view_is, ← c.self.view_is) c.await_room.ensures.answer
