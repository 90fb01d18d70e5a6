use Rattle.std.proofs.Common.{ap, sym}
use Rattle.disk_spool.specs.Spool.{Spool}
use Rattle.disk_spool.proofs.Meeting.{meets, meets-room}
use Rattle.disk_spool.proofs.gate.meet.Goals as goal

pub returns-clause-meets : goal.returns-clause-meets
returns-clause-meets g c =
    let sender = c.into_pass-into in
    let receiver = c.into_pass in
    rw (← sender.ensures.gate.1, ← receiver.ensures.gate.1, c.into_inner.ensures, ← c.gate.view_is)
    (meets g.A.Area.pages g.A.Area.faults _ _ sender.result receiver.result c.join.new.into c.close-spool.result c.left-left.result c.stopped_by-stopped_by.result c.join.ensures sender.ensures.number receiver.ensures.number sender.ensures.outside.2
    c.close-spool.ensures.tied c.left-left.ensures c.stopped_by-stopped_by.ensures.marked)

pub returns-clause-rooms : goal.returns-clause-rooms
returns-clause-rooms g c =
    let sender = c.into_pass-into in
    let receiver = c.into_pass in
    let size = ap (λ (o : Spool _). o.ring.capacity) c.gate.invariant.0 in
    rw (← sender.ensures.gate.1, ← receiver.ensures.gate.1, ← c.gate.view_is, sym size)
    (meets-room g.A.Area.pages g.A.Area.faults _ _ sender.result receiver.result c.join.new.into c.close-spool.result c.left-left.result c.join.ensures sender.ensures.number receiver.ensures.number sender.ensures.outside.2
    c.close-spool.ensures.tied c.left-left.ensures)
