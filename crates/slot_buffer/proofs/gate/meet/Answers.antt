use Rattle.slot_buffer.proofs.Meeting.{meets}
use Rattle.slot_buffer.proofs.gate.meet.Goals as goal

pub returns : goal.returns
returns g c =
    let sender = c.into_pass-into in
    let receiver = c.into_pass in
    rw (← sender.ensures.gate.1, ← receiver.ensures.gate.1)
    (meets sender.result receiver.result c.join.new.into c.close-state.result c.into_rest.result c.stopped_by-stopped_by.result c.join.ensures sender.ensures.number receiver.ensures.number sender.ensures.outside.2
    c.close-state.ensures.tied c.into_rest.ensures c.stopped_by-stopped_by.ensures.marked)
