use Rattle.std.proofs.Common.{◌∙◌, sym, ap}
use Rattle.std.specs.Prelude.{slice_get}
use Rattle.twin_procs.specs.Machine.{closing_with, stops_of}
use Rattle.twin_procs.proofs.Machines.{next-stop, next-end, none-is}
use Rattle.twin_procs.proofs.machine.TwinMachine.close.Goals as goal

pub returns-in-Some : goal.returns-in-Some
returns-in-Some g c = λ h st is.
    next-stop st (closing_with g.P.TwinProc.process c.args.self.now.cause) is c.in-Some.buffer (sym c.holds_disk.ensures ∙ c.if-holds_disk.false)
    (ap (λ done. slice_get (stops_of g.P.TwinProc.process done) c.args.self.now.stops) (none-is _ c.is_none.result c.is_none.ensures) ∙ sym c.stop.ensures
    ∙ c.in-Some.is)

pub returns-in-None : goal.returns-in-None
returns-in-None g c = λ h st is.
    rw c.outcome.ensures.is (next-end st (closing_with g.P.TwinProc.process c.args.self.now.cause) is (sym c.holds_disk.ensures ∙ c.if-holds_disk.false)
    (ap (λ done. slice_get (stops_of g.P.TwinProc.process done) c.args.self.now.stops) (none-is _ c.is_none.result c.is_none.ensures) ∙ sym c.stop.ensures
    ∙ c.in-None.is))
