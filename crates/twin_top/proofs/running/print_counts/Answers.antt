use Rattle.std.proofs.Common.{sym, ap}
use Rattle.twin_top.proofs.Printed.{prints-so}
use Rattle.twin_top.proofs.running.print_counts.Goals as goal

pub returns : goal.returns
returns g c =
    let e = c.print-printed.ensures in
    prints-so (ap (λ unit. g.K.Sink.given unit.sink) c.new-unit.ensures) (ap (λ unit. g.K.Sink.faults unit.sink) c.new-unit.ensures)
    (ap g.K.Sink.given (sym c.into_inner.ensures)) (ap g.K.Sink.faults (sym c.into_inner.ensures)) c.counts_line.ensures c.cause_of.ensures.done
    c.cause_of.ensures.known c.cause_of.ensures.failed e.line e.failed e.counts
