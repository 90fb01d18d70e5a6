use Rattle.std.proofs.Common.{sym, ap}
use Rattle.solo_cli.proofs.Printings.{prints-as}
use Rattle.solo_cli.proofs.printing.print_line.Goals as goal

pub returns : goal.returns
returns g c =
    let e = c.print-printed.ensures in
    prints-as (ap (λ unit. g.K.Sink.given unit.sink) c.new-unit.ensures) (ap (λ unit. g.K.Sink.faults unit.sink) c.new-unit.ensures)
    (ap g.K.Sink.given (sym c.into_inner.ensures)) (ap g.K.Sink.faults (sym c.into_inner.ensures)) c.refusal_of.ensures.done c.refusal_of.ensures.known
    c.refusal_of.ensures.failed e.line e.failed e.counts
