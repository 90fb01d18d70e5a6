use Rattle.std.proofs.Common.{sym, ap}
use Rattle.solo_base.specs.Text.{line_text}
use Rattle.run_report.proofs.Adding.{gains-same}
use Rattle.solo_cli.proofs.times.show_counts.Goals as goal

pub returns-clause-line : goal.returns-clause-line
returns-clause-line g c =
    gains-same _ _ _ _ _ _ _ _ (ap (λ unit. g.T.Sink.given unit.sink) c.new-unit.ensures) (ap g.T.Sink.given (sym c.into_inner.ensures))
    (ap line_text c.counts_line.ensures) c.console_cause.ensures.done c.print-shown.ensures.line
