use Rattle.std.proofs.Common.{◌≡◌, None, Some, sym, ◌∙◌, subst}
use Rattle.solo_base.specs.Text.{line_text}
use Rattle.run_report.specs.Told.{sink_told}
use Rattle.solo_cli.specs.Printing.{PrintsBytes}
use Rattle.solo_cli.proofs.core_run.with_counts.Goals as goal

pub returns-in-Some-clause-prints : goal.returns-in-Some-clause-prints
returns-in-Some-clause-prints g c = λ none. absurd (let some : Some c.in-Some.cause ≡ None = sym c.in-Some.is ∙ none in cc)

pub returns-in-None-clause-prints : goal.returns-in-None-clause-prints
returns-in-None-clause-prints g c = λ none.
    subst (λ line. PrintsBytes (sink_told g.K.Sink c.args.paper) (sink_told g.K.Sink c.print_line.result.1) (line_text line) c.print_line.result.0)
    c.counts_line.ensures c.print_line.ensures
