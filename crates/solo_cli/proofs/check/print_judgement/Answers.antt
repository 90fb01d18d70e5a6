use Rattle.std.proofs.Common.{◌∙◌, ap, subst}
use Rattle.solo_base.specs.Text.{line_text}
use Rattle.access_check.specs.Judgement.{judge}
use Rattle.solo_cli.specs.AccessLines.{judgement_line}
use Rattle.run_report.specs.Told.{sink_told}
use Rattle.solo_cli.specs.Printing.{PrintsBytes}
use Rattle.solo_cli.proofs.check.print_judgement.Goals as goal

pub returns-in-Some-clause-judged : goal.returns-in-Some-clause-judged
returns-in-Some-clause-judged g c =
    rw c.in-Ok.is
    (subst (λ line. PrintsBytes (sink_told g.K.Sink c.args.paper) (sink_told g.K.Sink c.print_line.result.1) (line_text line) c.print_line.result.0)
    (c.in-Some.ensures.line ∙ ap judgement_line (c.check.ensures.judged c.in-Some.ensures.told)
    ∙ ap (λ items. judgement_line (judge items)) c.as_slice.ensures.value) c.print_line.ensures)
