use Rattle.solo_run.proofs.GivenLines.{gives-line}
use Rattle.solo_run.proofs.lines.print.Goals as goal

pub returns : goal.returns
returns g c =
    gives-line g.K.Sink.given g.K.Sink.faults c.args.paper.now c.print.new.self c.args.line.now c.print.result c.answered.result c.answered.ensures
    c.print.ensures.line c.print.ensures.counts c.print.ensures.failed c.print.ensures.live
