use Rattle.solo_run.proofs.GivenLines.{gives-line}
use Rattle.solo_run.proofs.lines.display.Goals as goal

pub returns-clause-line : goal.returns-clause-line
returns-clause-line g c =
    gives-line g.T.Sink.given g.T.Sink.faults c.args.typewriter.now.console c.display.new.self.console c.args.line.now c.display.result c.answered.result
    c.answered.ensures c.display.ensures.line c.display.ensures.counts c.display.ensures.failed c.display.ensures.live
