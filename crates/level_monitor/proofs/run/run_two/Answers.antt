use Rattle.std.proofs.Common.{◌∙◌}
use Rattle.monitor_gate.specs.Ends.{joined}
use Rattle.level_monitor.proofs.Runs.{level_of_two}
use Rattle.level_monitor.proofs.run.run_two.Goals as goal

pub returns : goal.returns
returns g c =
    let ran = c.side_by_side-first.ensures in
    level_of_two c.in-Ok.made.0.opening c.close.result c.new.result c.in-Ok.made.0.name c.args.times c.in-Ok.ensures.gate.0 c.new.ensures.level _ _ c.last_two-first.result.0 c.last_two-first.result.1 c.join.new.into
    c.in-Ok.ensures.dealt c.last_two-first.ensures (c.join.ensures ∙ (λ i. joined (ran.0 i) (ran.1 i))) c.close.ensures.tied
