use Rattle.std.proofs.Common.{◌∙◌}
use Rattle.monitor_gate.specs.Ends.{joined}
use Rattle.readers_writers.proofs.Runs.{out_of_four}
use Rattle.readers_writers.proofs.run.run_four.Goals as goal

pub returns : goal.returns
returns g c =
    let ran = c.four_at_once-first.ensures in
    let two = c.join.ensures ∙ (λ i. joined (ran.0 i) (ran.1 i)) in
    let three = c.join-2.ensures ∙ (λ i. joined (two i) (ran.2 i)) in
    out_of_four c.close.result _ c.in-Ok.made.0.name c.args.times _ _ _ c.last_two-first.result.0 c.last_two-first.result.1
    c.last_two-third.result.0 c.last_two-third.result.1 c.join-3.new.into c.in-Ok.ensures.dealt c.last_two-third.ensures c.last_two-first.ensures (c.join-3.ensures ∙ (λ i. joined (three i) (ran.3 i))) c.close.ensures.tied
