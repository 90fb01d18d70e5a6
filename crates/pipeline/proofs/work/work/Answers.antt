use Rattle.std.proofs.Common.{rules}
use Rattle.pipeline.proofs.Turns.{goes_begins}
use Rattle.pipeline.proofs.work.work.Goals as goal

pub loop-init : goal.loop-init
loop-init g c = let goes = goes_begins (g.S.Stage.gives c.args.stage) in search rules

pub loop-preserved : goal.loop-preserved
loop-preserved g c = let goes = c.turn.ensures.goes c.in_default.is (g.S.Stage.gives c.args.stage) c.loop.invariant.5 in search rules

pub returns-in-Some-turn-clause-worked : goal.returns-in-Some-turn-clause-worked
returns-in-Some-turn-clause-worked g c = c.in-Some-turn.ensures.worked (g.S.Stage.gives c.args.stage) c.loop.invariant.5
