use Rattle.readers_writers.proofs.Runs.{began, one_more}
use Rattle.readers_writers.proofs.run.use_often.Goals as goal

pub end-requires-clause-began : goal.end-requires-clause-began
end-requires-clause-began g c κs within = began c.args.pass c.loop.pass c.loop.counter _ c.loop.invariant c.begin.ensures

pub loop-preserved : goal.loop-preserved
loop-preserved g c = one_more c.args.pass _ c.loop.counter _ _ c.loop.invariant c.begin.ensures c.end.ensures
