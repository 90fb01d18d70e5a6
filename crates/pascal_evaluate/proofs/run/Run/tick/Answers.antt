use Rattle.pascal_evaluate.specs.SeenStore.{situation}
use Rattle.pascal_evaluate.proofs.Parts.{tick_late}
use Rattle.pascal_evaluate.proofs.run.Run.tick.Goals as goal

pub returns-else-self-limit : goal.returns-else-self-limit
returns-else-self-limit c = tick_late c.args.limit c.args.line (situation c.args.self.now) c.if-self-limit.false
