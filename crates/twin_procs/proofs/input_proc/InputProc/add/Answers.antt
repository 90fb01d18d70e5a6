use Rattle.twin_procs.proofs.InputSteps.{add-dropped, add-packed}
use Rattle.twin_procs.proofs.input_proc.InputProc.add.Goals as goal

pub returns-then-not-dropped : goal.returns-then-not-dropped
returns-then-not-dropped c = λ side inside hand kept.
    add-packed c.args.self.now c.args.item side inside hand kept c.pack.new.self c.is_dropped-dropped.result c.is_inside-self.result
    c.is_dropped-dropped.ensures c.if-not-dropped.true c.is_inside-self.ensures c.pack.ensures

pub returns-else-not-dropped : goal.returns-else-not-dropped
returns-else-not-dropped c = λ side inside hand kept.
    add-dropped c.args.self.now c.args.item side inside hand kept c.is_dropped-dropped.result c.is_inside-self.result
    c.is_dropped-dropped.ensures c.if-not-dropped.false c.is_inside-self.ensures
