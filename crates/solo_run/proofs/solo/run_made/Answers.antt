use Rattle.std.proofs.Common.{subst}
use Rattle.solo_run.specs.Job.{job_world}
use Rattle.solo_run.specs.Begun.{IsParted}
use Rattle.solo_run.proofs.Beginning.{row-begins, solo-did}
use Rattle.solo_run.proofs.solo.run_made.Goals as goal

pub run_three-requires-after_bounds : goal.run_three-requires-after_bounds
run_three-requires-after_bounds g c κs within =
    row-begins g.S.Source.left g.S.Source.taken g.S.Source.faults (job_world g.Y.Source.left g.Y.Source.taken g.Y.Source.faults
    g.T.Sink.given g.T.Sink.faults g.C.Commands.sound g.C.Commands.faults g.C.Commands.opens
    g.C.Commands.follows g.C.Commands.passes) g.K.Sink.given g.K.Sink.faults
    c.args.cards c.args.prints c.args.parted c.row.result c.row.ensures
    c.requires.live c.requires.sound c.requires.cards c.requires.prints

pub returns-in-Ok-clause-did : goal.returns-in-Ok-clause-did
returns-in-Ok-clause-did g c =
    solo-did g.S.Source.left g.S.Source.taken g.S.Source.faults (job_world g.Y.Source.left g.Y.Source.taken g.Y.Source.faults
    g.T.Sink.given g.T.Sink.faults g.C.Commands.sound g.C.Commands.faults g.C.Commands.opens
    g.C.Commands.follows g.C.Commands.passes) g.K.Sink.given g.K.Sink.faults
    c.args.cards c.args.prints c.args.parted c.row.result c.row.ensures
    c.in-Ok.ended c.in-Ok.ensures.ran c.part-units.result (subst (λ row. IsParted row c.part-units.result) c.sides_of.ensures c.part-units.ensures)
    c.meet-one.result c.meet-four.result c.outcomes_of-outcomes.result c.meet-one.ensures c.meet-four.ensures c.outcomes_of-outcomes.ensures
