use Rattle.batch_sides.specs.Files.{loading}
use Rattle.batch_run.proofs.BatchRuns.{batch-ran}
use Rattle.batch_run.proofs.Beginning.{row-begins}
use Rattle.batch_run.proofs.Meeting.{ends-of, units-back}
use Rattle.batch_run.proofs.batch.run_made.Goals as goal

pub run_five-ended-requires-after_bounds : goal.run_five-ended-requires-after_bounds
run_five-ended-requires-after_bounds g c κs within =
    row-begins g.J.HasJobs.jobs g.S.Source.left g.S.Source.taken g.S.Source.faults g.K.Sink.given g.K.Sink.faults
    (loading g.F.Loader.found g.F.Loader.pages g.F.Loader.faults g.F.Loader.sound) g.A.Area.size g.B.Area.size
    c.args.gates c.args.ends c.args.deck c.args.paper c.args.files c.row.result c.requires.fresh c.row.ensures c.requires.live.0 c.requires.live.1
    c.requires.sound

pub meet-input-requires-after_bounds : goal.meet-input-requires-after_bounds
meet-input-requires-after_bounds g c κs within =
    ends-of g.A.Area.size g.B.Area.size c.requires.fresh c.row.ensures c.take_apart-ends.ensures c.run_five-ended.result.1 c.run_five-ended.ensures

pub returns-then-whole-clause-ran : goal.returns-then-whole-clause-ran
returns-then-whole-clause-ran g c =
    batch-ran c.know_jobs.ensures g.S.Source.left g.S.Source.taken g.S.Source.faults g.K.Sink.given g.K.Sink.faults
    (loading g.F.Loader.found g.F.Loader.pages g.F.Loader.faults g.F.Loader.sound) g.A.Area.size g.B.Area.size
    c.args.gates c.args.ends c.args.deck c.args.paper c.args.files c.row.result c.run_five-ended.result.0 c.take_apart-ends.result c.row.ensures
    (c.run_five-ended.ensures.ran c.if-whole.true) c.take_apart-ends.ensures g.A.Area.pages g.A.Area.faults g.B.Area.pages g.B.Area.faults
    c.meet-input.result c.meet-input.ensures

pub returns-clause-refused : goal.returns-clause-refused
returns-clause-refused g c =
    units-back g.A.Area.size g.B.Area.size c.requires.fresh c.row.ensures c.take_apart-ends.ensures (c.run_five-ended.ensures.stays c.if-whole.false)
    c.meet-input.ensures
