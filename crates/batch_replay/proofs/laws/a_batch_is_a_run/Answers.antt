use Rattle.batch_sides.specs.Files.{loading}
use Rattle.batch_replay.proofs.AsOne.{as-one}
use Rattle.batch_replay.proofs.Follows.{prints}
use Rattle.batch_replay.proofs.Run.{is-a-run}
use Rattle.batch_replay.proofs.laws.a_batch_is_a_run.Goals as goal

pub returns-clause-run : goal.returns-clause-run
returns-clause-run g c = λ units ran did.
    as-one g.J.HasJobs.are_jobs g.S.Source.left g.S.Source.taken g.S.Source.faults g.K.Sink.given g.K.Sink.faults
    (loading g.F.Loader.found g.F.Loader.pages g.F.Loader.faults g.F.Loader.sound) g.A.Area.size g.A.Area.pages g.A.Area.faults g.B.Area.size g.B.Area.pages
    g.B.Area.faults units ran did

pub returns-clause-prints : goal.returns-clause-prints
returns-clause-prints g c = λ units ran did opening opens told items found deck are.
    prints g.J.HasJobs.are_jobs (is-a-run g.J.HasJobs.are_jobs g.S.Source.left g.S.Source.taken g.S.Source.faults g.K.Sink.given g.K.Sink.faults
    (loading g.F.Loader.found g.F.Loader.pages g.F.Loader.faults g.F.Loader.sound) g.A.Area.size g.A.Area.pages g.A.Area.faults g.B.Area.size g.B.Area.pages
    g.B.Area.faults units ran did opening opens) told items found deck are
