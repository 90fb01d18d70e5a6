use Rattle.std.proofs.Common.{subst}
use Rattle.std.proofs.lemmas.Result.{IfOk-weaker}
use Rattle.std.specs.Prelude.{IfOk}
use Rattle.batch_sides.specs.Files.{loading}
use Rattle.batch_replay.specs.FiveRan.{BatchRan}
use Rattle.batch_replay.proofs.AsOne.{as-one}
use Rattle.batch_run.proofs.Beginning.{same-units}
use Rattle.batch_run.proofs.Promise.{together, faults, counted, prints, reads, undamaged, taken-all, longer}
use Rattle.batch_run.proofs.batch.run_batch.Goals as goal

pub returns-in-Ok-clause-ran : goal.returns-in-Ok-clause-ran
returns-in-Ok-clause-ran g c =
    subst (λ units. IfOk c.run_made.result (λ ran. BatchRan g.J.HasJobs.jobs g.S.Source.left g.S.Source.taken g.S.Source.faults g.K.Sink.given
    g.K.Sink.faults (loading g.F.Loader.found g.F.Loader.pages g.F.Loader.faults g.F.Loader.sound) g.A.Area.size g.A.Area.pages
    g.A.Area.faults g.B.Area.size g.B.Area.pages g.B.Area.faults units ran))
    (same-units c.args.units _ _ c.in-Ok.ensures.areas.0 c.in-Ok.ensures.areas.1) c.run_made.ensures.ran

pub returns-in-Ok-clause-one_run : goal.returns-in-Ok-clause-one_run
returns-in-Ok-clause-one_run g c =
    IfOk-weaker c.run_made.result _ _ (λ ran batch. as-one c.know_jobs.ensures g.S.Source.left g.S.Source.taken g.S.Source.faults g.K.Sink.given
    g.K.Sink.faults (loading g.F.Loader.found g.F.Loader.pages g.F.Loader.faults g.F.Loader.sound) g.A.Area.size g.A.Area.pages
    g.A.Area.faults g.B.Area.size g.B.Area.pages g.B.Area.faults c.args.units ran batch) (returns-in-Ok-clause-ran g c)

pub returns-in-Ok-clause-together : goal.returns-in-Ok-clause-together
returns-in-Ok-clause-together g c = IfOk-weaker c.run_made.result _ _ (λ ran batch. together c.know_jobs.ensures batch) (returns-in-Ok-clause-ran g c)

pub returns-in-Ok-clause-faults : goal.returns-in-Ok-clause-faults
returns-in-Ok-clause-faults g c = IfOk-weaker c.run_made.result _ _ (λ ran batch. faults c.know_jobs.ensures batch) (returns-in-Ok-clause-ran g c)

pub returns-in-Ok-clause-counted : goal.returns-in-Ok-clause-counted
returns-in-Ok-clause-counted g c = IfOk-weaker c.run_made.result _ _ (λ ran batch. counted c.know_jobs.ensures batch) (returns-in-Ok-clause-ran g c)

pub returns-in-Ok-clause-prints : goal.returns-in-Ok-clause-prints
returns-in-Ok-clause-prints g c = IfOk-weaker c.run_made.result _ _
    (λ ran batch items found ahead are told. prints c.know_jobs.ensures batch told.input told.output items found ahead are) (returns-in-Ok-clause-ran g c)

pub returns-in-Ok-clause-reads : goal.returns-in-Ok-clause-reads
returns-in-Ok-clause-reads g c = IfOk-weaker c.run_made.result _ _ (λ ran batch items ahead done. reads c.know_jobs.ensures batch items ahead done)
    (returns-in-Ok-clause-ran g c)

pub returns-in-Ok-clause-all_taken : goal.returns-in-Ok-clause-all_taken
returns-in-Ok-clause-all_taken g c = IfOk-weaker c.run_made.result _ _ (λ ran batch done. taken-all c.know_jobs.ensures batch done)
    (returns-in-Ok-clause-ran g c)

pub returns-in-Ok-clause-files : goal.returns-in-Ok-clause-files
returns-in-Ok-clause-files g c = IfOk-weaker c.run_made.result _ _ (λ ran batch. batch.files.stay) (returns-in-Ok-clause-ran g c)

pub returns-in-Ok-clause-undamaged : goal.returns-in-Ok-clause-undamaged
returns-in-Ok-clause-undamaged g c = IfOk-weaker c.run_made.result _ _ (λ ran batch told. undamaged c.know_jobs.ensures batch told.input told.output)
    (returns-in-Ok-clause-ran g c)

pub returns-in-Ok-clause-longer : goal.returns-in-Ok-clause-longer
returns-in-Ok-clause-longer g c = IfOk-weaker c.run_made.result _ _ (λ ran batch few over. longer c.know_jobs.ensures batch few over)
    (returns-in-Ok-clause-ran g c)

pub returns-in-Ok-clause-total : goal.returns-in-Ok-clause-total
returns-in-Ok-clause-total g c = IfOk-weaker c.run_made.result _ _ (λ ran batch. batch.deck.total) (returns-in-Ok-clause-ran g c)
