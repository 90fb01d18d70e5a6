use Rattle.std.proofs.Common.{Err, inl, inr, refl, sym, ◌∙◌, ap, subst}
use Rattle.run_report.specs.Told.{area_told, sink_told, source_told}
use Rattle.solo_cli.proofs.DeckRan.{batch-ran, mounted-ready}
use Rattle.solo_cli.proofs.Mounted.{IsMounted}
use Rattle.solo_cli.proofs.Runs.{Facts, five}
use Rattle.batch_replay.specs.Told.{RanAsOne}
use Rattle.batch_replay.proofs.AsOne.{ended-so, reached-so, the-run}
use Rattle.deck_work.specs.DeckLaws.{found_are_loads}
use Rattle.deck_work.specs.DeckJobs.{deck_jobs, files_found}
use Rattle.solo_cli.proofs.Unmounted.{in-bounds, not-mounted, unbegun-batch}
use Rattle.solo_cli.proofs.batch.batch.Goals as goal

pub mount-requires : goal.mount-requires
mount-requires g c = c.requires.files

pub returns-in-Ok-run_batch : goal.returns-in-Ok-run_batch
returns-in-Ok-run_batch g c =
    let m = c.in-Ok.ensures in
    let e = c.in-Ok-run_batch.ensures in
    let ran = c.in-Ok-run_batch.ran in
    let a = c.args in
    let s = g.S.Source in
    let k = g.K.Sink in
    let f = g.F.Area in
    let i = g.I.Area in
    let o = g.O.Area in
    let mounted : IsMounted (area_told f a.files) (area_told f c.in-Ok.files.area)
    = record { left = m.left; size = m.size; later = m.cause.later; solo = m.judged } in
    let ready = mounted-ready mounted c.requires in
    let found = files_found (f.pages c.in-Ok.files.area) in
    let bounds = in-bounds ready in
    let good = found_are_loads (f.pages c.in-Ok.files.area) in
    let one = subst (λ units. RanAsOne deck_jobs s.left s.taken s.faults k.given k.faults _ i.size i.pages i.faults o.size o.pages o.faults units ran)
    c.units_of-units.ensures e.one_run in
    rw c.came_to.ensures.ended
    (batch-ran mounted c.requires
    (five s k f i o (λ loader. loader.files.area) a.deck a.paper (record { files = c.in-Ok.files }) a.input a.output ran ready c.came_to.ensures.size
    (subst (λ units. Facts s k f i o (λ loader. loader.files.area) units ran) c.units_of-units.ensures record {
      together = e.together;
      faults = e.faults;
      counted = e.counted;
      prints = e.prints;
      all_taken = e.all_taken;
      files = e.files;
      undamaged = e.undamaged;
      total = e.total;
    })) (the-run one bounds found good (λ all is. is)).state (reached-so one bounds found good (λ all is. is))
    (ended-so one bounds found good (λ all is. is)) (the-run one bounds found good (λ all is. is)).stopped
    (the-run one bounds found good (λ all is. is)).paper)

pub returns-in-Err-run_batch : goal.returns-in-Err-run_batch
returns-in-Err-run_batch g c =
    let m = c.in-Ok.ensures in
    let back = c.in-Err-run_batch.ensures.refused ∙ c.units_of-units.ensures in
    rw c.given_back.ensures.ended
    (unbegun-batch record {
      untouched = record {
        deck = ap (λ units. source_told g.S.Source units.deck.source) back;
        paper = ap (λ units. sink_told g.K.Sink units.paper.sink) back;
        input = ap (λ units. area_told g.I.Area units.input) back;
        output = ap (λ units. area_told g.O.Area units.output) back;
      };
      left = ap (λ units. g.F.Area.pages units.files.files.area) back ∙ m.left;
      size = c.given_back.ensures.size ∙ sym c.requires.files;
      why = inr (inl refl);
    } c.requires)

pub returns-in-Err : goal.returns-in-Err
returns-in-Err g c =
    let e = c.in-Err.ensures in
    unbegun-batch (not-mounted c.in-Err.fault c.of_mount.ensures e.refusals e.judged e.left e.size (λ is. e.cause.cause (ap Err is))) c.requires
