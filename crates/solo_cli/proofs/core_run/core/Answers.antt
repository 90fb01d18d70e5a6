use Rattle.std.proofs.Common.{Err, ap}
use Rattle.run_report.specs.Told.{sink_told}
use Rattle.solo_cli.proofs.DeckRan.{core-ran, mounted-ready}
use Rattle.solo_cli.proofs.Unmounted.{not-mounted, unbegun-core}
use Rattle.solo_cli.proofs.core_run.core.Goals as goal

pub mount-requires : goal.mount-requires
mount-requires g c = c.requires.files

pub run_numbered-ran-requires-clause-ready : goal.run_numbered-ran-requires-clause-ready
run_numbered-ran-requires-clause-ready g c =
    let e = c.in-Ok.ensures in
    mounted-ready record { left = e.left; size = e.size; later = e.cause.later; solo = e.judged } c.requires

pub returns-in-Ok : goal.returns-in-Ok
returns-in-Ok g c =
    let e = c.in-Ok.ensures in
    core-ran record { left = e.left; size = e.size; later = e.cause.later; solo = e.judged } c.requires c.args.schedule
    (sink_told g.K.Sink c.with_counts-cause.result.1) c.run_numbered-ran.result.0.0 c.run_numbered-ran.ensures
    c.with_counts-cause.ensures.fault c.with_counts-cause.ensures.prints

pub returns-in-Err : goal.returns-in-Err
returns-in-Err g c =
    let e = c.in-Err.ensures in
    unbegun-core (not-mounted c.in-Err.fault c.of_mount.ensures e.refusals e.judged e.left e.size (λ is. e.cause.cause (ap Err is))) c.args.schedule c.requires
