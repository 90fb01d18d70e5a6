use Rattle.std.proofs.Common.{◌∙◌, ap}
use Rattle.solo_devices.specs.CardUnit.{bytes_total}
use Rattle.network_run.proofs.Along.{place-behind}
use Rattle.core_law.specs.TheLaw.{the_law}
use Rattle.batch_ends.specs.declared.units.Units.{Units}
use Rattle.net_core.specs.Net.{first_place}
use Rattle.net_core.proofs.WholeRuns.{all-taken, run-bounded, runs-to-end}
use Rattle.net_core.proofs.core_run.run_core.Goals as goal

pub run_by-counts-requires : goal.run_by-counts-requires
run_by-counts-requires g c = record { before = first_place c.make-net.ensures.opens }

pub finish-requires : goal.finish-requires
finish-requires g c =
    let run = c.run_by-counts.ensures in
    record { ended = record { at = run.after; all = run.ended run.after } }

pub returns-clause-runs : goal.returns-clause-runs
returns-clause-runs g c =
    runs-to-end g.J.HasJobs.are_jobs _ _ c.args.rule c.run_by-counts.new.self _ c.run_by-counts.result
    (c.run_by-counts.ensures.runs (first_place c.make-net.ensures.opens))
    c.finish.result.outcomes c.finish.result.stopped_by c.finish.ensures.ends c.finish.result.units c.finish.ensures.units

pub returns-clause-counted : goal.returns-clause-counted
returns-clause-counted g c = c.finish.ensures.counted _ (c.run_by-counts.ensures.keeps.counted _ c.make-net.ensures.counted)

pub returns-clause-own : goal.returns-clause-own
returns-clause-own g c = c.finish.ensures.own _ (c.run_by-counts.ensures.keeps.counted _ c.make-net.ensures.counted)

pub returns-clause-prints : goal.returns-clause-prints
returns-clause-prints g c = λ items found is are_found told.
    let at = first_place c.make-net.ensures.opens in
    let ran = c.run_by-counts.ensures.runs at in
    c.finish.ensures.prints (place-behind (the_law g.J.HasJobs.jobs) _ _ at ran.events ran.enabled ran.stands) told items found is are_found

pub returns-clause-reads : goal.returns-clause-reads
returns-clause-reads g c = λ items is done.
    let at = first_place c.make-net.ensures.opens in
    let ran = c.run_by-counts.ensures.runs at in
    c.finish.ensures.reads (place-behind (the_law g.J.HasJobs.jobs) _ _ at ran.events ran.enabled ran.stands) items is done

pub returns-clause-undamaged : goal.returns-clause-undamaged
returns-clause-undamaged g c = λ told.
    let at = first_place c.make-net.ensures.opens in
    let ran = c.run_by-counts.ensures.runs at in
    c.finish.ensures.undamaged (place-behind (the_law g.J.HasJobs.jobs) _ _ at ran.events ran.enabled ran.stands) told

pub returns-clause-bound : goal.returns-clause-bound
returns-clause-bound g c = λ items found is are_found told.
    let at = first_place c.make-net.ensures.opens in
    run-bounded g.J.HasJobs.are_jobs _ _ c.args.rule c.run_by-counts.new.self at.opening at.state c.run_by-counts.result items found at.reached told is
    are_found
    (c.run_by-counts.ensures.runs at)

pub returns-clause-total : goal.returns-clause-total
returns-clause-total g c =
    ap (λ (u : Units _ _ _ _ _). bytes_total (g.S.Source.taken u.deck.source) (g.S.Source.left u.deck.source)) c.finish.ensures.units
    ∙ c.run_by-counts.ensures.keeps.total
    ∙ ap (λ (u : Units _ _ _ _ _). bytes_total (g.S.Source.taken u.deck.source) (g.S.Source.left u.deck.source)) c.make-net.ensures.units

pub returns-clause-all_taken : goal.returns-clause-all_taken
returns-clause-all_taken g c = λ done.
    let at = first_place c.make-net.ensures.opens in
    let ran = c.run_by-counts.ensures.runs at in
    all-taken (g.S.Source.left c.args.units.deck.source) (g.S.Source.left c.finish.result.units.deck.source) (g.S.Source.taken c.args.units.deck.source)
    (g.S.Source.taken c.finish.result.units.deck.source) c.args.units.deck.pending c.finish.result.units.deck.pending c.requires.deck.1
    (ap (λ (u : Units _ _ _ _ _). bytes_total (g.S.Source.taken u.deck.source) (g.S.Source.left u.deck.source)) c.finish.ensures.units
    ∙ c.run_by-counts.ensures.keeps.total
    ∙ ap (λ (u : Units _ _ _ _ _). bytes_total (g.S.Source.taken u.deck.source) (g.S.Source.left u.deck.source)) c.make-net.ensures.units)
    (λ items is. c.finish.ensures.reads (place-behind (the_law g.J.HasJobs.jobs) _ _ at ran.events ran.enabled ran.stands) items is done)

pub returns-clause-files : goal.returns-clause-files
returns-clause-files g c =
    ap (λ (u : Units _ _ _ _ _). g.F.Loader.pages u.files) c.finish.ensures.units ∙ c.run_by-counts.ensures.keeps.files
    ∙ ap (λ (u : Units _ _ _ _ _). g.F.Loader.pages u.files) c.make-net.ensures.units
