use Rattle.std.proofs.Common.{Err, inl, inr, refl, sym, ◌∙◌, ap, subst}
use Rattle.solo_devices.specs.CardUnit.{bytes_total}
use Rattle.solo_ends.specs.Faults.{AreCounted, devices_of}
use Rattle.run_report.specs.Told.{area_told, sink_told, source_told}
use Rattle.solo_cli.specs.Devices.{kit}
use Rattle.solo_cli.proofs.Mounted.{why-not}
use Rattle.solo_cli.proofs.NoSession.{unbegun-session}
use Rattle.solo_cli.proofs.SessionEnding.{session-ends}
use Rattle.solo_cli.proofs.SessionMounted.{session-finishes, session-ready}
use Rattle.solo_cli.proofs.SessionRuns.{begun_with, counted-kit, counts_of, opened, ran-session, same-start}
use Rattle.solo_cli.proofs.SessionTold.{session-ran}
use Rattle.solo_cli.proofs.session.session.Goals as goal

pub mount-requires : goal.mount-requires
mount-requires g c = c.requires.files

pub returns-in-Ok-run_solo-clause-session : goal.returns-in-Ok-run_solo-clause-session
returns-in-Ok-run_solo-clause-session g c =
    let m = c.in-Ok.ensures in
    let e = c.in-Ok-run_solo.ensures in
    let ran = c.in-Ok-run_solo.ran in
    let a = c.args in
    let mounted = c.in-Ok.files in
    let s = g.S.Source in
    let y = g.Y.Source in
    let k = g.K.Sink in
    let t = g.T.Sink in
    let f = g.F.Area in
    let i = g.I.Area in
    let o = g.O.Area in
    let now = devices_of ran.units in
    let before = kit s y k t f i o a.deck a.keys a.paper a.console mounted.area a.input a.output in
    let after = kit s y k t f i o now.source now.keys now.sink now.console now.files.area a.input a.output in
    let start = begun_with a.deck a.keys a.paper a.console mounted in
    let same = same-start _ _ _ _ mounted a.deck a.keys a.paper a.console c.new.ensures c.new-in-Ok.ensures.keys c.new-in-Ok-2.ensures c.new-in-Ok.ensures.console in
    let counted = counted-kit s y k t f i o start now a.input a.output ran.outcomes
    (subst (λ begun. AreCounted (counts_of s y k t f i o) begun now ran.outcomes) same e.counted) in
    rw c.came_to.ensures.finishes
    (session-finishes record { left = m.left; size = m.size; later = m.cause.later; solo = m.judged }
    (session-ran (session-ends before after ran.outcomes ran.stopped_by c.came_to.ensures.three e.together e.faults counted) c.came_to.ensures.three
    (session-ready record { left = m.left; size = m.size; later = m.cause.later; solo = m.judged } c.requires)
    (e.total.cards ∙ ap (λ unit. bytes_total (s.taken unit.source) (s.left unit.source)) c.new.ensures)
    (e.total.keys ∙ ap (λ unit. bytes_total (y.taken unit.source) (y.left unit.source)) c.new-in-Ok.ensures.keys)
    record { deck = tt; keys = tt; paper = tt; console = tt; files = tt; input = refl; output = refl }
    (c.came_to.ensures.size ∙ sym (m.size ∙ c.requires.files))
    (λ cards keys pages cards_told keys_told files_told solo.
    ran-session s y k t f i o _ ran pages _ _
    (λ givens commands led. let is = led pages files_told in record { left = is.left; told = is.told; files = is.files; solo = is.solo })
    (λ givens passed. passed pages files_told)
    a.deck a.keys a.paper a.console mounted.area a.input a.output cards keys c.new.ensures c.new-in-Ok.ensures.keys c.new-in-Ok.ensures.console
    c.new-in-Ok-2.ensures cards_told keys_told (e.ran _ (opened _ pages files_told)))))

pub returns-in-Err-run_solo-clause-session : goal.returns-in-Err-run_solo-clause-session
returns-in-Err-run_solo-clause-session g c =
    let back = c.in-Err-run_solo.ensures.refused in
    let deck = ap (λ units. units.cards.source) back ∙ ap (λ unit. unit.source) c.new.ensures in
    let keys = ap (λ units. units.typewriter.keys.source) back ∙ ap (λ unit. unit.source) c.new-in-Ok.ensures.keys in
    let console = ap (λ units. units.typewriter.console.sink) back ∙ ap (λ unit. unit.sink) c.new-in-Ok.ensures.console in
    let paper = ap (λ units. units.paper.sink) back ∙ ap (λ unit. unit.sink) c.new-in-Ok-2.ensures in
    rw c.given_back.ensures.finishes
    (unbegun-session record {
      untouched = record {
        deck = ap (source_told g.S.Source) deck;
        paper = ap (sink_told g.K.Sink) paper;
        input = refl;
        output = refl;
      };
      keys = ap (source_told g.Y.Source) keys;
      console = ap (sink_told g.T.Sink) console;
      files = ap (λ units. g.F.Area.pages units.files.area) back ∙ c.in-Ok.ensures.left;
    } (inr (inl refl)) (c.given_back.ensures.size ∙ sym c.requires.files) c.requires)

pub returns-in-Err-clause-session : goal.returns-in-Err-clause-session
returns-in-Err-clause-session g c =
    let e = c.in-Err.ensures in
    rw (c.finish.ensures, c.of_mount.ensures)
    (unbegun-session record {
      untouched = record { deck = refl; paper = refl; input = refl; output = refl };
      keys = refl;
      console = refl;
      files = e.left;
    } (why-not (area_told g.F.Area c.args.files) (area_told g.F.Area c.in-Err.files) c.in-Err.fault e.refusals e.judged (λ is. e.cause.cause (ap Err is)))
    e.size c.requires)
