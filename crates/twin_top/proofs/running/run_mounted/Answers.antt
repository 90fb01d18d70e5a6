use Rattle.std.proofs.Common.{◌≡◌, ◌≤◌, [], refl, sym, ◌∙◌, ap, subst, arith}
use Rattle.solo_base.specs.Card.{cards}
use Rattle.solo_base.specs.Text.{text}
use Rattle.solo_devices.specs.Count.{Rose}
use Rattle.solo_devices.specs.CardUnit.{bytes_total, items_ahead}
use Rattle.network_law.specs.Network.{opening}
use Rattle.network_run.specs.declared.rules.Rule.TheVariants.{Numbered}
use Rattle.deck_work.specs.DeckJobs.{deck_jobs, files_found}
use Rattle.deck_work.proofs.OneThread.{one_thread_is}
use Rattle.net_core.proofs.WholeRuns.{all-taken}
use Rattle.unit_work.proofs.ByUnits.{by-units}
use Rattle.twin_law.specs.Opening.{size_of, told_of}
use Rattle.twin_net.specs.TwinRuns.{TwinRunsToEnd}
use Rattle.run_report.specs.Decides.{decides}
use Rattle.run_report.specs.Told.{sink_told}
use Rattle.run_report.proofs.Adding.{gains-same}
use Rattle.twin_top.specs.Answers.{HasReasons}
use Rattle.twin_top.specs.Kit.{four_spools, twin_kit, twin_kit_of}
use Rattle.twin_top.specs.Runs.{SixRan, six_outcomes}
use Rattle.twin_top.proofs.Areas.{area-rose}
use Rattle.twin_top.proofs.Ran.{ComesTo, later-on, lowest-of, one-of, reads-of, six-ran}
use Rattle.twin_top.proofs.Reasons.{AreCountedSo, has-reasons, never-named}
use Rattle.twin_top.proofs.running.run_mounted.Goals as goal

pub returns-clause-ran : goal.returns-clause-ran
returns-clause-ran g c =
    let e = c.run_twin-ran.ensures in
    let ran = c.run_twin-ran.result.0 in
    let counts = c.run_twin-ran.result.1 in
    let d = c.args.devices in
    let source = g.S.Source in
    let sink = g.K.Sink in
    let last = c.came_to.result in
    let before = twin_kit g.S.Source g.K.Sink g.F.Area g.A.Area d.deck d.paper d.files.area d.input_a d.input_b d.output_a d.output_b in
    let after = twin_kit g.S.Source g.K.Sink g.F.Area g.A.Area ran.units.deck.source last.devices.paper ran.units.files.files.area ran.units.to_a
    ran.units.to_b ran.units.from_a ran.units.from_b in
    let mid = sink_told g.K.Sink ran.units.paper.sink in
    let comes : ComesTo mid after.paper ran.outcomes counts last.cause = record {
      faulty = λ why is. (let both = c.came_to.ensures.faulty why is in (both.0, ap (sink_told g.K.Sink) both.1));
      faultless = c.came_to.ensures.faultless;
    } in
    let on : before.paper.faults ≤ mid.faults = subst (λ unit. sink.faults unit.sink ≤ sink.faults ran.units.paper.sink) c.new-2.ensures e.counted.print_on in
    let later = later-on before after mid ran.outcomes counts last.cause comes on in
    let counted : AreCountedSo before after ran.outcomes = record {
      read = λ is. subst (λ unit. Rose (source.faults unit.source) (source.faults ran.units.deck.source)) c.new.ensures (e.counted.read is);
      limit = e.counted.limit;
      longer = e.counted.longer (let zero = ap (λ unit. source.taken unit.source) c.new.ensures ∙ c.requires.ready.deck in omega (arith, zero));
      disk = area-rose _ _ ran.units ran.outcomes e.counted.disk e.faults;
      print = λ is.
          let rose = subst (λ unit. Rose (sink.faults unit.sink) (sink.faults ran.units.paper.sink)) c.new-2.ensures (e.counted.print is) in
          omega (arith, rose, later);
    } in
    let total = e.total ∙ ap (λ unit. bytes_total (source.taken unit.source) (source.left unit.source)) c.new.ensures in
    subst (λ devices. SixRan c.args.schedule before (twin_kit_of g.S.Source g.K.Sink g.F.Area g.A.Area devices) last.cause) (sym c.came_to.ensures.devices)
    (six-ran before after mid ran.outcomes counts last.cause comes on c.args.schedule ran.stopped_by
    (items_ahead (source.left ran.units.deck.source) ran.units.deck.pending) (files_found (g.F.Area.pages ran.units.files.files.area))
    (subst (λ unit. TwinRunsToEnd deck_jobs (Numbered c.args.schedule)
    (opening record {
      deck = items_ahead (source.left unit.source) unit.pending;
      paper = sink.given d.paper;
      files = files_found before.files.pages;
    } (size_of (four_spools before)) (told_of (four_spools before))) counts ran.outcomes ran.stopped_by
    record {
      deck = items_ahead (source.left ran.units.deck.source) ran.units.deck.pending;
      paper = sink.given ran.units.paper.sink;
      files = files_found (g.F.Area.pages ran.units.files.files.area);
    }) c.new.ensures
    (subst (λ unit. TwinRunsToEnd deck_jobs (Numbered c.args.schedule)
    (opening record {
      deck = items_ahead (source.left c.new.result.source) c.new.result.pending;
      paper = sink.given unit.sink;
      files = files_found before.files.pages;
    } (size_of (four_spools before)) (told_of (four_spools before))) counts ran.outcomes ran.stopped_by
    record {
      deck = items_ahead (source.left ran.units.deck.source) ran.units.deck.pending;
      paper = sink.given ran.units.paper.sink;
      files = files_found (g.F.Area.pages ran.units.files.files.area);
    }) c.new-2.ensures e.runs))
    e.faults
    (λ bytes found given.
    e.together by-units record {
      to_a = given.spools.input_a;
      to_b = given.spools.input_b;
      from_a = given.spools.output_a;
      from_b = given.spools.output_b;
    } (cards bytes) found
    (ap (λ unit. items_ahead (source.left unit.source) unit.pending) c.new.ensures ∙ ap (λ left. items_ahead left []) given.deck) given.files)
    (λ bytes found given.
    gains-same _ _ _ _ _ _ _ _ (ap (λ unit. sink.given unit.sink) c.new-2.ensures) refl (ap text (one_thread_is (cards bytes) found)) (λ all. all)
    (e.prints by-units record {
      to_a = given.spools.input_a;
      to_b = given.spools.input_b;
      from_a = given.spools.output_a;
      from_b = given.spools.output_b;
    } (cards bytes) found
    (ap (λ unit. items_ahead (source.left unit.source) unit.pending) c.new.ensures ∙ ap (λ left. items_ahead left []) given.deck) given.files))
    (λ bytes told done.
    reads-of before after mid ran.outcomes counts last.cause comes on counted c.requires.ready.deck total bytes told
    (all-taken before.deck.left (source.left ran.units.deck.source) before.deck.taken (source.taken ran.units.deck.source) [] ran.units.deck.pending refl total
    (λ items is. e.reads items (ap (λ unit. items_ahead (source.left unit.source) unit.pending) c.new.ensures ∙ is) done)) done))

pub returns-clause-reasons : goal.returns-clause-reasons
returns-clause-reasons g c =
    let e = c.run_twin-ran.ensures in
    let ran = c.run_twin-ran.result.0 in
    let counts = c.run_twin-ran.result.1 in
    let d = c.args.devices in
    let source = g.S.Source in
    let sink = g.K.Sink in
    let last = c.came_to.result in
    let before = twin_kit g.S.Source g.K.Sink g.F.Area g.A.Area d.deck d.paper d.files.area d.input_a d.input_b d.output_a d.output_b in
    let after = twin_kit g.S.Source g.K.Sink g.F.Area g.A.Area ran.units.deck.source last.devices.paper ran.units.files.files.area ran.units.to_a
    ran.units.to_b ran.units.from_a ran.units.from_b in
    let mid = sink_told g.K.Sink ran.units.paper.sink in
    let comes : ComesTo mid after.paper ran.outcomes counts last.cause = record {
      faulty = λ why is. (let both = c.came_to.ensures.faulty why is in (both.0, ap (sink_told g.K.Sink) both.1));
      faultless = c.came_to.ensures.faultless;
    } in
    let on : before.paper.faults ≤ mid.faults = subst (λ unit. sink.faults unit.sink ≤ sink.faults ran.units.paper.sink) c.new-2.ensures e.counted.print_on in
    let later = later-on before after mid ran.outcomes counts last.cause comes on in
    let counted : AreCountedSo before after ran.outcomes = record {
      read = λ is. subst (λ unit. Rose (source.faults unit.source) (source.faults ran.units.deck.source)) c.new.ensures (e.counted.read is);
      limit = e.counted.limit;
      longer = e.counted.longer (let zero = ap (λ unit. source.taken unit.source) c.new.ensures ∙ c.requires.ready.deck in omega (arith, zero));
      disk = area-rose _ _ ran.units ran.outcomes e.counted.disk e.faults;
      print = λ is.
          let rose = subst (λ unit. Rose (sink.faults unit.sink) (sink.faults ran.units.paper.sink)) c.new-2.ensures (e.counted.print is) in
          omega (arith, rose, later);
    } in
    let total = e.total ∙ ap (λ unit. bytes_total (source.taken unit.source) (source.left unit.source)) c.new.ensures in
    subst (λ devices. HasReasons before (twin_kit_of g.S.Source g.K.Sink g.F.Area g.A.Area devices) last.cause) (sym c.came_to.ensures.devices)
    (has-reasons {before = before} {after = after} {answer = last.cause} ran.outcomes e.faults counted
    (one-of before after mid ran.outcomes counts last.cause comes on (decides (six_outcomes ran.outcomes)) refl)
    (lowest-of before after mid ran.outcomes counts last.cause comes on (decides (six_outcomes ran.outcomes)) refl)
    (λ told. e.undamaged record { to_a = told.input_a; to_b = told.input_b; from_a = told.output_a; from_b = told.output_b })
    total e.files (c.came_to.ensures.size ∙ sym c.requires.ready.files))

pub returns-clause-never : goal.returns-clause-never
returns-clause-never g c =
    let e = c.run_twin-ran.ensures in
    let ran = c.run_twin-ran.result.0 in
    let counts = c.run_twin-ran.result.1 in
    let d = c.args.devices in
    let source = g.S.Source in
    let sink = g.K.Sink in
    let last = c.came_to.result in
    let before = twin_kit g.S.Source g.K.Sink g.F.Area g.A.Area d.deck d.paper d.files.area d.input_a d.input_b d.output_a d.output_b in
    let after = twin_kit g.S.Source g.K.Sink g.F.Area g.A.Area ran.units.deck.source last.devices.paper ran.units.files.files.area ran.units.to_a
    ran.units.to_b ran.units.from_a ran.units.from_b in
    let mid = sink_told g.K.Sink ran.units.paper.sink in
    let comes : ComesTo mid after.paper ran.outcomes counts last.cause = record {
      faulty = λ why is. (let both = c.came_to.ensures.faulty why is in (both.0, ap (sink_told g.K.Sink) both.1));
      faultless = c.came_to.ensures.faultless;
    } in
    let on : before.paper.faults ≤ mid.faults = subst (λ unit. sink.faults unit.sink ≤ sink.faults ran.units.paper.sink) c.new-2.ensures e.counted.print_on in
    let later = later-on before after mid ran.outcomes counts last.cause comes on in
    let counted : AreCountedSo before after ran.outcomes = record {
      read = λ is. subst (λ unit. Rose (source.faults unit.source) (source.faults ran.units.deck.source)) c.new.ensures (e.counted.read is);
      limit = e.counted.limit;
      longer = e.counted.longer (let zero = ap (λ unit. source.taken unit.source) c.new.ensures ∙ c.requires.ready.deck in omega (arith, zero));
      disk = area-rose _ _ ran.units ran.outcomes e.counted.disk e.faults;
      print = λ is.
          let rose = subst (λ unit. Rose (sink.faults unit.sink) (sink.faults ran.units.paper.sink)) c.new-2.ensures (e.counted.print is) in
          omega (arith, rose, later);
    } in
    let total = e.total ∙ ap (λ unit. bytes_total (source.taken unit.source) (source.left unit.source)) c.new.ensures in
    never-named {before = before} {after = after} {answer = last.cause} ran.outcomes e.faults counted
    (one-of before after mid ran.outcomes counts last.cause comes on (decides (six_outcomes ran.outcomes)) refl)
    (lowest-of before after mid ran.outcomes counts last.cause comes on (decides (six_outcomes ran.outcomes)) refl)
