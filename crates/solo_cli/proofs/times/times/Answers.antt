use Rattle.std.proofs.Common.{◌≡◌, [], None, Some, refl, sym, ◌∙◌, ap, subst}
use Rattle.solo_base.specs.Card.{cards}
use Rattle.solo_base.specs.declared.outcome.Outcome.TheVariants.{Done}
use Rattle.solo_devices.specs.CardUnit.{items_ahead}
use Rattle.network_run.specs.OneRun.{AreItsCounts}
use Rattle.network_run.specs.declared.rules.Rule.TheVariants.{Numbered}
use Rattle.real_time.specs.States.{opened}
use Rattle.real_time.specs.TimesLaw.{timing}
use Rattle.run_report.proofs.Adding.{gains-same}
use Rattle.solo_cli.proofs.Scripts.{done-of, with-counts, without-counts}
use Rattle.solo_cli.proofs.times.times.Goals as goal

pub returns-in-None-clause-output : goal.returns-in-None-clause-output
returns-in-None-clause-output g c = λ bytes told.
    let e = c.run_times-ran.ensures in
    let ran = c.run_times-ran.result.0 in
    let keys = ap (λ left. items_ahead left []) told in
    let rule = Numbered c.args.schedule in
    let console = g.T.Sink.given c.args.console in
    let done = done-of ran.outcome e.ends (sym c.fault_told.ensures ∙ c.in-None.is) in
    with-counts rule (cards bytes) console (g.T.Sink.given c.into_inner-keys.result.1) (g.T.Sink.given c.show_counts-cause.result.1)
    c.run_times-ran.result.1 (c.show_counts-cause.result.0 ≡ None) (ran.outcome ≡ Done) done e.grants
    (subst (λ ahead. AreItsCounts timing rule (opened record { keys = ahead; console = console }) c.run_times-ran.result.1) keys
    (e.counts (cards bytes) keys done))
    (gains-same _ _ _ _ _ _ _ _ refl (ap g.T.Sink.given (sym c.into_inner-keys.ensures.console)) refl (λ done. done) (e.shows (cards bytes) keys))
    c.show_counts-cause.ensures.line

pub returns-in-Some-clause-output : goal.returns-in-Some-clause-output
returns-in-Some-clause-output g c = λ bytes told.
    let e = c.run_times-ran.ensures in
    let ran = c.run_times-ran.result.0 in
    let keys = ap (λ left. items_ahead left []) told in
    without-counts (Numbered c.args.schedule) (cards bytes) (g.T.Sink.given c.args.console) (g.T.Sink.given c.into_inner-keys.result.1) _
    (ran.outcome ≡ Done) (λ none. cc)
    (gains-same _ _ _ _ _ _ _ _ refl (ap g.T.Sink.given (sym c.into_inner-keys.ensures.console)) refl (λ done. done) (e.shows (cards bytes) keys))

pub returns-in-None-clause-ends : goal.returns-in-None-clause-ends
returns-in-None-clause-ends g c =
    let e = c.run_times-ran.ensures in
    let ran = c.run_times-ran.result.0 in
    record {
      counts = c.run_times-ran.result.1;
      starts = ran.runs;
      pending = ran.typewriter.keys.pending;
      displayed = g.T.Sink.given c.into_inner-keys.result.1;
      fault = None;
      runs = rw (c.into_inner-keys.ensures.keys, c.into_inner-keys.ensures.console) e.runs;
      faulty = tt;
      faultless = λ _. c.show_counts-cause.ensures.line;
    }

pub returns-in-Some-clause-ends : goal.returns-in-Some-clause-ends
returns-in-Some-clause-ends g c =
    let e = c.run_times-ran.ensures in
    let ran = c.run_times-ran.result.0 in
    record {
      counts = c.run_times-ran.result.1;
      starts = ran.runs;
      pending = ran.typewriter.keys.pending;
      displayed = g.T.Sink.given c.into_inner-keys.result.1;
      fault = Some c.in-Some.cause;
      runs = rw (c.into_inner-keys.ensures.keys, c.into_inner-keys.ensures.console) e.runs;
      faulty = (refl, refl);
      faultless = λ none. absurd cc;
    }
