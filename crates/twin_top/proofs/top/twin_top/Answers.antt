use Rattle.std.proofs.Common.{◌⊎◌, inl, inr, refl, sym, ◌∙◌}
use Rattle.run_report.proofs.Adding.{gains-same}
use Rattle.twin_top.specs.Kit.{twin_kit, twin_kit_of}
use Rattle.twin_top.specs.Words.{schedule_asked}
use Rattle.twin_top.proofs.Complete.{completes-asked, size-stays, usage-asked}
use Rattle.twin_top.proofs.Paper.{asked-gains}
use Rattle.twin_top.proofs.top.twin_top.Goals as goal

pub returns-clause-does : goal.returns-clause-does
returns-clause-does g c = c.run_words-cause.ensures

pub returns-clause-usage : goal.returns-clause-usage
returns-clause-usage g c =
    let a = c.args in
    let done = c.run_words-cause.result in
    let before = twin_kit g.S.Source g.K.Sink g.F.Area g.A.Area a.deck a.paper a.files a.input_a a.input_b a.output_a a.output_b in
    let after = twin_kit_of g.S.Source g.K.Sink g.F.Area g.A.Area done.devices in
    let iff = usage-asked before after (schedule_asked a.words.now) done.cause c.run_words-cause.ensures in
    (λ one. iff.0 (sym c.status_of.ensures ∙ one), λ none. c.status_of.ensures ∙ iff.1 none)

pub returns-clause-complete : goal.returns-clause-complete
returns-clause-complete g c = λ some n.
    let a = c.args in
    let done = c.run_words-cause.result in
    let before = twin_kit g.S.Source g.K.Sink g.F.Area g.A.Area a.deck a.paper a.files a.input_a a.input_b a.output_a a.output_b in
    let after = twin_kit_of g.S.Source g.K.Sink g.F.Area g.A.Area done.devices in
    elim (completes-asked {before = before} {after = after} (schedule_asked a.words.now) done.cause c.requires.deck c.run_words-cause.ensures some n) [
      | inl zero ↦ inl (c.status_of.ensures ∙ zero)
      | inr nine ↦ inr (c.status_of.ensures ∙ nine)
    ]

pub returns-clause-output : goal.returns-clause-output
returns-clause-output g c = λ bytes found some given.
    let a = c.args in
    let done = c.run_words-cause.result in
    let before = twin_kit g.S.Source g.K.Sink g.F.Area g.A.Area a.deck a.paper a.files a.input_a a.input_b a.output_a a.output_b in
    let after = twin_kit_of g.S.Source g.K.Sink g.F.Area g.A.Area done.devices in
    let ended = asked-gains before after (schedule_asked a.words.now) done.cause c.run_words-cause.ensures some bytes found given in
    record {
      counts = ended.counts;
      gains = gains-same _ _ _ _ _ _ _ _ refl refl refl (λ zero. sym c.status_of.ensures ∙ zero) ended.gains;
    }

pub returns-clause-files_size : goal.returns-clause-files_size
returns-clause-files_size g c =
    let a = c.args in
    let done = c.run_words-cause.result in
    let before = twin_kit g.S.Source g.K.Sink g.F.Area g.A.Area a.deck a.paper a.files a.input_a a.input_b a.output_a a.output_b in
    let after = twin_kit_of g.S.Source g.K.Sink g.F.Area g.A.Area done.devices in
    size-stays before after (schedule_asked a.words.now) done.cause c.run_words-cause.ensures
