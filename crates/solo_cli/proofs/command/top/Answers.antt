use Rattle.std.proofs.Common.{map, refl, sym, ◌∙◌, subst}
use Rattle.std.specs.Prelude.{string_bytes}
use Rattle.run_report.proofs.Adding.{gains-same}
use Rattle.solo_cli.specs.Devices.{kit, kit_after}
use Rattle.solo_cli.specs.Does.{DoesItsWork, Finishes}
use Rattle.solo_cli.specs.Words.{HasNumber, asked}
use Rattle.solo_cli.proofs.Complete.{completes}
use Rattle.solo_cli.proofs.Statuses.{no_cause}
use Rattle.solo_cli.proofs.WordNumbers.{has-number}
use Rattle.solo_cli.proofs.command.top.Goals as goal

pub run-requires-clause-number : goal.run-requires-clause-number
run-requires-clause-number g c = λ lives outlives.
    subst HasNumber (sym c.command_of-command.ensures) (has-number (map (λ word. string_bytes word) c.args.words.now))

pub returns-clause-output : goal.returns-clause-output
returns-clause-output g c = λ bytes found is told files input output.
    let a = c.args in
    let done = c.run.result in
    let before = kit g.S.Source g.Y.Source g.K.Sink g.T.Sink g.F.Area g.I.Area g.O.Area a.deck a.keys a.paper a.console a.files a.input a.output in
    let after = kit_after g.S.Source g.Y.Source g.K.Sink g.T.Sink g.F.Area g.I.Area g.O.Area done in
    let does = subst (λ asked. DoesItsWork asked before after done.cause) (c.command_of-command.ensures ∙ is) c.run.ensures.finishes.does in
    gains-same _ _ _ _ _ _ _ _ refl refl refl (λ zero. no_cause done.cause (sym c.run.ensures.status ∙ zero))
    (does.0.prints bytes found told files record { input = input; output = output })

pub returns-clause-complete : goal.returns-clause-complete
returns-clause-complete g c = λ some nothing.
    let a = c.args in
    let done = c.run.result in
    let before = kit g.S.Source g.Y.Source g.K.Sink g.T.Sink g.F.Area g.I.Area g.O.Area a.deck a.keys a.paper a.console a.files a.input a.output in
    let after = kit_after g.S.Source g.Y.Source g.K.Sink g.T.Sink g.F.Area g.I.Area g.O.Area done in
    let all = subst (λ asked. Finishes asked before after done.cause) c.command_of-command.ensures c.run.ensures.finishes in
    rw c.run.ensures.status
    (completes before after (asked a.words.now) done.cause some nothing record {
      deck = c.requires.deck;
      keys = c.requires.keys;
      files = c.requires.files;
      input = c.requires.input;
      output = c.requires.output;
    } all.does all.answers)
