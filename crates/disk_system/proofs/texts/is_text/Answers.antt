use Rattle.std.proofs.Common.{◌∙◌, sym}
use Rattle.std.proofs.lemmas.Bool.{eq-eqb, eqb-true, false≢true}
use Rattle.disk_system.proofs.Stored.{ends_late, ends_nowhere}
use Rattle.disk_system.proofs.texts.is_text.Goals as goal

pub returns-clause-yes : goal.returns-clause-yes
returns-clause-yes c = λ e. ends_late c.args.text.now (sym c.text_length.ensures ∙ eqb-true _ _ e)

pub returns-clause-not : goal.returns-clause-not
returns-clause-not c = λ e is. false≢true (sym e ∙ eq-eqb _ _ (c.text_length.ensures ∙ ends_nowhere c.args.text.now is))
