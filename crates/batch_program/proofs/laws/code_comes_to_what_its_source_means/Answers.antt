use Rattle.std.proofs.Common.{subst}
use Rattle.solo_base.specs.Text.{text}
use Rattle.batch_program.specs.Outcome.{RunsOn, meaning_so_far}
use Rattle.batch_program.specs.Told.{IsTold}
use Rattle.batch_program.proofs.MoreCards.{given_first}
use Rattle.batch_program.proofs.Bytes.{text_is_bytes}
use Rattle.batch_program.proofs.Source.{reaches_meaning, comes_to_meaning, comes_to_ending}
use Rattle.batch_program.proofs.laws.code_comes_to_what_its_source_means.Goals as goal

pub returns-clause-reaches : goal.returns-clause-reaches
returns-clause-reaches c = λ w p means lines. reaches_meaning w.code p w.limit (text w.cards) w.closed means (text_is_bytes w.cards lines)

pub returns-clause-tells : goal.returns-clause-tells
returns-clause-tells c =
    λ w p given t means lines tells.
    subst (λ o. IsTold given o t) (comes_to_meaning w.code p w.limit (text w.cards) w.closed tells.outcome means (text_is_bytes w.cards lines) tells.comes)
    tells.is_told

pub returns-clause-given : goal.returns-clause-given
returns-clause-given c =
    λ r w p given means at.
    given_first r w given (meaning_so_far p w.limit w.cards w.closed) at
    (reaches_meaning w.code p w.limit (text w.cards) w.closed means (text_is_bytes w.cards at.cards))

pub returns-clause-meaning : goal.returns-clause-meaning
returns-clause-meaning c =
    λ w p outcome means lines runs. comes_to_meaning w.code p w.limit (text w.cards) w.closed outcome means (text_is_bytes w.cards lines) runs

pub returns-clause-ending : goal.returns-clause-ending
returns-clause-ending c =
    λ w p outcome means lines closed runs.
    comes_to_ending w.code p w.limit w.cards outcome means (text_is_bytes w.cards lines)
    (subst (λ b. RunsOn w.code w.limit (text w.cards) b outcome) closed runs)
