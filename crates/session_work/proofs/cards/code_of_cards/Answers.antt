use Rattle.std.proofs.Common.{refl, sym, ◌∙◌}
use Rattle.session_work.proofs.CardLines.{compiled-if, refused-if, bad-if}
use Rattle.session_work.proofs.cards.code_of_cards.Goals as goal

pub returns-then-is_empty-clause-code : goal.returns-then-is_empty-clause-code
returns-then-is_empty-clause-code c = λ text so.
    compiled-if text c.args.cards.now c.args.left.now.line c.args.left.now.rest.now c.compile.result (sym c.is_empty.ensures ∙ c.if-is_empty.true) so
    c.compile.ensures.code

pub returns-then-is_empty-clause-fault : goal.returns-then-is_empty-clause-fault
returns-then-is_empty-clause-fault c = λ text so.
    refused-if text c.args.cards.now c.args.left.now.line c.args.left.now.rest.now c.compile.result (sym c.is_empty.ensures ∙ c.if-is_empty.true) so
    c.compile.ensures.fault

pub returns-in-Ok-clause-fault : goal.returns-in-Ok-clause-fault
returns-in-Ok-clause-fault c = λ text so.
    bad-if text c.args.cards.now c.close_comment.new.cards c.args.left.now.line c.args.left.now.rest.now c.first_bad_word.result
    (sym c.is_empty.ensures ∙ c.if-is_empty.false) so c.in-Ok.ensures c.first_bad_word.ensures
