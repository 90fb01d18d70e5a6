use Rattle.session_work.proofs.cards.code_of_text.Goals as goal

pub returns-in-Ok-clause-code : goal.returns-in-Ok-clause-code
returns-in-Ok-clause-code c = c.code_of_cards.ensures.code c.args.text.now c.in-Ok.ensures

pub returns-in-Ok-clause-fault : goal.returns-in-Ok-clause-fault
returns-in-Ok-clause-fault c = c.code_of_cards.ensures.fault c.args.text.now c.in-Ok.ensures
