use Rattle.std.proofs.Common.{refl, sym, ap, ◌∙◌, ◌∷◌, []}
use Rattle.disk_layout.specs.Files.{files as file_map}
use Rattle.solo_base.specs.Text.{text}
use Rattle.program_task.specs.Task.{Gives}
use Rattle.solo_task.specs.Copying.{with_cards, prints_text}
use Rattle.session_work.specs.Pausing.{prints_cards}
use Rattle.session_work.proofs.Answering.{same-work, lacks-doing, answered-by}
use Rattle.session_work.proofs.Copying.{spoiled-so, sound-so}
use Rattle.session_work.proofs.session.Session.print_cards.Goals as goal

pub returns-then-spoiled-clause-worked : goal.returns-then-spoiled-clause-worked
returns-then-spoiled-clause-worked c = λ before pages hand is.
    same-work pages hand (λ all. with_cards prints_cards (record { cards = c.args.cards.now; spoiled = c.args.spoiled })) (λ all. Gives (c.answer_line.result ∷ []))
    before before c.answer.result c.answer.new.self before refl
    (λ told here. spoiled-so prints_cards c.args.cards.now c.args.spoiled c.if-spoiled.true ∙ ap (λ l. Gives (l ∷ [])) (sym c.answer_line.ensures))
    (c.answer.ensures.worked before before (λ all. Gives (c.answer_line.result ∷ [])) pages hand is
    (λ told here. answered-by told c.answer_line.result c.answer_line.result before refl here))

pub returns-in-Ok-clause-worked : goal.returns-in-Ok-clause-worked
returns-in-Ok-clause-worked c = λ before pages hand is.
    same-work pages hand (λ all. with_cards prints_cards (record { cards = c.args.cards.now; spoiled = c.args.spoiled })) (λ all. prints_text c.deref.result.now)
    before before c.print_text.result c.print_text.new.self before refl
    (λ told here. sound-so prints_cards c.args.cards.now c.args.spoiled c.if-spoiled.false
    ∙ ap prints_text (sym (c.deref.ensures.value ∙ c.in-Ok.ensures.text)))
    (c.print_text.ensures.worked before pages hand is)

pub returns-in-Err-clause-worked : goal.returns-in-Err-clause-worked
returns-in-Err-clause-worked c = λ before pages hand is. lacks-doing pages hand (λ all. with_cards prints_cards (record { cards = c.args.cards.now; spoiled = c.args.spoiled })) c.args.self.now before before refl
