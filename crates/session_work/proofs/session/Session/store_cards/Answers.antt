use Rattle.std.proofs.Common.{◌≡◌, refl, sym, ap, ◌∷◌, [], None}
use Rattle.std.specs.FinMap as fin
use Rattle.disk_layout.specs.Files.{files as file_map}
use Rattle.disk_contents.specs.Contents.{text_file}
use Rattle.program_task.specs.Task.{Gives}
use Rattle.solo_task.specs.Copying.{copier, with_cards}
use Rattle.solo_task.specs.Answers.{stores}
use Rattle.solo_task.specs.Needs.{comes_to}
use Rattle.session_work.specs.Pausing.{stores_these}
use Rattle.session_work.proofs.Answering.{lacks-memory}
use Rattle.session_work.proofs.Storing.{spoiled-store, stored-cards}
use Rattle.session_work.proofs.session.Session.store_cards.Goals as goal

pub returns-then-spoiled-clause-worked : goal.returns-then-spoiled-clause-worked
returns-then-spoiled-clause-worked g c = λ pages hand is.
    spoiled-store pages hand c.args.to.now c.args.cards.now c.args.spoiled c.answer_line.result (g.A.Area.pages c.args.files.now.area) c.answer.result
    c.answer.new.self c.if-spoiled.true c.answer_line.ensures
    (λ asked doing answers. c.answer.ensures.worked asked (g.A.Area.pages c.args.files.now.area) doing pages hand is answers)

pub returns-in-Ok-clause-worked : goal.returns-in-Ok-clause-worked
returns-in-Ok-clause-worked g c = λ pages hand is.
    stored-cards pages hand c.args.to.now c.args.cards.now c.in-Ok.text.items c.args.spoiled (g.A.Area.pages c.args.files.now.area)
    (g.A.Area.pages c.store_cards-stored.new.files.area) c.store_cards-stored.result c.answer-in-Ok.result c.answer-in-Ok.new.self c.if-spoiled.false
    c.in-Ok.ensures.text c.store_cards-stored.ensures.told
    (λ asked doing answers. c.answer-in-Ok.ensures.worked asked (g.A.Area.pages c.store_cards-stored.new.files.area) doing pages hand is answers)

pub returns-in-Err-clause-worked : goal.returns-in-Err-clause-worked
returns-in-Err-clause-worked g c = λ pages hand is. lacks-memory pages (λ all c0. (fin.get all c.args.to.now ≡ None) × (c0 ≡ comes_to hand all (with_cards (stores_these all c.args.to.now) (record { cards = c.args.cards.now; spoiled = c.args.spoiled })))) c.args.self.now (g.A.Area.pages c.args.files.now.area) (g.A.Area.pages c.args.files.now.area) refl
