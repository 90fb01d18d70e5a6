use Rattle.std.proofs.Common.{refl, sym, subst, ap, ◌∙◌, []}
use Rattle.solo_work.specs.Paper.{IsHand}
use Rattle.session_work.specs.declared.session.Session.{Session}
use Rattle.disk_layout.specs.Files.{files as file_map}
use Rattle.solo_task.specs.Answers.{file_exists}
use Rattle.solo_task.specs.Copying.{copier, copies_cards, with_cards}
use Rattle.session_work.specs.declared.session.UnderWay.TheVariants as under_way
use Rattle.session_work.specs.Pausing.{prints_cards, stores_these}
use Rattle.session_work.proofs.Answering.{same-work, awaits-cards, refused-doing, answered-by}
use Rattle.session_work.proofs.Copying.{to-printer, exists-so, new-so}
use Rattle.session_work.proofs.session.Session.copy_cards.Goals as goal

pub returns-then-is_printer-clause-worked : goal.returns-then-is_printer-clause-worked
returns-then-is_printer-clause-worked g c =
    awaits-cards (λ all. copies_cards all c.args.to.now) (λ all. with_cards prints_cards) under_way.PrintsCards c.set.new.self (g.A.Area.pages c.args.files.now.area)
    (g.A.Area.pages c.args.files.now.area) refl (ap (λ (s : Session). s.under_way) c.set.ensures)
    (subst (λ (s : Session). IsHand s.paper 0 []) (sym c.set.ensures) c.requires.paper) refl
    (λ told here. (to-printer (file_map told) c.args.to.now (sym c.is_printer.ensures ∙ c.if-is_printer.true), refl))

pub returns-in-Ok-Some-clause-worked : goal.returns-in-Ok-Some-clause-worked
returns-in-Ok-Some-clause-worked g c =
    let before = g.A.Area.pages c.args.files.now.area in
    let after = g.A.Area.pages c.find.new.files.area in
    same-work 0 [] (λ all. copies_cards all c.args.to.now) (λ all. file_exists copier) before after c.answer.result c.answer.new.self after c.find.ensures.left
    (λ told here. exists-so (file_map told) c.args.to.now _ _ (sym c.is_printer.ensures ∙ c.if-is_printer.false) c.in-Ok-Some.field-0-is
    (c.in-Ok-Some.ensures.found told here))
    (c.answer.ensures.worked after after (λ all. file_exists copier) 0 [] c.requires.paper
    (λ told here. answered-by told _ c.answer_line.result after c.answer_line.ensures here))

pub returns-in-Ok-None-clause-worked : goal.returns-in-Ok-None-clause-worked
returns-in-Ok-None-clause-worked g c =
    awaits-cards (λ all. copies_cards all c.args.to.now) (λ all. with_cards (stores_these all c.args.to.now)) (under_way.StoresCards c.args.to.now) c.set-in-Ok-None.new.self
    (g.A.Area.pages c.args.files.now.area) (g.A.Area.pages c.find.new.files.area) refl (ap (λ (s : Session). s.under_way) c.set-in-Ok-None.ensures)
    (subst (λ (s : Session). IsHand s.paper 0 []) (sym c.set-in-Ok-None.ensures) c.requires.paper) c.find.ensures.left
    (λ told here.
    let new = new-so (file_map told) c.args.to.now _ (sym c.is_printer.ensures ∙ c.if-is_printer.false) c.in-Ok-None.field-0-is
    (c.in-Ok-None.ensures.found told here) in (new.0, (new.1, refl)))

pub returns-in-Err-clause-worked : goal.returns-in-Err-clause-worked
returns-in-Err-clause-worked g c =
    rw c.as_work.ensures (refused-doing 0 [] (λ all. copies_cards all c.args.to.now) c.args.self.now (g.A.Area.pages c.args.files.now.area) (g.A.Area.pages c.find.new.files.area) c.in-Err.fault c.find.ensures.left)
