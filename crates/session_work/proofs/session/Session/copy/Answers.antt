use Rattle.std.proofs.Common.{refl, sym, ◌∙◌, []}
use Rattle.std.specs.FinMap as fin
use Rattle.disk_layout.specs.Files.{files as file_map}
use Rattle.solo_task.specs.Copying.{copies, copies_cards, copies_file}
use Rattle.session_work.proofs.Answering.{same-work}
use Rattle.session_work.proofs.Copying.{from-cards, from-file}
use Rattle.session_work.proofs.session.Session.copy.Goals as goal

pub returns-then-is_cards-clause-worked : goal.returns-then-is_cards-clause-worked
returns-then-is_cards-clause-worked g c =
    same-work 0 [] (λ all. copies all c.args.from.now c.args.to.now) (λ all. copies_cards all c.args.to.now) (g.A.Area.pages c.args.files.now.area)
    (g.A.Area.pages c.args.files.now.area) c.copy_cards.result c.copy_cards.new.self (g.A.Area.pages c.copy_cards.new.files.area) refl
    (λ told here. from-cards (file_map told) c.args.from.now c.args.to.now (sym c.is_cards.ensures ∙ c.if-is_cards.true)) c.copy_cards.ensures.worked

pub returns-clause-worked : goal.returns-clause-worked
returns-clause-worked g c =
    same-work 0 [] (λ all. copies all c.args.from.now c.args.to.now) (λ all. copies_file (fin.get all c.args.from.now) all c.args.to.now)
    (g.A.Area.pages c.args.files.now.area) (g.A.Area.pages c.args.files.now.area) c.copy_from.result c.copy_from.new.self
    (g.A.Area.pages c.copy_from.new.files.area) refl
    (λ told here. from-file (file_map told) c.args.from.now c.args.to.now (sym c.is_cards.ensures ∙ c.if-is_cards.false)) c.copy_from.ensures.worked
