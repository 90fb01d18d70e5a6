use Rattle.std.proofs.Common.{refl, subst, ◌∷◌, [], codes}
use Rattle.std.specs.FinMap as fin
use Rattle.disk_layout.specs.Files.{files as file_map}
use Rattle.program_task.specs.Task.{Gives, prints_all}
use Rattle.solo_task.specs.Answers.{answers}
use Rattle.solo_task.specs.Copying.{copier, copies_file}
use Rattle.file_commands.specs.Stores.{ToPrint}
use Rattle.session_work.proofs.Answering.{same-work, refused-doing, answered-by}
use Rattle.session_work.proofs.Copying.{printed-file, answered-file}
use Rattle.session_work.proofs.session.Session.print_file.Goals as goal

pub returns-in-Ok-Lines-clause-worked : goal.returns-in-Ok-Lines-clause-worked
returns-in-Ok-Lines-clause-worked g c =
    let before = g.A.Area.pages c.args.files.now.area in
    let after = g.A.Area.pages c.lines_to_print.new.files.area in
    same-work 0 [] (λ all. copies_file (fin.get all c.args.from.now) all c.args.to.now) (λ all. prints_all c.in-Ok-Lines.lines (answers copier (codes "OK")))
    before after c.print_lines.result c.print_lines.new.self after c.lines_to_print.ensures.left
    (λ told here. printed-file (fin.get (file_map told) c.args.from.now) (file_map told) c.args.to.now c.in-Ok-Lines.lines c.requires.printer
    (subst (ToPrint (fin.get (file_map told) c.args.from.now)) c.in-Ok-Lines.field-0-is (c.in-Ok-Lines.ensures.told told here)))
    (c.print_lines.ensures.worked after 0 [] c.requires.paper)

pub returns-in-Ok-Answer-clause-worked : goal.returns-in-Ok-Answer-clause-worked
returns-in-Ok-Answer-clause-worked g c =
    let before = g.A.Area.pages c.args.files.now.area in
    let after = g.A.Area.pages c.lines_to_print.new.files.area in
    same-work 0 [] (λ all. copies_file (fin.get all c.args.from.now) all c.args.to.now) (λ all. Gives (c.in-Ok-Answer.line ∷ [])) before after
    c.answer.result c.answer.new.self after c.lines_to_print.ensures.left
    (λ told here. answered-file (fin.get (file_map told) c.args.from.now) (file_map told) c.args.to.now c.in-Ok-Answer.line c.requires.printer
    (subst (ToPrint (fin.get (file_map told) c.args.from.now)) c.in-Ok-Answer.field-0-is (c.in-Ok-Answer.ensures.told told here)))
    (c.answer.ensures.worked after after (λ all. Gives (c.in-Ok-Answer.line ∷ [])) 0 [] c.requires.paper
    (λ told here. answered-by told c.in-Ok-Answer.line c.in-Ok-Answer.line after refl here))

pub returns-in-Err-clause-worked : goal.returns-in-Err-clause-worked
returns-in-Err-clause-worked g c =
    rw c.as_work.ensures (refused-doing 0 [] (λ all. copies_file (fin.get all c.args.from.now) all c.args.to.now) c.args.self.now (g.A.Area.pages c.args.files.now.area) (g.A.Area.pages c.lines_to_print.new.files.area) c.in-Err.fault
    c.lines_to_print.ensures.left)
