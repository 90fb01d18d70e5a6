use Rattle.std.proofs.Common.{refl, ap, ◌∙◌, ◌∷◌, [], codes}
use Rattle.program_task.specs.Task.{prints_all}
use Rattle.solo_task.specs.Answers.{answers}
use Rattle.solo_task.specs.Copying.{copier}
use Rattle.session_work.proofs.Answering.{lines-printed, lacks-doing}
use Rattle.session_work.proofs.session.Session.print_lines.Goals as goal

pub returns-in-Ok-clause-worked : goal.returns-in-Ok-clause-worked
returns-in-Ok-clause-worked c = λ before pages hand is.
    let printing = c.in-Ok.ensures in
    lines-printed pages hand c.args.lines c.in-Ok.printing c.print.result c.print.new.self before
    printing.0 printing.1 (printing.2 ∙ ap (λ l. l ∷ []) c.answer_line.ensures)
    (c.print.ensures.worked before pages hand is)

pub returns-in-Err-clause-worked : goal.returns-in-Err-clause-worked
returns-in-Err-clause-worked c = λ before pages hand is.
    lacks-doing pages hand (λ all. prints_all c.args.lines (answers copier (codes "OK"))) c.args.self.now before before refl
