use Rattle.std.proofs.Common.{refl}
use Rattle.solo_task.specs.Copying.{prints_text}
use Rattle.session_work.proofs.Answering.{lacks-doing, text-printed}
use Rattle.session_work.proofs.session.Session.print_text.Goals as goal

pub returns-in-Ok-clause-worked : goal.returns-in-Ok-clause-worked
returns-in-Ok-clause-worked c = λ before pages hand is.
    text-printed pages hand c.args.text.now c.in-Ok.lines c.print_lines.result c.print_lines.new.self before c.in-Ok.ensures
    (c.print_lines.ensures.worked before pages hand is)

pub returns-in-Err-clause-worked : goal.returns-in-Err-clause-worked
returns-in-Err-clause-worked c = λ before pages hand is. lacks-doing pages hand (λ all. prints_text c.args.text.now) c.args.self.now before before refl
