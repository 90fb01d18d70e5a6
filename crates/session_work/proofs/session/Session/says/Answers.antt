use Rattle.std.proofs.Common.{refl, ap, ◌∷◌, [], ◌∙◌, ◌++◌}
use Rattle.program_task.specs.Task.{Gives}
use Rattle.session_work.proofs.Answering.{answered-by}
use Rattle.session_work.proofs.session.Session.says.Goals as goal

pub returns-clause-worked : goal.returns-clause-worked
returns-clause-worked c = λ before pages hand is.
    c.answer.ensures.worked before before (λ all. Gives (c.args.text.now ∷ [])) pages hand is
    (λ told here. answered-by told c.args.text.now c.append.new.self before (c.append.ensures ∙ ap (λ l. l ++ c.args.text.now) c.new-line.ensures) here)
