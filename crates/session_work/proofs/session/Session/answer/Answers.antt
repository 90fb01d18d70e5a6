use Rattle.std.proofs.Common.{refl, sym, ap, subst, ◌∙◌, ◌∷◌, [], ◌++◌}
use Rattle.disk_layout.specs.Files.{files as file_map}
use Rattle.file_commands.specs.Settling.{IsAnsweredSo}
use Rattle.session_work.proofs.Answering.{settled-by, settled-among, not-done}
use Rattle.session_work.proofs.session.Session.answer.Goals as goal

pub returns-in-Ok-push-clause-worked : goal.returns-in-Ok-push-clause-worked
returns-in-Ok-push-clause-worked c = λ before after doing pages hand is answers.
    settled-by pages hand (c.in-Ok.line ∷ []) c.push.new.self doing c.end.result c.end.new.self before after
    (c.in-Ok-push.ensures.ok ∙ ap (λ ls. ls ++ c.in-Ok.line ∷ []) c.new-answers.ensures)
    (λ told here. subst (λ r. IsAnsweredSo (doing (file_map told)) told r after) c.in-Ok.is (answers told here))
    (c.end.ensures.worked after pages hand is)

pub returns-in-Err-push-clause-worked : goal.returns-in-Err-push-clause-worked
returns-in-Err-push-clause-worked c = λ before after doing pages hand is answers.
    settled-among pages hand (c.in-Ok.line ∷ []) doing c.args.self.now before after
    (λ told here. subst (λ r. IsAnsweredSo (doing (file_map told)) told r after) c.in-Ok.is (answers told here))

pub returns-in-Err-clause-worked : goal.returns-in-Err-clause-worked
returns-in-Err-clause-worked c = λ before after doing pages hand is answers.
    rw c.as_work.ensures (not-done pages hand doing c.args.self.now before after c.in-Err.fault
    (λ told here. subst (λ r. IsAnsweredSo (doing (file_map told)) told r after) c.in-Err.is (answers told here)))
