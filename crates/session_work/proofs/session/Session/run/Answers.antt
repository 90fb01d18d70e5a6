use Rattle.std.proofs.Common.{refl, sym, ap, subst, ◌∙◌, ◌∷◌, [], Ok}
use Rattle.disk_layout.specs.Files.{files as file_map}
use Rattle.solo_commands.specs.declared.command.Command.TheVariants as command
use Rattle.program_task.specs.Task.{Gives}
use Rattle.solo_task.specs.Doing.{does}
use Rattle.program_run.specs.Work.{Begins}
use Rattle.session_work.proofs.Answering.{same-work, refused-doing, answered-by}
use Rattle.session_work.proofs.Programs.{begun-so, begun-answer}
use Rattle.session_work.proofs.session.Session.run.Goals as goal

pub returns-in-Ok-Runs-clause-worked : goal.returns-in-Ok-Runs-clause-worked
returns-in-Ok-Runs-clause-worked g c =
    let begun = subst (λ r. Begins c.args.name.now c.copied.result (g.A.Area.pages c.args.files.now.area) (Ok r)) c.in-Ok-Runs.field-0-is c.in-Ok-Runs.ensures.begun in
    begun-so c.args.name.now c.args.args.now c.copied.result (g.A.Area.pages c.args.files.now.area) (g.A.Area.pages c.begin.new.files.area) (g.A.Area.pages c.run_on.new.files.area)
    c.in-Ok-Runs.program c.run_on.result c.run_on.new.self c.copied.ensures c.begin.ensures.left begun.1 (c.run_on.ensures.worked 0 [] c.requires.paper)

pub returns-in-Ok-Answer-clause-worked : goal.returns-in-Ok-Answer-clause-worked
returns-in-Ok-Answer-clause-worked g c =
    let after = g.A.Area.pages c.begin.new.files.area in
    let begun = subst (λ r. Begins c.args.name.now c.copied.result (g.A.Area.pages c.args.files.now.area) (Ok r)) c.in-Ok-Answer.field-0-is c.in-Ok-Answer.ensures.begun in
    same-work 0 [] (λ all. does (command.Program c.args.name.now c.args.args.now) all) (λ all. Gives (c.in-Ok-Answer.line ∷ [])) (g.A.Area.pages c.args.files.now.area) after
    c.answer.result c.answer.new.self after c.begin.ensures.left
    (λ told here. begun-answer c.args.name.now c.args.args.now c.copied.result told c.in-Ok-Answer.line c.copied.ensures (begun told here))
    (c.answer.ensures.worked after after (λ all. Gives (c.in-Ok-Answer.line ∷ [])) 0 [] c.requires.paper
    (λ told here. answered-by told c.in-Ok-Answer.line c.in-Ok-Answer.line after refl here))

pub returns-in-Err-clause-worked : goal.returns-in-Err-clause-worked
returns-in-Err-clause-worked g c =
    rw c.as_work.ensures (refused-doing 0 [] (λ all. does (command.Program c.args.name.now c.args.args.now) all) c.args.self.now (g.A.Area.pages c.args.files.now.area) (g.A.Area.pages c.begin.new.files.area) c.in-Err.fault c.begin.ensures.left)
