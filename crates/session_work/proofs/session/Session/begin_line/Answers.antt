use Rattle.std.proofs.Common.{refl, sym, ap, ◌∙◌, ◌∷◌, [], Ok}
use Rattle.std.specs.Prelude.{codes}
use Rattle.disk_layout.specs.Files.{files as file_map}
use Rattle.program_task.specs.Task.{Gives}
use Rattle.solo_commands.specs.Commands.{line_says, as_said}
use Rattle.solo_task.specs.Doing.{does, done_if}
use Rattle.solo_task.specs.Needs.{or_idle}
use Rattle.session_work.proofs.Answering.{same-work}
use Rattle.session_work.proofs.session.Session.begin_line.Goals as goal

pub returns-in-Ok-Some-clause-worked : goal.returns-in-Ok-Some-clause-worked
returns-in-Ok-Some-clause-worked g c =
    same-work 0 [] (λ all. or_idle (done_if (line_says c.args.line.now) all)) (λ all. does c.in-Ok-Some.command all) (g.A.Area.pages c.args.files.now.area) (g.A.Area.pages c.args.files.now.area)
    c.command.result c.command.new.self (g.A.Area.pages c.command.new.files.area) refl
    (λ told here. ap (λ s. or_idle (done_if s (file_map told)))
    (sym c.in-Ok-Some.ensures ∙ ap (λ o. as_said (Ok o)) c.in-Ok-Some.field-0-is)) c.command.ensures.worked

pub returns-in-Ok-None-clause-worked : goal.returns-in-Ok-None-clause-worked
returns-in-Ok-None-clause-worked g c =
    same-work 0 [] (λ all. or_idle (done_if (line_says c.args.line.now) all)) (λ all. Gives c.new.result) (g.A.Area.pages c.args.files.now.area) (g.A.Area.pages c.args.files.now.area)
    (Ok c.end.result) c.end.new.self (g.A.Area.pages c.args.files.now.area) refl
    (λ told here. ap (λ s. or_idle (done_if s (file_map told)))
    (sym c.in-Ok-None.ensures ∙ ap (λ o. as_said (Ok o)) c.in-Ok-None.field-0-is) ∙ ap (λ ls. Gives ls) (sym c.new.ensures))
    (c.end.ensures.worked (g.A.Area.pages c.args.files.now.area) 0 [] c.requires.paper)

pub returns-in-Err-clause-worked : goal.returns-in-Err-clause-worked
returns-in-Err-clause-worked g c =
    same-work 0 [] (λ all. or_idle (done_if (line_says c.args.line.now) all)) (λ all. Gives (codes "BAD COMMAND" ∷ [])) (g.A.Area.pages c.args.files.now.area) (g.A.Area.pages c.args.files.now.area)
    c.says.result c.says.new.self (g.A.Area.pages c.args.files.now.area) refl
    (λ told here. ap (λ s. or_idle (done_if s (file_map told))) (sym c.in-Err.ensures)) (c.says.ensures.worked (g.A.Area.pages c.args.files.now.area) 0 [] c.requires.paper)
