use Rattle.std.proofs.Common.{refl, ap, ◌∷◌, []}
use Rattle.std.specs.Prelude.{codes}
use Rattle.disk_layout.specs.Files.{files as file_map}
use Rattle.program_task.specs.Task.{Gives}
use Rattle.solo_commands.specs.Commands.{line_says}
use Rattle.solo_task.specs.Doing.{done_if, line_does}
use Rattle.solo_task.specs.Needs.{or_idle}
use Rattle.session_work.proofs.Answering.{same-work}
use Rattle.session_work.proofs.session.Session.begin.Goals as goal

pub returns-in-Line-clause-worked : goal.returns-in-Line-clause-worked
returns-in-Line-clause-worked g c =
    same-work 0 [] (λ all. or_idle (line_does c.args.item.now all)) (λ all. or_idle (done_if (line_says c.in-Line.line) all)) (g.A.Area.pages c.args.files.now.area) (g.A.Area.pages c.args.files.now.area)
    c.begin_line.result c.begin_line.new.self (g.A.Area.pages c.begin_line.new.files.area) refl
    (λ told here. ap (λ i. or_idle (line_does i (file_map told))) c.in-Line.is) c.begin_line.ensures.worked

pub returns-in-Spoiled-clause-worked : goal.returns-in-Spoiled-clause-worked
returns-in-Spoiled-clause-worked g c =
    same-work 0 [] (λ all. or_idle (line_does c.args.item.now all)) (λ all. Gives (codes "BAD COMMAND" ∷ [])) (g.A.Area.pages c.args.files.now.area) (g.A.Area.pages c.args.files.now.area)
    c.says.result c.says.new.self (g.A.Area.pages c.args.files.now.area) refl
    (λ told here. ap (λ i. or_idle (line_does i (file_map told))) c.in-Spoiled.is) (c.says.ensures.worked (g.A.Area.pages c.args.files.now.area) 0 [] c.requires.paper)
