use Rattle.std.proofs.Common.{refl, []}
use Rattle.disk_layout.specs.Files.{files as file_map}
use Rattle.solo_task.specs.Doing.{lists}
use Rattle.session_work.proofs.Answering.{settled-by, refused-as}
use Rattle.session_work.proofs.session.Session.list.Goals as goal

pub returns-in-Ok-clause-worked : goal.returns-in-Ok-clause-worked
returns-in-Ok-clause-worked g c =
    settled-by 0 [] c.in-Ok.lines c.in-Ok.lines (λ all. lists all) c.end.result c.end.new.self (g.A.Area.pages c.args.files.now.area) (g.A.Area.pages c.list.new.files.area) refl
    (λ told here. c.in-Ok.ensures.told told here) (c.end.ensures.worked (g.A.Area.pages c.list.new.files.area) 0 [] c.requires.paper)

pub returns-in-Err-clause-worked : goal.returns-in-Err-clause-worked
returns-in-Err-clause-worked g c =
    rw c.as_work.ensures (refused-as 0 [] (λ all. lists all) c.args.self.now (g.A.Area.pages c.args.files.now.area) (g.A.Area.pages c.list.new.files.area) c.in-Err.fault
    (λ told here. c.in-Err.ensures.told told here))
