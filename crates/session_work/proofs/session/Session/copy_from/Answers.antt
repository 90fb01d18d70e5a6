use Rattle.std.proofs.Common.{refl, sym, ◌∙◌, []}
use Rattle.std.specs.FinMap as fin
use Rattle.disk_layout.specs.Files.{files as file_map}
use Rattle.solo_task.specs.Copying.{copies_file}
use Rattle.session_work.proofs.session.Session.copy_from.Goals as goal

pub returns-then-is_printer-clause-worked : goal.returns-then-is_printer-clause-worked
returns-then-is_printer-clause-worked g c = c.print_file.ensures.worked

pub returns-clause-worked : goal.returns-clause-worked
returns-clause-worked g c =
    c.answer.ensures.worked (g.A.Area.pages c.args.files.now.area) (g.A.Area.pages c.copy_file-copied.new.files.area)
    (λ all. copies_file (fin.get all c.args.from.now) all c.args.to.now) 0 [] c.requires.paper (λ told here. c.copy_file-copied.ensures.told told here)
