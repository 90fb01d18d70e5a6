use Rattle.std.proofs.Common.{sym, subst, ◌∙◌}
use Rattle.std.specs.FinMap as fin
use Rattle.disk_layout.specs.Files.{files as file_map}
use Rattle.solo_task.specs.Compiles.{compiles_to}
use Rattle.file_commands.specs.Settling.{IsAnsweredSo}
use Rattle.file_commands.proofs.Copies.{found-none}
use Rattle.session_work.proofs.compile.compile_found.Goals as goal

pub returns-in-Ok-None-clause-told : goal.returns-in-Ok-None-clause-told
returns-in-Ok-None-clause-told g c = λ pages file told here.
    let new = found-none (fin.get (file_map pages) c.args.to.now) (sym c.in-Ok-None.field-0-is ∙ c.in-Ok-None.ensures.found pages told) in
    subst (λ o. IsAnsweredSo (compiles_to file (file_map pages) c.args.to.now o) pages c.compile_new.result
    (g.A.Area.pages c.compile_new.new.files.area)) (sym new)
    (c.compile_new.ensures.told pages file (c.find.ensures.left ∙ told) (c.find.ensures.solo pages told) here new)
