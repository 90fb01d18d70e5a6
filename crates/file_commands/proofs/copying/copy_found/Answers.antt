use Rattle.std.proofs.Common.{sym, ◌∙◌, subst}
use Rattle.std.specs.FinMap as fin
use Rattle.disk_layout.specs.Files.{File, files as file_map}
use Rattle.solo_task.specs.Copying.{stores_file}
use Rattle.file_commands.specs.Settling.{IsAnsweredSo}
use Rattle.file_commands.proofs.Copies.{found-none}
use Rattle.file_commands.proofs.copying.copy_found.Goals as goal

pub returns-in-Ok-None-clause-told : goal.returns-in-Ok-None-clause-told
returns-in-Ok-None-clause-told g c = λ pages file told here is.
    let new = found-none (fin.get (file_map pages) c.args.to.now) (sym c.in-Ok-None.field-0-is ∙ c.in-Ok-None.ensures.found pages told) in
    subst (λ o. IsAnsweredSo (stores_file file (file_map pages) c.args.to.now o) pages c.store_copy.result
    (g.A.Area.pages c.store_copy.new.files.area)) (sym new)
    (c.store_copy.ensures.told pages file (c.find.ensures.left ∙ told) (c.find.ensures.solo pages told) here is new)
