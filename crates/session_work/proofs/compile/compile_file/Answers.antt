use Rattle.std.proofs.Common.{sym, ap, subst, ◌∙◌}
use Rattle.std.specs.FinMap as fin
use Rattle.disk_layout.specs.Files.{files as file_map}
use Rattle.solo_task.specs.Compiles.{compiles_from}
use Rattle.file_commands.specs.Settling.{IsAnsweredSo}
use Rattle.file_commands.proofs.Copies.{found-one}
use Rattle.session_work.proofs.compile.compile_file.Goals as goal

pub returns-in-Ok-Some-clause-told : goal.returns-in-Ok-Some-clause-told
returns-in-Ok-Some-clause-told g c = λ pages told.
    let (file, here, is) = found-one (fin.get (file_map pages) c.args.from.now) c.in-Ok-Some.field-0-0
    (sym c.in-Ok-Some.field-0-is ∙ c.in-Ok-Some.ensures.found pages told) in
    subst (λ doing. IsAnsweredSo doing pages c.compile_found.result (g.A.Area.pages c.compile_found.new.files.area))
    (sym (ap (λ o. compiles_from o (file_map pages) c.args.to.now) here))
    (c.compile_found.ensures.told pages file (c.find.ensures.left ∙ told) here)
