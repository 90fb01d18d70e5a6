use Rattle.std.proofs.Common.{sym, ◌∙◌, ap, subst}
use Rattle.std.specs.Prelude.{if◌then◌else◌}
use Rattle.std.specs.FinMap as fin
use Rattle.disk_layout.specs.Files.{File, files as file_map}
use Rattle.disk_contents.specs.Contents.{file_bytes}
use Rattle.solo_task.specs.Copying.{copies_file, stores_file, prints_file}
use Rattle.file_commands.specs.Settling.{IsAnsweredSo}
use Rattle.file_commands.proofs.Copies.{found-one}
use Rattle.file_commands.proofs.copying.copy_file.Goals as goal

pub returns-in-Ok-Some-clause-told : goal.returns-in-Ok-Some-clause-told
returns-in-Ok-Some-clause-told g c = λ pages told.
    let (file, here, is) = found-one (fin.get (file_map pages) c.args.from.now) c.in-Ok-Some.info
    (sym c.in-Ok-Some.field-0-is ∙ c.in-Ok-Some.ensures.found pages told) in
    let same = ap (λ o. copies_file o (file_map pages) c.args.to.now) here
    ∙ ap (λ b. if b then prints_file file.kind (file_bytes file) else stores_file file (file_map pages) c.args.to.now (fin.get (file_map pages) c.args.to.now))
    c.requires.file in
    subst (λ doing. IsAnsweredSo doing pages c.copy_found.result (g.A.Area.pages c.copy_found.new.files.area)) (sym same)
    (c.copy_found.ensures.told pages file (c.find.ensures.left ∙ told) here is)
