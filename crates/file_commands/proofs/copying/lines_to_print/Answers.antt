use Rattle.std.proofs.Common.{sym, ◌∙◌, subst, Option}
use Rattle.std.specs.Prelude.{IfOk}
use Rattle.std.specs.FinMap as fin
use Rattle.disk_layout.specs.Files.{File, files as file_map}
use Rattle.file_commands.specs.Stores.{ToPrint}
use Rattle.file_commands.proofs.Copies.{found-one}
use Rattle.file_commands.proofs.copying.lines_to_print.Goals as goal

pub returns-in-Ok-Some-clause-told : goal.returns-in-Ok-Some-clause-told
returns-in-Ok-Some-clause-told g c = λ pages told.
    let (file, here, is) = found-one (fin.get (file_map pages) c.args.from.now) c.in-Ok-Some.info
    (sym c.in-Ok-Some.field-0-is ∙ c.in-Ok-Some.ensures.found pages told) in
    subst (λ (found : Option File). IfOk c.lines_of_found.result (ToPrint found)) (sym here)
    (c.lines_of_found.ensures.told pages file (c.find.ensures.left ∙ told) here is)
