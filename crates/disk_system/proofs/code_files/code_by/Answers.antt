use Rattle.std.proofs.Common.{◌∙◌, subst, sym}
use Rattle.disk_layout.specs.declared.kind.FileKind.TheVariants.{SeqCode}
use Rattle.disk_contents.specs.Loading.{loaded_by}
use Rattle.disk_system.specs.Loading.{LoadsSo}
use Rattle.disk_contents.specs.Contents.{file_bytes}
use Rattle.disk_system.proofs.Loads.{loads_so}
use Rattle.disk_system.proofs.code_files.code_by.Goals as goal

pub returns-in-Ok-clause-program : goal.returns-in-Ok-clause-program
returns-in-Ok-clause-program g c = λ pages file told found many.
    let read = c.deref.ensures.value ∙ c.in-Ok.ensures.bytes pages file told found many in
    subst (λ kind. LoadsSo c.verified.result (loaded_by kind (file_bytes file))) (sym c.in-SeqCode.is)
    (subst (λ bytes. LoadsSo c.verified.result (loaded_by SeqCode bytes)) read
    (loads_so c.deref.result.now c.verified.result c.verified.ensures.bytes c.verified.ensures.loads c.verified.ensures.only))
