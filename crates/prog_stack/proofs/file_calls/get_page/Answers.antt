use Rattle.std.proofs.Common.{sym, ◌∙◌, subst}
use Rattle.std.specs.Prelude.{IfOk}
use Rattle.disk_layout.specs.Files.{files as file_map}
use Rattle.program_task.specs.OpenFiles.{gets}
use Rattle.prog_stack.specs.FileCalls.{OfFile}
use Rattle.prog_stack.proofs.FileRows.{number_is, not_got}
use Rattle.prog_stack.proofs.file_calls.get_page.Goals as goal

pub returns-in-Ok-clause-fits : goal.returns-in-Ok-clause-fits
returns-in-Ok-clause-fits g c = λ f. c.page_reply.ensures.fits f c.args.p.now

pub returns-in-Err-clause-told : goal.returns-in-Err-clause-told
returns-in-Err-clause-told g c = λ pages told.
    subst (λ r. IfOk r (λ reply. OfFile (gets c.args.p.now) c.args.name.now (file_map pages) reply)) (sym c.refused.ensures)
    (not_got c.args.p.now c.in-Some.n c.args.name.now (file_map pages) c.read_page.result c.in-Err.fault
    (number_is c.args.p.now c.in-Some.n (sym c.number_of.ensures ∙ c.in-Some.is)) c.in-Err.is (c.read_page.ensures.answer pages told))
