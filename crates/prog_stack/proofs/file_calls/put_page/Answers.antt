use Rattle.std.proofs.Common.{sym, ◌∙◌, ap, subst}
use Rattle.std.specs.Prelude.{IfOk}
use Rattle.std.specs.FinMap as fin
use Rattle.disk_layout.specs.Files.{files as file_map}
use Rattle.prog_stack.specs.FileCalls.{PutsSo}
use Rattle.prog_stack.proofs.FileRows.{found_one, number_is, put_refused}
use Rattle.prog_stack.proofs.file_calls.put_page.Goals as goal

pub returns-in-Err-put_numbered-clause-told : goal.returns-in-Err-put_numbered-clause-told
returns-in-Err-put_numbered-clause-told g c = λ pages told.
    let found = found_one (fin.get (file_map pages) c.args.name.now) c.in-Ok-Some.info (sym c.in-Ok-Some.field-0-is ∙ c.in-Ok-Some.ensures.found pages told) in
    let still = c.find.ensures.left ∙ told in
    let after = g.A.Area.pages c.put_numbered.new.files.area in
    subst (λ r. IfOk r (λ reply. PutsSo c.args.p.now c.args.page.now.0 c.args.name.now pages reply after)) (sym c.refused.ensures)
    (put_refused c.args.p.now c.in-Some.n c.args.page.now.0 c.args.name.now pages found.0
    (g.A.Area.pages c.find.new.files.area) after c.put_numbered.result c.in-Err-put_numbered.fault
    (number_is c.args.p.now c.in-Some.n (sym c.number_of.ensures ∙ c.in-Some.is)) found.1 still c.in-Err-put_numbered.is
    (c.put_numbered.ensures.put pages found.0 still found.1 (ap (λ i. i.pages) found.2)))
