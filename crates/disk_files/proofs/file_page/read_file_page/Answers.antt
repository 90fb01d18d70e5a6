use Rattle.std.proofs.Common.{◌≡◌, ◌∙◌, OnOk, subst}
use Rattle.disk_layout.specs.Disk.{page_at}
use Rattle.disk_files.proofs.Numbers.{answers_ok, range_fails}
use Rattle.disk_files.proofs.file_page.read_file_page.Goals as goal

pub returns-in-Err-clause-answer : goal.returns-in-Err-clause-answer
returns-in-Err-clause-answer g c = λ pages told has. range_fails _ _ (c.in-Err.ensures.answer pages told has)

pub returns-in-Ok-clause-answer : goal.returns-in-Ok-clause-answer
returns-in-Ok-clause-answer g c = λ pages told has. answers_ok _ _ c.read.ensures.fault (c.in-Ok.ensures.answer pages told has).0

pub returns-in-Ok-clause-page : goal.returns-in-Ok-clause-page
returns-in-Ok-clause-page g c = λ pages told has.
    subst (λ n. OnOk c.read.result (c.read.new.page.0
    ≡ page_at pages n)) (c.in-Ok.ensures.answer pages told has).2 (c.read.ensures.page pages (c.in-Ok.ensures.left ∙ told))
