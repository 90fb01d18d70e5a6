use Rattle.std.proofs.Common.{◌∙◌, ap, arith}
use Rattle.disk_layout.proofs.FreePages.{free_and_held}
use Rattle.disk_files.proofs.AreaAfter.{free_now}
use Rattle.disk_files.proofs.file_area.FileArea.free_pages.Goals as goal

pub returns-clause-count : goal.returns-clause-count
returns-clause-count g c = λ pages told.
    let laid = c.self.invariant.laid (ap (λ v. v.sound) c.self.view_is ∙ c.requires) pages (ap (λ v. g.A.Area.pages v.area) c.self.view_is ∙ told) in
    omega (arith, c.free.ensures, free_now _ _ pages laid)

pub returns-clause-files : goal.returns-clause-files
returns-clause-files g c = λ pages told.
    let laid = c.self.invariant.laid (ap (λ v. v.sound) c.self.view_is ∙ c.requires) pages (ap (λ v. g.A.Area.pages v.area) c.self.view_is ∙ told) in
    omega (arith, c.free.ensures, free_now _ _ pages laid, free_and_held _ _ pages laid)
