use Rattle.std.proofs.Common.{◌∙◌, ap, sym}
use Rattle.disk_layout.proofs.SoloDisk.{laid_out_breaks_nothing}
use Rattle.disk_files.proofs.file_area.FileArea.sound.Goals as goal

pub returns-clause-solo : goal.returns-clause-solo
returns-clause-solo g c = λ sound pages told.
    laid_out_breaks_nothing _ _ pages (c.self.invariant.laid sound pages (ap (λ v. g.A.Area.pages v.area) c.self.view_is ∙ told))
