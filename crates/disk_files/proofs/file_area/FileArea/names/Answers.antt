use Rattle.std.proofs.Common.{◌∙◌, ap}
use Rattle.disk_files.proofs.Creates.{names_counted}
use Rattle.disk_files.proofs.file_area.FileArea.names.Goals as goal

pub returns-clause-count : goal.returns-clause-count
returns-clause-count g c = λ pages told.
    let laid = c.self.invariant.laid (ap (λ v. v.sound) c.self.view_is ∙ c.requires) pages (ap (λ v. g.A.Area.pages v.area) c.self.view_is ∙ told) in
    c.count_names.ensures.count ∙ names_counted _ _ pages laid
