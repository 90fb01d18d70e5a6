use Rattle.std.proofs.Common.{◌∙◌, sym, subst}
use Rattle.std.specs.FinMap as fin
use Rattle.disk_files.specs.Answers.{Holds}
use Rattle.disk_system.proofs.Emptied.{emptied}
use Rattle.disk_system.proofs.Stores.{on_done}
use Rattle.disk_system.proofs.formatting.format.Goals as goal

pub returns-clause-empty : goal.returns-clause-empty
returns-clause-empty g c = λ pages told.
    on_done c.write_first_pages.result _ _ (λ x. subst (λ now. Holds now fin.empty 4270) (sym x.1) (emptied pages x.0 x.2))
    (c.write_first_pages.ensures.formatted pages told (c.size-pages.ensures.told pages told ∙ c.requires))
