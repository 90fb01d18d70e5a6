use Rattle.std.proofs.Common.{sym, ◌∙◌}
use Rattle.disk_layout.specs.Files.{files as file_map}
use Rattle.program_task.specs.OpenFiles.{measures, open_as}
use Rattle.prog_stack.proofs.OwnRows.{open_by}
use Rattle.prog_stack.proofs.own.Own.length.Goals as goal

pub returns-in-Some-clause-row : goal.returns-in-Some-clause-row
returns-in-Some-clause-row g c = λ pages told.
    open_by measures (open_as c.args.self.now c.args.f.now) c.in-Some.name c.args.self.now (file_map pages) c.length_of.result (sym c.opened.ensures
    ∙ c.in-Some.is)
    (c.length_of.ensures.told pages told)

pub returns-in-Some-clause-fits : goal.returns-in-Some-clause-fits
returns-in-Some-clause-fits g c = c.length_of.ensures.fits c.args.f.now
