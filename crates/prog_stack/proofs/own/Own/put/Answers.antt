use Rattle.std.proofs.Common.{refl, sym, ◌∙◌}
use Rattle.program_task.specs.OpenFiles.{open_as}
use Rattle.prog_stack.proofs.OwnRows.{put_by}
use Rattle.prog_stack.proofs.own.Own.put.Goals as goal

pub returns-in-Some-clause-row : goal.returns-in-Some-clause-row
returns-in-Some-clause-row g c =
    put_by c.args.f.now c.args.p.now c.args.page.now (open_as c.args.self.now c.args.f.now) c.in-Some.name c.args.self.now
    (g.A.Area.pages c.args.files.now.area)
    (g.A.Area.pages c.put_page.new.files.area) c.put_page.result refl (sym c.opened.ensures ∙ c.in-Some.is) c.put_page.ensures.told

pub returns-in-Some-clause-fits : goal.returns-in-Some-clause-fits
returns-in-Some-clause-fits g c = c.put_page.ensures.fits c.args.f.now
