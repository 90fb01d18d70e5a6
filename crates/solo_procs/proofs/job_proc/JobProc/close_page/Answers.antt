use Rattle.std.proofs.Common.{sym, ap}
use Rattle.solo_procs.specs.Job.{page_place}
use Rattle.solo_procs.proofs.job_proc.JobProc.close_page.Goals as goal

pub returns-then-last : goal.returns-then-last
returns-then-last g c = ap (λ last. record c.args.self.now { place = page_place last }) (sym c.if-last.true)

pub returns : goal.returns
returns g c = ap (λ last. record c.args.self.now { place = page_place last }) (sym c.if-last.false)
