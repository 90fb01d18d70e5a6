use Rattle.program_run.proofs.Beginning.{begins_of}
use Rattle.program_run.proofs.program_run.ProgramRun.begin.Goals as goal

pub returns-in-Ok-clause-begun : goal.returns-in-Ok-clause-begun
returns-in-Ok-clause-begun g c =
    begins_of c.args.name c.args.args (g.A.Area.pages c.args.files.now.area) c.load_job.result c.in-Ok.loaded c.begin_loaded.result c.in-Ok.is c.begin_loaded.ensures
    (λ pages told. c.load_job.ensures.found pages told)
