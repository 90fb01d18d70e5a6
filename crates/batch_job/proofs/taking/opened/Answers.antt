use Rattle.std.proofs.Common.{subst, sym}
use Rattle.batch_job.specs.LinesAhead.{opened}
use Rattle.batch_job.specs.Places.{IsPart, IsLoadOf}
use Rattle.batch_job.proofs.Account.{program-opened, file-opened}
use Rattle.batch_job.proofs.taking.opened.Goals as goal

pub returns-in-Job-clause-part : goal.returns-in-Job-clause-part
returns-in-Job-clause-part c =
    subst (λ o. IsLoadOf o c.args.load → IsPart c.program_from.result (opened c.args.load o)) (sym c.in-Job.is)
    (program-opened c.in-Job.name c.in-Job.limit c.args.load c.program_from.result c.program_from.ensures)

pub returns-in_ok-lines-in-Run-clause-part : goal.returns-in_ok-lines-in-Run-clause-part
returns-in_ok-lines-in-Run-clause-part c = λ own.
    subst (λ o. IsPart c.input_from.result (opened c.args.load o)) (sym c.in-Run.is)
    (file-opened c.in-Run.name c.in-Run.file c.args.load c.input_from.result c.in_ok-lines-in-Run.lines c.input_from.ensures
    c.in_ok-lines-in-Run.ensures)
