use Rattle.std.proofs.Common.{sym, ◌∙◌, ap}
use Rattle.batch_job.specs.JobStream.{Stream}
use Rattle.batch_job.proofs.PushingLines.{none-first}
use Rattle.batch_job.proofs.job_stream.JobStream.wants.Goals as goal

pub returns-clause-none : goal.returns-clause-none
returns-clause-none c = λ none.
    ap (λ (stream : Stream). stream.wanted) (sym c.self.view_is) ∙ none-first c.self.inside.ahead.loads.wanted (sym c.wants.ensures ∙ none)
