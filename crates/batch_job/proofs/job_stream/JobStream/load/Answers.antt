use Rattle.std.proofs.Common.{subst, sym, ap, ◌∙◌}
use Rattle.batch_job.specs.JobStream.{Stream, StandsFor}
use Rattle.batch_job.proofs.PushingLines.{stands-given}
use Rattle.batch_job.proofs.job_stream.JobStream.load.Goals as goal

pub returns-clause-stands : goal.returns-clause-stands
returns-clause-stands c = λ file later wants items loads pushed s.
    let first = ap (λ (stream : Stream). stream.wanted) c.self.view_is ∙ wants in
    stands-given c.self.inside.ahead c.give.new.self c.args.loaded file later first (c.give.ensures file later first) items loads pushed
    (subst (λ stream. StandsFor stream items loads pushed) (sym c.self.view_is) s)
