use Rattle.std.proofs.Common.{subst, sym, ap, ◌++◌, ◌∙◌}
use Rattle.batch_job.specs.JobStream.{fed, StandsFor}
use Rattle.batch_job.proofs.RunLines.{on-ok}
use Rattle.batch_job.proofs.PushingLines.{stands-fed}
use Rattle.batch_job.proofs.job_stream.JobStream.feed.Goals as goal

pub returns-clause-stands : goal.returns-clause-stands
returns-clause-stands c =
    on-ok c.feed.result _ _ (λ is before loads pushed spent goes_on s.
    subst (λ stream. StandsFor stream (before ++ c.args.items.items) loads pushed) (ap (λ old. fed old c.args.items) (sym c.self.view_is) ∙ sym is)
    (stands-fed c.args.self.now c.args.items before loads pushed spent goes_on s)) c.feed.ensures
