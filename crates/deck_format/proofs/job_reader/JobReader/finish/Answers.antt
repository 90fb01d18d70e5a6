use Rattle.std.proofs.Common.{◌∙◌, sym}
use Rattle.deck_format.specs.JobReader.{given}
use Rattle.deck_format.proofs.Steps.{last_jobs, finish_stands}
use Rattle.deck_format.proofs.job_reader.JobReader.finish.Goals as goal

pub returns-clause-stands : goal.returns-clause-stands
returns-clause-stands c = rw (← c.self.view_is)
    (λ items so_far stands. finish_stands c.self.inside.place items so_far (given c.into_job.result) (c.into_job.ensures ∙ sym (last_jobs c.self.inside.place)) stands)
