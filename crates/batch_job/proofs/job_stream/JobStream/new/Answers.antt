use Rattle.std.proofs.Common.{subst, sym, refl, []}
use Rattle.batch_job.specs.Places.{no_lines}
use Rattle.batch_job.specs.JobStream.{StandsFor, HasNoLine, IsSpent, new_stream}
use Rattle.batch_job.proofs.Account.{nothing-left}
use Rattle.batch_job.proofs.PushingLines.{stands-new}
use Rattle.batch_job.proofs.job_stream.JobStream.new.Goals as goal

pub returns-clause-stands : goal.returns-clause-stands
returns-clause-stands c = subst (λ stream. StandsFor stream [] [] []) (sym c.new.ensures) stands-new

no-line-yet : HasNoLine new_stream
no-line-yet = record {
  waiting = λ all holds. nothing-left no_lines all tt refl refl holds;
  part = tt;
}

pub returns-clause-spent : goal.returns-clause-spent
returns-clause-spent c = subst IsSpent (sym c.new.ensures) (no-line-yet, refl)
