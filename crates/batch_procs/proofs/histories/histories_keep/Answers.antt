use Rattle.batch_procs.specs.Relays.{relays}
use Rattle.batch_procs.proofs.Kept as kept
use Rattle.batch_procs.proofs.Faulty.{each_cause_is_given, faults_of_the_five}
use Rattle.batch_procs.proofs.Ahead.{ahead_falls}
use Rattle.batch_procs.proofs.PageBounds.{bounds}
use Rattle.batch_procs.proofs.histories.histories_keep.Goals as goal

pub returns : goal.returns
returns g c =
    let jobs = g.J.HasJobs.are_jobs in
    let J = g.J.HasJobs.jobs in
    record {
      five = relays jobs;
      keep = kept.histories_keep J;
      given = each_cause_is_given J;
      faults = faults_of_the_five J jobs;
      falls = ahead_falls J;
      bounds = bounds jobs;
    }
