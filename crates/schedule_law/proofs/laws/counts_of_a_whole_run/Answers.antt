use Rattle.core_law.specs.Opening.{first_state}
use Rattle.core_law.proofs.Law.{opening-reached}
use Rattle.schedule_law.proofs.TheCounts.{where-done, where-none_counted}
use Rattle.schedule_law.proofs.laws.counts_of_a_whole_run.Goals as goal

pub returns-clause-done : goal.returns-clause-done
returns-clause-done g c = λ opening rule counts outcomes stops devices told ran.
    where-done g.J.HasJobs.are_jobs opening (first_state opening) (opening-reached g.J.HasJobs.are_jobs opening) told ran

pub returns-clause-uncounted : goal.returns-clause-uncounted
returns-clause-uncounted g c = λ opening rule counts outcomes stops devices before now told ran.
    where-none_counted g.J.HasJobs.are_jobs opening (first_state opening) (opening-reached g.J.HasJobs.are_jobs opening) told ran
