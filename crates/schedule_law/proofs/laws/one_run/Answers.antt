use Rattle.network_run.proofs.OneRun.{some-run, one-run, same-counts}
use Rattle.core_law.specs.TheLaw.{the_law}
use Rattle.core_law.proofs.Law.{sound, sure}
use Rattle.schedule_law.proofs.laws.one_run.Goals as goal

pub returns-clause-some : goal.returns-clause-some
returns-clause-some g c = λ opening s rule reached told. some-run (the_law g.J.HasJobs.jobs) (sound g.J.HasJobs.are_jobs)
    (sure g.J.HasJobs.are_jobs) opening told rule s reached

pub returns-clause-only : goal.returns-clause-only
returns-clause-only g c = λ opening s rule events others reached told first second.
    one-run (the_law g.J.HasJobs.jobs) (sound g.J.HasJobs.are_jobs) (sure g.J.HasJobs.are_jobs) opening told rule s events others reached first second

pub returns-clause-counts : goal.returns-clause-counts
returns-clause-counts g c = λ s rule. same-counts (the_law g.J.HasJobs.jobs) rule s
