use Rattle.schedule_law.proofs.TheCounts.{to-end, where-done, where-none_counted}
use Rattle.schedule_law.proofs.laws.counts_of_a_schedule.Goals as goal

pub returns-clause-done : goal.returns-clause-done
returns-clause-done g c = λ opening s number counts net ran reached told by ends. where-done g.J.HasJobs.are_jobs opening s reached told
    (to-end g.J.HasJobs.are_jobs by ends)

pub returns-clause-uncounted : goal.returns-clause-uncounted
returns-clause-uncounted g c = λ opening s number counts net ran before reached told by ends.
    where-none_counted g.J.HasJobs.are_jobs opening s reached told (to-end g.J.HasJobs.are_jobs by ends)
