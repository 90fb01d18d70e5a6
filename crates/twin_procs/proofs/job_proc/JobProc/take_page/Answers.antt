use Rattle.std.proofs.Common.{sym, ◌∙◌}
use Rattle.twin_procs.proofs.JobSteps.{page-fed, page-damaged}
use Rattle.twin_procs.proofs.job_proc.JobProc.take_page.Goals as goal

pub returns-in_ok-feed-in-Ok : goal.returns-in_ok-feed-in-Ok
returns-in_ok-feed-in-Ok g c =
    page-fed g.J.HasJobs.jobs g.J.JobWork.keeps c.args.self.now c.feed.new.self c.take.new.self c.args.last c.args.page.now c.in-Ok.items
    (sym c.take.ensures.read ∙ c.in-Ok.is) c.in-Ok.ensures.place c.in_ok-feed-in-Ok.ensures

pub returns-in-Err : goal.returns-in-Err
returns-in-Err g c =
    page-damaged g.J.HasJobs.jobs g.J.JobWork.keeps c.args.self.now _ c.args.last c.args.page.now c.in-Err.bad c.damaged.result
    (sym c.take.ensures.read ∙ c.in-Err.is) c.damaged.ensures
