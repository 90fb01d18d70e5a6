use Rattle.std.proofs.Common.{sym, ◌∙◌, ap, not, ◌&&◌}
use Rattle.twin_procs.proofs.JobSteps.{feeds-none, feeds-on}
use Rattle.twin_procs.proofs.job_proc.JobProc.feed.Goals as goal

pub returns-then-is_empty : goal.returns-then-is_empty
returns-then-is_empty g c =
    feeds-none g.J.HasJobs.jobs g.J.JobWork.keeps c.args.self.now c.args.items c.has_some-self.result c.empty_page.result c.has_some-self.ensures
    (ap (λ last. last && not c.has_some-self.result) (sym c.last-last.ensures) ∙ sym c.is_empty.ensures ∙ c.if-is_empty.true) c.empty_page.ensures

pub returns : goal.returns
returns g c =
    rw c.last-last.ensures (feeds-on g.J.HasJobs.jobs g.J.JobWork.keeps c.args.self.now c.args.items c.has_some-self.result c.feed.new.self
    c.has_some-self.ensures (ap (λ last. last && not c.has_some-self.result) (sym c.last-last.ensures) ∙ sym c.is_empty.ensures ∙ c.if-is_empty.false)
    c.in_ok-feed.ensures)
