use Rattle.std.proofs.Common.{sym, ap, ◌∙◌}
use Rattle.page_codec.specs.Reading.{page_read}
use Rattle.page_codec.specs.Stream.{awaited_after}
use Rattle.batch_procs.proofs.JobSteps.{job-takes, page-last}
use Rattle.batch_procs.proofs.PageTakes.{is-damaged, no-page, none-behind}
use Rattle.batch_procs.proofs.job_proc.JobProcWorkWork.take.Goals as goal

pub returns-in_ok-feed-in-Ok-clause-ok : goal.returns-in_ok-feed-in-Ok-clause-ok
returns-in_ok-feed-in-Ok-clause-ok g c = λ taken sent keeps may.
    let same = ap (page_read c.args.self.now.pages.place c.in-Page.last) c.get.ensures in
    let read = sym same ∙ (sym c.take.ensures.read ∙ c.in-Ok.is) in
    let all = job-takes g.J.HasJobs.are_jobs (g.J.JobWork.keeps c.args.self.now.jobs)
    (g.J.JobWork.keeps c.feed.new.self) _ _ _ _ _ taken sent c.args.reply c.in-Page.page c.in-Page.last c.in-Ok.items c.in-Page.is
    (sym c.is_ended.ensures
    ∙ c.if-is_ended.false) read (page-last _ c.in-Page.last c.in-Page.page c.in-Ok.items read)
    (c.take.ensures.awaited
    ∙ ap (awaited_after c.args.self.now.pages c.in-Page.last) c.in-Ok.is) c.in_ok-feed-in-Ok.ensures keeps may in
    (all.0, λ none. all.1)

pub returns-in-Err-clause-ok : goal.returns-in-Err-clause-ok
returns-in-Err-clause-ok g c = λ taken sent keeps may. (
  is-damaged _ taken c.in-Page.page c.in-Page.last c.in-Err.bad c.damage.result c.args.reply c.in-Page.is
      (keeps.reads (sym c.is_ended.ensures ∙ c.if-is_ended.false)) (sym (ap (page_read c.args.self.now.pages.place c.in-Page.last) c.get.ensures) ∙ (sym c.take.ensures.read ∙ c.in-Err.is)) c.damage.ensures,
  λ none. absurd cc,
)

pub returns-then-is_ended-clause-ok : goal.returns-then-is_ended-clause-ok
returns-then-is_ended-clause-ok g c = λ taken sent keeps may.
    none-behind _ _ _ c.if-is_ended.true (c.is_ended.ensures ∙ keeps.ended_is) may.goes_on

pub returns-in_default-clause-ok : goal.returns-in_default-clause-ok
returns-in_default-clause-ok g c = λ taken sent keeps may. absurd (no-page c.args.reply c.in_default.not-Page may.is_handed)
