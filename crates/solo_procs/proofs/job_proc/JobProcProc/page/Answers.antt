use Rattle.std.proofs.Common.{sym, ◌∙◌}
use Rattle.solo_procs.specs.Job.{JobStands}
use Rattle.solo_procs.proofs.JobPages.{job-takes, job-damaged}
use Rattle.solo_procs.proofs.JobNeeds.{same-commands}
use Rattle.solo_procs.proofs.job_proc.JobProcProc.page.Goals as goal

pub returns-in-Err-clause-ok : goal.returns-in-Err-clause-ok
returns-in-Err-clause-ok g c =
    job-damaged g.C.Commands.awaits c.args.self.now c.args.page c.in-Err.bad c.damaged.result
    (λ to. JobStands g.C.Commands.awaits (record c.args.self.now { pages = c.take.new.self }) to) (sym c.take.ensures.read ∙ c.in-Err.is)
    c.damaged.ensures

pub returns-in_ok-add_lines-in-Ok-clause-ok : goal.returns-in_ok-add_lines-in-Ok-clause-ok
returns-in_ok-add_lines-in-Ok-clause-ok g c =
    rw c.close_page.ensures (job-takes g.C.Commands.awaits c.args.self.now c.args.page c.in-Ok.items c.is_last.result c.take.new.self c.add_lines.new.cards
    (sym c.take.ensures.read ∙ c.in-Ok.is) c.is_last.ensures c.in-Ok.ensures.place c.in_ok-add_lines-in-Ok.ensures)

pub returns-in_ok-add_lines-in-Ok-clause-kept : goal.returns-in_ok-add_lines-in-Ok-clause-kept
returns-in_ok-add_lines-in-Ok-clause-kept g c = same-commands _ _ c.close_page.ensures
