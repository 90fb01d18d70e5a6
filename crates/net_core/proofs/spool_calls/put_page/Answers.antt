use Rattle.net_core.proofs.SpoolVisits.{put-visited, put-failed}
use Rattle.net_core.proofs.spool_calls.put_page.Goals as goal

pub returns-in-Done-clause-visited : goal.returns-in-Done-clause-visited
returns-in-Done-clause-visited g c p =
    put-visited g.J.HasJobs.are_jobs g.A.Area.pages c.args.spool.now c.put.new.self p c.args.page.now
    c.in-Done.ensures.after c.in-Done.ensures.area c.in-Done.ensures.history

pub returns-in-Failed-clause-visited : goal.returns-in-Failed-clause-visited
returns-in-Failed-clause-visited g c p =
    put-failed g.J.HasJobs.are_jobs g.A.Area.pages c.args.spool.now c.put.new.self p c.args.page.now
    c.in-Failed.ensures.after c.in-Failed.ensures.area c.in-Failed.ensures.history
