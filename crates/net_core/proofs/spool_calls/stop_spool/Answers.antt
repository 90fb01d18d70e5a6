use Rattle.net_core.proofs.SpoolVisits.{stop-visited}
use Rattle.net_core.proofs.spool_calls.stop_spool.Goals as goal

pub returns-clause-visited : goal.returns-clause-visited
returns-clause-visited g c p =
    stop-visited g.J.HasJobs.are_jobs g.A.Area.pages c.args.spool.now c.stop.new.self p c.args.number c.args.side
    c.stop.ensures.after c.stop.ensures.history
