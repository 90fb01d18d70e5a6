use Rattle.std.proofs.Common.{Some, sym, subst}
use Rattle.solo_base.specs.declared.outcome.Side.TheVariants.{Receiver}
use Rattle.batch_procs.specs.declared.actions.Action.TheVariants as act
use Rattle.batch_procs.specs.declared.actions.Reply.TheVariants as reply
use Rattle.network_law.specs.Acts.{Moves}
use Rattle.net_core.specs.Calls.{Visited}
use Rattle.net_core.specs.Spools.{SpoolStands}
use Rattle.net_core.proofs.SpoolVisits.{take-visited}
use Rattle.net_core.proofs.spool_calls.take_page.Goals as goal

pub returns-in-Done-clause-visited : goal.returns-in-Done-clause-visited
returns-in-Done-clause-visited g c p =
    subst (λ page. Visited g.J.HasJobs.jobs (SpoolStands g.A.Area.pages) c.args.spool.now c.take.new.self Receiver Moves p act.TakePage
    (Some (reply.Page page c.in-Done.last))) (sym c.of.ensures)
    (take-visited g.J.HasJobs.are_jobs g.A.Area.pages c.args.spool.now c.take.new.self p c.take.new.page c.in-Done.last
    c.in-Done.ensures.after c.in-Done.ensures.area c.in-Done.ensures.last c.in-Done.ensures.history)
