use Rattle.std.proofs.Common.{Some, refl, sym, ◌∙◌, ap}
use Rattle.solo_base.specs.declared.outcome.Side.TheVariants.{Sender}
use Rattle.batch_procs.specs.declared.actions.Action.TheVariants as act
use Rattle.network_law.specs.Acts.{Moves}
use Rattle.core_law.specs.Core.{call}
use Rattle.net_core.specs.Shared.{PutsAt}
use Rattle.net_core.proofs.Causing.{input-causes, output-causes}
use Rattle.net_core.proofs.Performing.{at-second, at-input, at-output}
use Rattle.net_core.proofs.shared.Shared.put_page.Goals as goal

pub returns-then-p-eq2-clause-performs : goal.returns-then-p-eq2-clause-performs
returns-then-p-eq2-clause-performs g c =
    at-input g.J.HasJobs.are_jobs _ c.args.self.now c.args.p (act.PutPage c.args.page.now) (Some c.put_page.result) c.put_page.new.spool Sender Moves tt
    (ap (λ p. call p (act.PutPage c.args.page.now)) c.if-p-eq2.true) (c.put_page.ensures.visited c.args.p)

pub returns-else-p-eq2-clause-performs : goal.returns-else-p-eq2-clause-performs
returns-else-p-eq2-clause-performs g c =
    let last = at-second c.args.p 2 3 (λ p. PutsAt c.args.self.now.input) (λ p. PutsAt c.args.self.now.output) c.requires.may c.if-p-eq2.false in
    at-output g.J.HasJobs.are_jobs _ c.args.self.now c.args.p (act.PutPage c.args.page.now)
    (Some c.put_page-else-p-eq2.result) c.put_page-else-p-eq2.new.spool Sender Moves tt
    (ap (λ p. call p (act.PutPage c.args.page.now)) last.number) (c.put_page-else-p-eq2.ensures.visited c.args.p)

pub returns-then-p-eq2-clause-causes : goal.returns-then-p-eq2-clause-causes
returns-then-p-eq2-clause-causes g c =
    input-causes g.J.HasJobs.are_jobs _ _ c.args.self.now _ c.args.p (act.PutPage c.args.page.now) c.put_page.result tt
    (c.put_page.ensures.visited c.args.p).suits
    (λ other. (let same = sym c.if-p-eq2.true ∙ other in cc)) refl refl refl refl c.put_page.ensures.failed c.put_page.ensures.counts

pub returns-else-p-eq2-clause-causes : goal.returns-else-p-eq2-clause-causes
returns-else-p-eq2-clause-causes g c =
    output-causes g.J.HasJobs.are_jobs _ _ c.args.self.now _ c.args.p (act.PutPage c.args.page.now) c.put_page-else-p-eq2.result tt
    (c.put_page-else-p-eq2.ensures.visited c.args.p).suits
    c.if-p-eq2.false refl refl refl refl c.put_page-else-p-eq2.ensures.failed c.put_page-else-p-eq2.ensures.counts
