use Rattle.std.proofs.Common.{Some, refl, sym, ◌∙◌, ap}
use Rattle.solo_base.specs.declared.outcome.Side.TheVariants.{Receiver}
use Rattle.batch_procs.specs.declared.actions.Action.TheVariants as act
use Rattle.network_law.specs.Acts.{Moves}
use Rattle.core_law.specs.Core.{call}
use Rattle.net_core.specs.Shared.{TakesAt}
use Rattle.net_core.proofs.Causing.{input-causes, output-causes}
use Rattle.net_core.proofs.Performing.{at-second, at-input, at-output}
use Rattle.net_core.proofs.shared.Shared.take_page.Goals as goal

pub returns-then-p-eq3-clause-performs : goal.returns-then-p-eq3-clause-performs
returns-then-p-eq3-clause-performs g c =
    at-input g.J.HasJobs.are_jobs _ c.args.self.now c.args.p act.TakePage (Some c.take_page.result) c.take_page.new.spool Receiver Moves tt
    (ap (λ p. call p act.TakePage) c.if-p-eq3.true) (c.take_page.ensures.visited c.args.p)

pub returns-else-p-eq3-clause-performs : goal.returns-else-p-eq3-clause-performs
returns-else-p-eq3-clause-performs g c =
    let last = at-second c.args.p 3 4 (λ p. TakesAt c.args.self.now.input) (λ p. TakesAt c.args.self.now.output) c.requires.may c.if-p-eq3.false in
    at-output g.J.HasJobs.are_jobs _ c.args.self.now c.args.p act.TakePage
    (Some c.take_page-else-p-eq3.result) c.take_page-else-p-eq3.new.spool Receiver Moves tt
    (ap (λ p. call p act.TakePage) last.number) (c.take_page-else-p-eq3.ensures.visited c.args.p)

pub returns-then-p-eq3-clause-causes : goal.returns-then-p-eq3-clause-causes
returns-then-p-eq3-clause-causes g c =
    input-causes g.J.HasJobs.are_jobs _ _ c.args.self.now _ c.args.p act.TakePage c.take_page.result tt (c.take_page.ensures.visited c.args.p).suits
    (λ other. (let same = sym c.if-p-eq3.true ∙ other in cc)) refl refl refl refl c.take_page.ensures.failed c.take_page.ensures.counts

pub returns-else-p-eq3-clause-causes : goal.returns-else-p-eq3-clause-causes
returns-else-p-eq3-clause-causes g c =
    output-causes g.J.HasJobs.are_jobs _ _ c.args.self.now _ c.args.p act.TakePage c.take_page-else-p-eq3.result tt
    (c.take_page-else-p-eq3.ensures.visited c.args.p).suits
    c.if-p-eq3.false refl refl refl refl c.take_page-else-p-eq3.ensures.failed c.take_page-else-p-eq3.ensures.counts
