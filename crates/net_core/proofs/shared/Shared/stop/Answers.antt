use Rattle.std.proofs.Common.{Some, refl, sym, ◌∙◌, ap}
use Rattle.batch_procs.specs.declared.actions.Action.TheVariants as act
use Rattle.network_law.specs.Acts.{At, Stops}
use Rattle.core_law.specs.Core.{side_at}
use Rattle.net_core.proofs.Causing.{quiet-causes}
use Rattle.net_core.proofs.Performing.{stops-last, at-cards, at-input, at-output, at-lines}
use Rattle.net_core.proofs.shared.Shared.stop.Goals as goal

pub returns-then-buffer-eq1-clause-performs : goal.returns-then-buffer-eq1-clause-performs
returns-then-buffer-eq1-clause-performs g c =
    at-cards g.J.HasJobs.are_jobs _ c.args.self.now c.args.p (act.Stop c.args.buffer)
    (Some c.stop_line.result) c.stop_line.new.buffer c.side_at-side.result Stops tt
    (ap (λ b. At b (side_at c.args.p c.args.buffer) Stops) c.if-buffer-eq1.true ∙ ap (λ side. At 1 side Stops) (sym c.side_at-side.ensures))
    (c.stop_line.ensures c.args.p)

pub returns-then-buffer-eq2-clause-performs : goal.returns-then-buffer-eq2-clause-performs
returns-then-buffer-eq2-clause-performs g c =
    at-input g.J.HasJobs.are_jobs _ c.args.self.now c.args.p (act.Stop c.args.buffer)
    (Some c.stop_spool.result) c.stop_spool.new.spool c.side_at-side.result Stops tt
    (ap (λ b. At b (side_at c.args.p c.args.buffer) Stops) c.if-buffer-eq2.true ∙ ap (λ side. At 2 side Stops) (sym c.side_at-side.ensures))
    (c.stop_spool.ensures.visited c.args.p)

pub returns-then-buffer-eq3-clause-performs : goal.returns-then-buffer-eq3-clause-performs
returns-then-buffer-eq3-clause-performs g c =
    at-output g.J.HasJobs.are_jobs _ c.args.self.now c.args.p (act.Stop c.args.buffer)
    (Some c.stop_spool-then-buffer-eq3.result) c.stop_spool-then-buffer-eq3.new.spool c.side_at-side.result Stops tt
    (ap (λ b. At b (side_at c.args.p c.args.buffer) Stops) c.if-buffer-eq3.true ∙ ap (λ side. At 3 side Stops) (sym c.side_at-side.ensures))
    (c.stop_spool-then-buffer-eq3.ensures.visited c.args.p)

pub returns-else-buffer-eq3-clause-performs : goal.returns-else-buffer-eq3-clause-performs
returns-else-buffer-eq3-clause-performs g c =
    at-lines g.J.HasJobs.are_jobs _ c.args.self.now c.args.p (act.Stop c.args.buffer)
    (Some c.stop_line-else-buffer-eq3.result) c.stop_line-else-buffer-eq3.new.buffer c.side_at-side.result Stops tt
    (ap (λ b. At b (side_at c.args.p c.args.buffer) Stops) (stops-last c.args.self.now c.args.buffer
    (side_at c.args.p c.args.buffer) c.requires.may c.if-buffer-eq1.false c.if-buffer-eq2.false c.if-buffer-eq3.false)
    ∙ ap (λ side. At 4 side Stops) (sym c.side_at-side.ensures))
    (c.stop_line-else-buffer-eq3.ensures c.args.p)

pub returns-then-buffer-eq1-clause-causes : goal.returns-then-buffer-eq1-clause-causes
returns-then-buffer-eq1-clause-causes g c =
    quiet-causes g.J.HasJobs.are_jobs _ _ c.args.self.now _ c.args.p (act.Stop c.args.buffer) (Some c.stop_line.result) tt
    (c.stop_line.ensures c.args.p).suits
    record { deck = refl; paper = refl; input = refl; output = refl; files = refl }

pub returns-then-buffer-eq2-clause-causes : goal.returns-then-buffer-eq2-clause-causes
returns-then-buffer-eq2-clause-causes g c =
    quiet-causes g.J.HasJobs.are_jobs _ _ c.args.self.now _ c.args.p (act.Stop c.args.buffer) (Some c.stop_spool.result) tt
    (c.stop_spool.ensures.visited c.args.p).suits
    record { deck = refl; paper = refl; input = c.stop_spool.ensures.area; output = refl; files = refl }

pub returns-then-buffer-eq3-clause-causes : goal.returns-then-buffer-eq3-clause-causes
returns-then-buffer-eq3-clause-causes g c =
    quiet-causes g.J.HasJobs.are_jobs _ _ c.args.self.now _ c.args.p (act.Stop c.args.buffer) (Some c.stop_spool-then-buffer-eq3.result) tt
    (c.stop_spool-then-buffer-eq3.ensures.visited c.args.p).suits
    record { deck = refl; paper = refl; input = refl; output = c.stop_spool-then-buffer-eq3.ensures.area; files = refl }

pub returns-else-buffer-eq3-clause-causes : goal.returns-else-buffer-eq3-clause-causes
returns-else-buffer-eq3-clause-causes g c =
    quiet-causes g.J.HasJobs.are_jobs _ _ c.args.self.now _ c.args.p (act.Stop c.args.buffer) (Some c.stop_line-else-buffer-eq3.result) tt
    (c.stop_line-else-buffer-eq3.ensures c.args.p).suits
    record { deck = refl; paper = refl; input = refl; output = refl; files = refl }
