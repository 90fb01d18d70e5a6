use Rattle.std.proofs.Common.{inl, inr, refl}
use Rattle.batch_procs.specs.declared.actions.Reply.TheVariants as reply
use Rattle.twin_ends.proofs.AsTwins.{loads}
use Rattle.twin_net.proofs.Doings.{at-files}
use Rattle.twin_net.proofs.Failing.{same-least, no-failure, was-failure}
use Rattle.twin_net.proofs.shared.TwinShared.load.Goals as goal

pub returns-then-not-self : goal.returns-then-not-self
returns-then-not-self g c =
    at-files g.J.HasJobs.jobs _ _ c.args.self.now c.args.p c.args.self.now.files c.args.self.now.sound c.args.file.now reply.Failed
    (loads g.J.HasJobs.jobs _ c.args.file.now reply.Failed tt) refl refl (λ may. may)
    (λ e. inl c.if-not-self.true) (same-least _) (λ e. inl e)

pub returns : goal.returns
returns g c =
    at-files g.J.HasJobs.jobs _ _ c.args.self.now c.args.p c.load-reply.new.self _ c.args.file.now c.load-reply.result
    (loads g.J.HasJobs.jobs _ c.args.file.now c.load-reply.result c.load-reply.ensures.loads) c.load-reply.ensures.found c.load-reply.ensures.left
    (λ may sound. c.load-reply.ensures.sound (no-failure c.load-reply.result _ c.is_failed.ensures sound))
    (λ e. inr (c.load-reply.ensures.failed e)) c.load-reply.ensures.counts
    (λ e. inr (c.load-reply.ensures.failed (was-failure c.load-reply.result _ c.is_failed.ensures e)))
