use Rattle.std.proofs.Common.{sym, ◌∙◌}
use Rattle.solo_run.specs.Job.{job_world}
use Rattle.solo_run.proofs.FileSteps.{led-first}
use Rattle.solo_run.proofs.Going.{going-first}
use Rattle.solo_run.proofs.JobGoing.{plans-by, job-may_next, job-ends, job-goes}
use Rattle.solo_run.proofs.job_run.run_job.Goals as goal

pub loop-init : goal.loop-init
loop-init g c =
    let files = c.args.side.now.files in
    let commands = c.new-machine.result.process.commands in
    let fresh = c.new-machine.ensures.fresh in
    going-first c.new-machine.ensures.stands (
      plans-by (job_world g.Y.Source.left g.Y.Source.taken g.Y.Source.faults
          g.T.Sink.given g.T.Sink.faults g.C.Commands.sound g.C.Commands.faults g.C.Commands.opens g.C.Commands.follows g.C.Commands.passes)
          g.C.Commands.awaits g.C.Commands.plans g.C.Commands.follows (g.C.Commands.opens files) (g.C.Commands.plans commands files)
          c.args.side.now c.args.side.now _ (fresh.planned files)
          c.requires,
      led-first (g.C.Commands.follows commands files) (g.C.Commands.passes files) files (fresh.followed files) (fresh.passed files),
    )

pub act-reply-requires-clause-may : goal.act-reply-requires-clause-may
act-reply-requires-clause-may g c κs within =
    job-may_next (job_world g.Y.Source.left g.Y.Source.taken g.Y.Source.faults
    g.T.Sink.given g.T.Sink.faults g.C.Commands.sound g.C.Commands.faults g.C.Commands.opens g.C.Commands.follows g.C.Commands.passes)
    g.C.Commands.awaits g.C.Commands.plans g.C.Commands.follows c.loop.invariant c.next-action.ensures.next

pub returns-in-Some-end : goal.returns-in-Some-end
returns-in-Some-end g c =
    job-ends (job_world g.Y.Source.left g.Y.Source.taken g.Y.Source.faults
    g.T.Sink.given g.T.Sink.faults g.C.Commands.sound g.C.Commands.faults g.C.Commands.opens g.C.Commands.follows g.C.Commands.passes)
    g.C.Commands.awaits g.C.Commands.plans g.C.Commands.follows c.loop.invariant c.next-action.ensures.next c.act-reply.new.machine c.act-reply.new.side
    c.act-reply.result _ c.act-reply.ensures.acts (sym c.end_of-end.ensures ∙ c.in-Some-end.is) (λ commands opening givens now follows. (commands, follows))

pub loop-preserved : goal.loop-preserved
loop-preserved g c =
    job-goes (job_world g.Y.Source.left g.Y.Source.taken g.Y.Source.faults
    g.T.Sink.given g.T.Sink.faults g.C.Commands.sound g.C.Commands.faults g.C.Commands.opens g.C.Commands.follows g.C.Commands.passes)
    g.C.Commands.awaits g.C.Commands.plans g.C.Commands.follows c.loop.invariant c.next-action.ensures.next c.act-reply.new.machine c.give.new.self
    c.act-reply.new.side c.act-reply.result c.give.result c.act-reply.ensures.acts
    (sym c.end_of-end.ensures ∙ c.in_default.is) c.give.ensures.ok c.give.ensures.err c.give.ensures.lacks c.give.ensures.kept
