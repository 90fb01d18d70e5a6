use Rattle.std.proofs.Common.{refl, sym, ◌∙◌}
use Rattle.batch_procs.specs.Table.{printer}
use Rattle.batch_sides.specs.Lines.{PrinterRan}
use Rattle.batch_sides.proofs.Going.{going-first, ends-here, follows-now, going-on, next-is}
use Rattle.batch_sides.proofs.Performing.{came-stays, came-whole, ended-so}
use Rattle.batch_sides.proofs.PrinterSteps.{printer-may_next, printer-did_next}
use Rattle.batch_sides.proofs.printer_side.run_paper.Goals as goal

pub loop-init : goal.loop-init
loop-init g c = going-first g.J.HasJobs.are_jobs c.new-machine.ensures c.requires

pub perform-reply-requires-clause-may : goal.perform-reply-requires-clause-may
perform-reply-requires-clause-may g c κs within =
    printer-may_next g.J.HasJobs.are_jobs _ c.loop.at.side c.loop.at.pass c.loop.invariant.history _ c.loop.invariant.connected
    (follows-now g.J.HasJobs.are_jobs refl c.loop.invariant c.next-action.ensures.next)
    (next-is g.J.HasJobs.are_jobs refl c.loop.invariant c.next-action.ensures.next)

pub without_disk-requires : goal.without_disk-requires
without_disk-requires g c =
    let ends = (ends-here g.J.HasJobs.are_jobs refl c.loop.invariant c.next-action.ensures.next
    (printer-did_next g.J.HasJobs.are_jobs _ c.loop.at.side c.loop.at.pass c.loop.invariant.history _ c.loop.invariant.connected
    (follows-now g.J.HasJobs.are_jobs refl c.loop.invariant c.next-action.ensures.next)
    (next-is g.J.HasJobs.are_jobs refl c.loop.invariant c.next-action.ensures.next) c.perform-reply.new.running.side
    c.perform-reply.new.running.pass c.perform-reply.result c.perform-reply.ensures.performs) (sym c.end_of-end.ensures ∙ c.in-Some-end.is)) in
    ends.stands.none

pub returns-then-not-whole : goal.returns-then-not-whole
returns-then-not-whole g c = came-stays c.come-told.ensures c.is_whole-whole.ensures c.if-not-whole.true refl

pub returns-in-Some-end : goal.returns-in-Some-end
returns-in-Some-end g c =
    let ends = (ends-here g.J.HasJobs.are_jobs refl c.loop.invariant c.next-action.ensures.next
    (printer-did_next g.J.HasJobs.are_jobs _ c.loop.at.side c.loop.at.pass c.loop.invariant.history _ c.loop.invariant.connected
    (follows-now g.J.HasJobs.are_jobs refl c.loop.invariant c.next-action.ensures.next)
    (next-is g.J.HasJobs.are_jobs refl c.loop.invariant c.next-action.ensures.next) c.perform-reply.new.running.side
    c.perform-reply.new.running.pass c.perform-reply.result c.perform-reply.ensures.performs) (sym c.end_of-end.ensures ∙ c.in-Some-end.is)) in
    came-whole c.come-told.ensures c.is_whole-whole.ensures c.if-not-whole.false
    (ended-so g.J.HasJobs.jobs printer (PrinterRan g.K.Sink.given g.K.Sink.faults c.args.paper) ends (ends.stands.none) c.without_disk.ensures)

pub loop-preserved : goal.loop-preserved
loop-preserved g c =
    going-on g.J.HasJobs.are_jobs refl c.loop.invariant c.next-action.ensures.next c.give.result
    (printer-did_next g.J.HasJobs.are_jobs _ c.loop.at.side c.loop.at.pass c.loop.invariant.history _ c.loop.invariant.connected
    (follows-now g.J.HasJobs.are_jobs refl c.loop.invariant c.next-action.ensures.next)
    (next-is g.J.HasJobs.are_jobs refl c.loop.invariant c.next-action.ensures.next) c.perform-reply.new.running.side
    c.perform-reply.new.running.pass c.perform-reply.result c.perform-reply.ensures.performs) (sym c.end_of-end.ensures
    ∙ c.in_default.is) c.give.ensures.ok c.give.ensures.err
