use Rattle.std.proofs.Common.{sym, subst}
use Rattle.stack_machine.specs.Standing.{Awaits}
use Rattle.prog_stack.specs.declared.frame.Frame.{Frame}
use Rattle.prog_stack.proofs.StackRows.{caller_awaits}
use Rattle.prog_stack.proofs.running.Running.pop.Goals as goal

pub answer-requires : goal.answer-requires
answer-requires c =
    let limit = c.args.self.now.top.machine.limit in
    let items = c.args.self.now.below.items in
    subst (λ (f : Frame). Awaits f.machine c.ran.result) (sym c.replace-ended.ensures.after)
    (caller_awaits limit items c.pop.new.self.items c.in-Some.caller c.args.finish c.ran.result c.in-Some.ensures.items c.requires.callers
    c.requires.ticks c.ran.ensures.fits)
