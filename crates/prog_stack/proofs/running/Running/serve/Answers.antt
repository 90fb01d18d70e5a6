use Rattle.std.proofs.Common.{refl, reverse}
use Rattle.program_task.specs.Run.{runner}
use Rattle.prog_stack.proofs.OwnRows.{only_ok, own_no_device}
use Rattle.prog_stack.proofs.StackRows.{own_not_run, reply_not_pushed}
use Rattle.prog_stack.proofs.running.Running.serve.Goals as goal

pub returns-in-Ok : goal.returns-in-Ok
returns-in-Ok g c = record {
  served = λ size few is. (
    c.serve.new.self,
    own_no_device c.args.call.now c.serve.ensures.own,
    c.in-Ok.ensures.fits,
    refl,
    c.in-Ok.ensures.anywhere,
    own_not_run c.args.call.now size c.args.self.now.top (reverse c.args.self.now.below.items) (g.A.Area.pages c.args.files.now.area)
        c.serve.ensures.own,
    λ pages room told places. c.in-Ok.ensures.ok pages (runner room) told,
  );
  well = λ e. absurd (reply_not_pushed c.in-Ok.reply e);
  sound = c.in-Ok.ensures.sound;
  cause = only_ok (g.A.Area.faults c.args.files.now.area) (g.A.Area.faults c.serve.new.files.area) c.in-Ok.reply c.in-Ok.ensures.cause;
}
