use Rattle.std.proofs.Common.{arith}
use Rattle.stack_machine.specs.Shown.{shown}
use Rattle.stack_machine.specs.Slots.{shown_slot}
use Rattle.stack_machine.proofs.Last.{leave_from}
use Rattle.stack_machine.proofs.state.Store.leave.Goals as goal

pub returns-then-not-routine-clause-does : goal.returns-then-not-routine-clause-does
returns-then-not-routine-clause-does c =
    let from = leave_from c.args.code.now (shown c.args.self.now) c.resume.new.self.waiting (shown_slot c.resume.new.current) c.resume.ensures.resumed in
    grind (arith, from)

pub returns-then-not-has_room-clause-does : goal.returns-then-not-has_room-clause-does
returns-then-not-has_room-clause-does c =
    let from = leave_from c.args.code.now (shown c.args.self.now) c.resume-2.new.self.waiting (shown_slot c.resume-2.new.current) c.resume-2.ensures.resumed in
    grind (arith, from)

pub returns-clause-does : goal.returns-clause-does
returns-clause-does c =
    let from = leave_from c.args.code.now (shown c.args.self.now) c.resume-2.new.self.waiting (shown_slot c.resume-2.new.current) c.resume-2.ensures.resumed in
    grind (arith, from)
