use Rattle.std.proofs.Common.{◌+◌, ◌∙◌, ap, length}
use Rattle.std.proofs.lemmas.List.{length-append}
use Rattle.stack_machine.specs.Store.{Bounded}
use Rattle.stack_machine.proofs.Slots.{room_pushed}
use Rattle.stack_machine.proofs.waiting.Waiting.new.Goals as goal

pub loop-slot-preserved : goal.loop-slot-preserved
loop-slot-preserved c =
    let pushed = c.in_ok-push.ensures.items in
    record {
      long = ap length pushed ∙ length-append c.loop-slot.slots.items _ ∙ ap (λ n. n + 1) c.loop-slot.invariant.long;
      room =
          rw pushed
          (room_pushed c.args.room c.loop-slot.slots.items _ c.loop-slot.invariant.room
          (ap (λ (b : Bounded). b.room) c.in_ok-new.ensures, ap (λ (b : Bounded). b.room) c.in_ok-new-2.ensures));
    }
