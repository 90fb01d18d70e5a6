-- So many slots were made, each with the room.
use Rattle.std.proofs.Common.{◌≡◌, length}
use Rattle.stack_machine.specs.Slots.{HaveRoomOf}
use Rattle.stack_machine.proofs.waiting.Waiting.new.Given as goal

abbrev pub invariant-loop-slot : goal.invariant-loop-slot
invariant-loop-slot l = record { long : length l.slots.items ≡ l.slot; room : HaveRoomOf l.room l.slots.items }
