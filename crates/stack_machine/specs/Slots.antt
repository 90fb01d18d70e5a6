-- The slots of a store, each with the room for any activation.
use Rattle.std.specs.Prelude.{◌≡◌, List, [], ◌∷◌}
use Rattle.stack_machine.specs.declared.room.Room.{Room}
use Rattle.stack_machine.specs.declared.slot.Slot.{Slot}
use Rattle.stack_machine.specs.States.{Activation}

-- the activation that a slot holds
abbrev pub shown_slot : Slot → Activation
shown_slot a = record {
  routine = a.routine;
  place = a.place;
  line = a.line;
  words = a.words.words;
  operands = a.operands.words;
}

-- a slot has this room, and so has each of a list
abbrev pub HasRoomOf : Room → Slot → Type 0
HasRoomOf room a = (a.words.room ≡ room.words) × (a.operands.room ≡ room.height)

abbrev pub HaveRoomOf : Room → List Slot → Type 0
HaveRoomOf room [] = Unit {0}
HaveRoomOf room (a ∷ slots) = HasRoomOf room a × HaveRoomOf room slots
