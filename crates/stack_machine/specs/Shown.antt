-- What a store shows of the program, and what it has room for.
use Rattle.std.specs.Prelude.{◌≡◌, ℕ}
use Rattle.stack_code.specs.CodeLists.{CodeLists}
use Rattle.stack_machine.specs.declared.room.Room.{Room}
use Rattle.stack_machine.specs.declared.state.Store.{Store}
use Rattle.stack_machine.specs.States.{State}
use Rattle.stack_machine.specs.Slots.{shown_slot}
use Rattle.stack_machine.specs.Store.{Needs}

abbrev pub shown : Store → State
shown s = record {
  below = s.below.waiting;
  current = shown_slot s.current;
  ticks = s.ticks;
  ended = s.ended;
}

-- the room for those that wait, and for the words and the operands of the current one
abbrev pub rooms : Store → Room × ℕ × ℕ
rooms s = (s.below.room, s.current.words.room, s.current.operands.room)

-- the store is as large as the code needs: each activation has the same room, and may take the place of any other
abbrev pub IsRoomy : CodeLists → Room × ℕ × ℕ → Type 0
IsRoomy c r = Needs c r.0 × (r.1 ≡ r.0.words) × (r.2 ≡ r.0.height)

-- another state in the same store
abbrev pub in_store : Store → State → Store
in_store s t = record {
  below =
      record s.below { waiting = t.below };
  current =
      record {
        routine =
            t.current.routine;
        place = t.current.place;
        line = t.current.line;
        words = record s.current.words { words = t.current.words };
        operands = record s.current.operands { words = t.current.operands };
      };
  ticks = t.ticks;
  ended = t.ended;
}
