-- The store of a program: what is kept in it, and the room that it has.
use Rattle.std.specs.Prelude.{◌≡◌, ℕ, ◌<◌, ◌≤◌, List, length, ℤ}
use Rattle.stack_code.specs.CodeLists.{CodeLists, routine_at}
use Rattle.stack_machine.specs.declared.room.Room.{Room}
use Rattle.stack_machine.specs.States.{Activation}

-- words of which there is room for so many
pub record Bounded : Type 0 where
  pub words : List ℤ
  pub room : ℕ

-- the activations that wait, in the room that was taken for them
pub record Waiters : Type 0 where
  pub waiting : List Activation
  pub room : Room

-- The code needs this room and no more: it holds the largest frame and the highest operand stack, and 63
-- activations that wait if there is a routine to call, else none.
pub record Needs (c : CodeLists) (room : Room) : Type 0 where
  pub words : (k : ℕ) → (routine_at c k).words ≤ room.words
  pub no_more_words : (n : ℕ) → ((k : ℕ) → (routine_at c k).words ≤ n) → room.words ≤ n
  pub height : (k : ℕ) → (routine_at c k).height ≤ room.height
  pub no_higher : (n : ℕ) → ((k : ℕ) → (routine_at c k).height ≤ n) → room.height ≤ n
  pub waiting : 1 < length c.routines → room.waiting ≡ 63
  pub nobody_waits : length c.routines ≤ 1 → room.waiting ≡ 0
