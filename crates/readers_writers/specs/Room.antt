-- Readers and writers. Processes 1 and 3 read, processes 2 and 4 write.
use Rattle.std.specs.Prelude.{◌≡◌, ℕ, ◌%◌, ◌≤◌, Bool, true, false, List, [], ◌∷◌, length, slice_index_or, slice_set, Some, None}
use Rattle.readers_writers.specs.declared.room.Use.{Use}
use Rattle.readers_writers.specs.declared.room.Use.TheVariants.{Begin, End}
use Rattle.readers_writers.specs.declared.room.Room.{Room}

abbrev pub is_inside : ℕ → Room → Bool
is_inside p room = slice_index_or room.inside p false

abbrev pub is_waiting : ℕ → Room → Bool
is_waiting p room = slice_index_or room.waiting p false

-- by all that a process did, the oldest first, beginning from here: whether it is inside
abbrev pub inside_behind : Bool → List Use → Bool
inside_behind is [] = is
inside_behind is (Begin ∷ later) = inside_behind true later
inside_behind is (End ∷ later) = inside_behind false later

-- What the room is for: who writes is alone inside.
abbrev pub WritesAlone : Room → Type 0
WritesAlone room = (p q : ℕ) → 1 ≤ p → p ≤ 4 → 1 ≤ q → q ≤ 4 → p % 2 ≡ 0 → is_inside p room ≡ true
    → is_inside q room ≡ true → q ≡ p

-- Who is inside began and hasn't ended, and who writes is alone.
pub record IsTied (room : Room) (lists : ℕ → List Use) : Type 0 where
  pub places : (length room.inside ≡ 5) × (length room.waiting ≡ 5)
  pub inside : (p : ℕ) → 1 ≤ p → p ≤ 4 → is_inside p room ≡ inside_behind false (lists p)
  pub alone : WritesAlone room

-- A reader may begin where nobody writes, a writer where nobody is inside.
pub record MayBegin (p : ℕ) (room : Room) : Type 0 where
  pub no_writer : (is_inside 2 room ≡ false) × (is_inside 4 room ≡ false)
  pub no_reader : p % 2 ≡ 0 → (is_inside 1 room ≡ false) × (is_inside 3 room ≡ false)

pub record IsWoken (p : ℕ) (room : Room) : Type 0 where
  pub turn : room.turn ≡ Some p
  pub may : MayBegin p room

-- whoever has the turn waits, and may begin
abbrev pub WakesRightly : Room → Type 0
WakesRightly room = (q : ℕ) → room.turn ≡ Some q → (is_waiting q room ≡ true) × MayBegin q room

pub record Begins (p : ℕ) (before after : Room) : Type 0 where
  pub process : (1 ≤ p) × (p ≤ 4)
  pub may : MayBegin p before
  pub inside : after.inside ≡ slice_set before.inside p true
  pub waiting : after.waiting ≡ slice_set before.waiting p false
  pub woken : WakesRightly after

pub record Ends (p : ℕ) (before after : Room) : Type 0 where
  pub process : (1 ≤ p) × (p ≤ 4)
  pub inside : after.inside ≡ slice_set before.inside p false
  pub waiting : after.waiting ≡ slice_set before.waiting p false
  pub woken : WakesRightly after

abbrev pub Moves : ℕ → Room → Use → Room → Type 0
Moves p before Begin after = Begins p before after
Moves p before End after = Ends p before after

pub record Rests (p : ℕ) (before after : Room) : Type 0 where
  pub process : (1 ≤ p) × (p ≤ 4)
  pub inside : after.inside ≡ before.inside
  pub waiting : after.waiting ≡ slice_set before.waiting p true
  pub free : after.turn ≡ None
