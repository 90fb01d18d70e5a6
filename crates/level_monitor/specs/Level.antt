-- A level between 0 and 3. Processes 1 and 3 raise it and wait at 3, processes 2 and 4 lower it and wait at 0.
use Rattle.std.specs.Prelude.{◌≡◌, ℕ, zero, suc, ◌+◌, ◌%◌, ◌==◌, if◌then◌else◌, ◌<◌, ◌≤◌, Bool, true, false, List, [], ◌∷◌, length, slice_index_or, slice_set, Some, None}
use Rattle.level_monitor.specs.declared.level.Change.{Change}
use Rattle.level_monitor.specs.declared.level.Change.TheVariants.{Raise, Lower}
use Rattle.level_monitor.specs.declared.level.Level.{Level}

-- the change that process p makes
abbrev pub change_of : ℕ → Change
change_of p = if p % 2 == 1 then Raise else Lower

abbrev pub raised_by : Change → ℕ
raised_by Raise = 1
raised_by Lower = 0

abbrev pub lowered_by : Change → ℕ
lowered_by Raise = 0
lowered_by Lower = 1

abbrev pub sum_of : (Change → ℕ) → List Change → ℕ
sum_of f [] = 0
sum_of f (e ∷ es) = f e + sum_of f es

-- over the processes 1 to n
abbrev pub total : (Change → ℕ) → ℕ → (ℕ → List Change) → ℕ
total f zero lists = 0
total f (suc n) lists = sum_of f (lists (suc n)) + total f n lists

-- the level rose once with each raise, and fell once with each lowering
pub record IsTied (opening state : Level) (lists : ℕ → List Change) : Type 0 where
  pub four : length state.waiting ≡ 5
  pub range : state.level ≤ 3
  pub level : state.level + total lowered_by 4 lists ≡ opening.level + total raised_by 4 lists

abbrev pub is_waiting : ℕ → Level → Bool
is_waiting p state = slice_index_or state.waiting p false

-- process p can change the level now
abbrev pub CanGo : ℕ → Level → Type 0
CanGo p state = (p % 2 ≡ 1 → state.level < 3) × (p % 2 ≡ 0 → 0 < state.level)

pub record IsWoken (p : ℕ) (state : Level) : Type 0 where
  pub turn : state.turn ≡ Some p
  pub can : CanGo p state

pub record Moves (p : ℕ) (before : Level) (entry : Change) (after : Level) : Type 0 where
  pub process : (1 ≤ p) × (p ≤ 4)
  pub call : entry ≡ change_of p
  pub range : after.level ≤ 3
  pub level : after.level + lowered_by entry ≡ before.level + raised_by entry
  pub waiting : after.waiting ≡ slice_set before.waiting p false
  pub woken : (q : ℕ) → after.turn ≡ Some q → (is_waiting q after ≡ true) × CanGo q after

pub record Rests (p : ℕ) (before after : Level) : Type 0 where
  pub process : (1 ≤ p) × (p ≤ 4)
  pub level : after.level ≡ before.level
  pub waiting : after.waiting ≡ slice_set before.waiting p true
  pub free : after.turn ≡ None
