-- The rule of a gate, which holds between any two steps.
-- The word is the turn: 0 where the gate is free, 1 where a process is inside, p + 2 where it is handed to process p. Above the turn it has marks, of which the rule says nothing: whether a process may be asleep on it, and which process would only be delayed inside.
-- The slot has the state, and is out with the process inside.
use Rattle.std.specs.Prelude.{◌≡◌, ◌≢◌, ℕ, ◌+◌, ◌*◌, ◌<◌, ◌≤◌, Bool, true, false, List, [], ◌∷◌, length, slice_index, Option, Some, None}
use mathlib.Core.Option.{some, none}
use lib.ListN.{get_elem?}
use Rattle.atomic_table.specs.Table.{State}
use Rattle.monitor_gate.specs.declared.view.Line.{Line}
use Rattle.monitor_gate.specs.declared.view.Stage.{Stage}
use Rattle.monitor_gate.specs.declared.view.Stage.TheVariants.{Spent, Making, Outside, Inside, Delayed}
use Rattle.monitor_gate.specs.declared.view.View.{View}
use Rattle.monitor_gate.specs.Views.{lines, Each, AreApart}

-- the process is in one of its entries
abbrev pub IsWithin : {S : Type 0} → Stage S → Type 0
IsWithin (Inside x) = Unit {0}
IsWithin Delayed = Unit {0}
IsWithin _ = ⊥

-- all views that aren't spent have the opening state
abbrev pub Agrees : {S : Type 0} → S → Stage S → Option S → Type 0
Agrees opening Spent known = Unit {0}
Agrees opening _ known = known ≡ Some opening

-- A process waits in the state exactly where its pass is delayed. Inside there is one process, which keeps the state as it was taken. The first seat is the maker's.
abbrev pub Stands : {S : Type 0} → (ℕ → S → Bool) → S → ℕ → ℕ → ℕ → ℕ → ℕ → Stage S → Type 0
Stands waits now made turn inside seat number Spent = Unit {0}
Stands waits now made turn inside seat number (Making count) = (count ≡ made) × (seat ≡ 0)
Stands waits now made turn inside seat number Outside = waits number now ≡ false
Stands waits now made turn inside seat number (Inside x) = (x ≡ now) × (turn ≡ 1) × (seat ≡ inside)
Stands waits now made turn inside seat number Delayed = waits number now ≡ true

-- A line has the entries of its process, whose number was made, and no other seat has that number.
pub record IsLineOf {E : Type 0} (lists : ℕ → List E) (owner : ℕ → ℕ) (made seat : ℕ) (l : Line E) : Type 0 where
  pub has : lists l.number ≡ l.entries
  pub owned : owner l.number ≡ seat
  pub low : 1 ≤ l.number
  pub high : l.number ≤ made

-- What the rule says of the view of one seat.
pub record Fits {S E : Type 0} (waits : ℕ → S → Bool) (opening now : S) (lists : ℕ → List E) (owner : ℕ → ℕ) (made turn inside seat : ℕ) (v : View S E) : Type 0 where
  pub agrees : Agrees opening v.stage v.opening
  pub stands : Stands waits now made turn inside seat v.number v.stage
  pub listed : Each (IsLineOf lists owner made seat) (lines v)
  pub apart : AreApart (lines v)

-- The seat whose process is in a queue variable.
pub record Waiter {S E : Type 0} (views : List (View S E)) (p : ℕ) : Type 0 where
  pub seat : ℕ
  pub view : View S E
  pub there : get_elem? views seat ≡ some view
  pub is : view.number ≡ p
  pub within : IsWithin view.stage

-- The process inside.
pub record Insider {S E : Type 0} (views : List (View S E)) (now : S) (seat : ℕ) : Type 0 where
  pub view : View S E
  pub there : get_elem? views seat ≡ some view
  pub within : view.stage ≡ Inside now

-- The turn is handed to process p.
pub record HandedTo {S : Type 0} (handed : S → Option ℕ) (waits : ℕ → S → Bool) (wakes : ℕ → S → Type 0) (p : ℕ) (now : S) : Type 0 where
  pub turn : handed now ≡ Some p
  pub waiting : waits p now ≡ true
  pub wakes_it : wakes p now

pub record IsKept {S E : Type 0} (handed : S → Option ℕ) (ties : S → S → (ℕ → List E) → Type 0) (waits : ℕ → S → Bool) (wakes : ℕ → S → Type 0) (opening : S) (passes : ℕ) (s : State (Option S) (View S E)) : Type 0 where
  -- the state that is at home, or that was taken
  pub now : S
  pub lists : ℕ → List E
  -- the seat that has each number
  pub owner : ℕ → ℕ
  -- how many passes were made
  pub made : ℕ
  pub turn : ℕ
  pub marks : ℕ
  -- the seat of the process inside
  pub inside : ℕ
  pub one_word : length s.words ≡ 1
  pub word_is : slice_index s.words 0 ≡ turn + 65536 * marks
  pub word_low : turn < 65536
  pub few : made ≤ passes
  pub tied : ties opening now lists
  pub unmade : (p : ℕ) → (1 ≤ p → made < p) → lists p ≡ []
  pub home : turn ≢ 1 → s.homes ≡ some (Some now) ∷ []
  pub out : turn ≡ 1 → s.homes ≡ none ∷ []
  pub free : turn ≡ 0 → handed now ≡ None
  pub handed_on : (p : ℕ) → turn ≡ p + 2 → HandedTo handed waits wakes p now
  pub entered : turn ≡ 1 → Insider s.views now inside
  pub waiting : (p : ℕ) → waits p now ≡ true → Waiter s.views p
  pub each : (seat : ℕ) (v : View S E) → get_elem? s.views seat ≡ some v → Fits waits opening now lists owner made turn inside seat v
