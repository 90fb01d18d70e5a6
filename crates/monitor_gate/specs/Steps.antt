-- What each kind of step tells the process that makes it.
use Rattle.std.specs.Prelude.{◌≡◌, ◌≢◌, ℕ, Bool, true, false, List, ◌∷◌, Option, Some, None}
use Rattle.atomic_table.specs.Table.{Me, Step, rest}
use Rattle.monitor_gate.specs.declared.view.Stage.TheVariants.{Inside, Delayed}
use Rattle.monitor_gate.specs.declared.view.View.{View}
use Rattle.monitor_gate.specs.Views.{at_stage, completed}

abbrev Sat : Type 0 → Type 0 → Type 0
Sat S E = Me (Option S) (View S E)

abbrev pub At : Type 0 → Type 0
At S = Step (Option S)

module _ {S E : Type 0} where
  -- the slot is taken, with this state
  abbrev pub inside : Sat S E → S → Sat S E
  inside m x = (at_stage (Inside x) m.0, (0, Some x) ∷ m.1)

  -- the state is tied to the lists of all processes, this one's own among them
  pub record Found (ties : S → S → (ℕ → List E) → Type 0) (opening : S) (number : ℕ) (own : List E) (x : S) : Type 0 where
    pub lists : ℕ → List E
    pub tied : ties opening x lists
    pub mine : lists number ≡ own

  abbrev pub entered : (S → Option ℕ) → (S → S → (ℕ → List E) → Type 0) → (ℕ → S → Bool) → At S → Sat S E → ℕ → Sat S E → Type 0
  entered handed ties waits st m found m' =
      (found ≡ st.first → (x : S) × (m' ≡ inside m x) × ((opening : S) → m.0.opening ≡ Some opening → Found ties opening m.0.number m.0.entries x) × (handed x ≡ None) × (waits m.0.number x ≡ false))
      × (found ≢ st.first → m' ≡ m)

  abbrev pub resumed : (S → Option ℕ) → (S → S → (ℕ → List E) → Type 0) → (ℕ → S → Bool) → (ℕ → S → Type 0) → At S → Sat S E → ℕ → Sat S E → Type 0
  resumed handed ties waits wakes st m found m' =
      (found ≡ st.first → (x : S) × (m' ≡ inside m x) × ((opening : S) → m.0.opening ≡ Some opening → Found ties opening m.0.number m.0.entries x) × (handed x ≡ Some m.0.number) × (waits m.0.number x ≡ true) × wakes m.0.number x)
      × (found ≢ st.first → m' ≡ m)

  abbrev pub left : List E → At S → Sat S E → ℕ → Sat S E → Type 0
  left gained st m found m' = m' ≡ (completed gained m.0, rest m.1)

  abbrev pub delayed : At S → Sat S E → ℕ → Sat S E → Type 0
  delayed st m found m' = m' ≡ (at_stage Delayed m.0, rest m.1)

  abbrev pub unchanged : At S → Sat S E → ℕ → Sat S E → Type 0
  unchanged st m found m' = m' ≡ m
