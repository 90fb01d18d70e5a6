-- What a monitor kind promises of its entries.
use Rattle.std.specs.Prelude.{◌≡◌, ◌≢◌, ℕ, ◌==◌, if◌then◌else◌, Bool, true, false, List, [], ◌∷◌, ◌++◌, Option, Some, None}

-- the lists of entries, by process, with one more entry of process p
abbrev pub with_entry : {E : Type 0} → (ℕ → List E) → ℕ → E → ℕ → List E
with_entry lists p entry q = if q == p then lists q ++ entry ∷ [] else lists q

-- every process but p waits in `after` exactly as in `before`
abbrev pub OthersWait : {S : Type 0} → (ℕ → S → Bool) → ℕ → S → S → Type 0
OthersWait waits p before after = (q : ℕ) → q ≢ p → waits q after ≡ waits q before

-- An entry of process p was completed: p is out, the others wait as before, and whoever has the turn was woken.
pub record Completes {S : Type 0} (handed : S → Option ℕ) (waits : ℕ → S → Bool) (wakes : ℕ → S → Type 0) (p : ℕ) (before after : S) : Type 0 where
  pub out : waits p after ≡ false
  pub others : OthersWait waits p before after
  pub woken : (q : ℕ) → handed after ≡ Some q → (waits q after ≡ true) × wakes q after

-- An entry of process p ended in a delay: p waits, the others wait as before, and nobody has the turn.
pub record Suspends {S : Type 0} (handed : S → Option ℕ) (waits : ℕ → S → Bool) (p : ℕ) (before after : S) : Type 0 where
  pub waiting : waits p after ≡ true
  pub others : OthersWait waits p before after
  pub free : handed after ≡ None
