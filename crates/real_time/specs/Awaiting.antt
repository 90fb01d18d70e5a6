-- What a task's row keeps of its plan: the second of its next start.
use Rattle.std.specs.Prelude.{◌≡◌, ◌<◌, ◌≤◌, ◌+◌, ◌==◌, ℕ, Bool, true, List, [], ◌∷◌, Option, Some, None, if◌then◌else◌}
use Rattle.std.specs.Str.{bytes_eq}
use Rattle.real_time.specs.declared.plan.Plan.{Plan}
use Rattle.real_time.specs.declared.plan.Plan.TheVariants.{Never, First}
use Rattle.real_time.specs.Starts.{Change, is_due, plan_of}

pub record Row : Type 0 where
  pub name : List ℕ
  pub next : Option ℕ
  pub period : ℕ

abbrev pub has_name : List ℕ → Row → Bool
has_name name row = bytes_eq name row.name

abbrev pub unplanned : List ℕ → Row
unplanned name = record { name = name; next = None; period = 0 }

-- Its time has not passed.
abbrev pub IsAhead : Plan → ℕ → Type 0
IsAhead Never now = Unit {0}
IsAhead (First start period) now = now < start

-- Its period is no longer than the clock runs.
abbrev pub IsShort : Plan → Type 0
IsShort Never = Unit {0}
IsShort (First start period) = period ≤ 1000000

-- the start behind one in this second, where the period isn't 0
abbrev pub next_behind : ℕ → ℕ → Option ℕ
next_behind second period = if period == 0 then None else Some (second + period)

-- The first second behind this one in which the plan has the task start, where there is one.
pub record IsNextStart (plan : Plan) (now : ℕ) (next : Option ℕ) : Type 0 where
  pub behind : (second : ℕ) → next ≡ Some second → now < second
  pub due : (second : ℕ) → next ≡ Some second → is_due plan second ≡ true
  pub least : (second : ℕ) → now < second → is_due plan second ≡ true
      → (first : ℕ) × (next ≡ Some first) × (first ≤ second)

-- A row stands for a plan once this second has passed.
pub record Awaits (plan : Plan) (now : ℕ) (row : Row) : Type 0 where
  pub next : IsNextStart plan now row.next
  pub period : (second : ℕ) → row.next ≡ Some second → (start : ℕ) × (plan ≡ First start row.period)

-- Whether the task starts in this second is what its plan says, and the row then stands for the plan once the
-- second has passed.
pub record Passed (plan : Plan) (second : ℕ) (old new : Row) (starts : Bool) : Type 0 where
  pub starts_are : starts ≡ is_due plan second
  pub awaits : Awaits plan second new

-- Each row stands for the plan that its task has by what was accepted.
abbrev pub AllAwait : List Change → ℕ → List Row → Type 0
AllAwait accepted now [] = Unit {0}
AllAwait accepted now (row ∷ rows) = Awaits (plan_of row.name accepted) now row × AllAwait accepted now rows
