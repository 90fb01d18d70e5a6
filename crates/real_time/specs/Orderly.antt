-- What the time table keeps, whoever calls.
use Rattle.std.specs.Prelude.{◌≡◌, ◌<◌, ◌+◌, ◌⊎◌, ℕ, true, false, None, Some, length}
use Rattle.queue_var.specs.declared.turn.Turn.TheVariants.{Free, Handed}
use Rattle.real_time.specs.declared.table.Seat.TheVariants.{Operator, Task}
use Rattle.real_time.specs.Table.{Table, all_left, has_left, sleeper_at}

-- The operator waits for a task that is in no queue and has not left.
pub record IsAwaited (t : Table) (place : ℕ) : Type 0 where
  pub one : place < 8
  pub awake : sleeper_at t.queues place ≡ None
  pub here : has_left t place ≡ false
  pub open_yet : t.closed ≡ false
  pub operator : t.operator ≡ Some 1
  pub free : t.turn ≡ Free

-- Each queue holds nobody but its own process, and the turn is handed to one that waits. The operator waits
-- with cause. Once the table is closed, a task waits only while the turn is handed to a task.
pub record IsOrderly (t : Table) : Type 0 where
  pub queues : length t.queues ≡ 8
  pub places : length t.left ≡ 8
  pub own : (place p : ℕ) → sleeper_at t.queues place ≡ Some p → p ≡ place + 2
  pub operator : (p : ℕ) → t.operator ≡ Some p → p ≡ 1
  pub handed : (place : ℕ) → t.turn ≡ Handed (Task place) → sleeper_at t.queues place ≡ Some (place + 2)
  pub handed_operator : t.turn ≡ Handed Operator → t.operator ≡ Some 1
  pub outside : (place : ℕ) → t.turn ≡ Handed (Task place) → t.closed ≡ false → t.operator ≡ None
  pub awaits : (place : ℕ) → t.awaited ≡ Some place → IsAwaited t place
  pub waits : t.operator ≡ Some 1 → t.turn ≡ Free
      → ((place : ℕ) × (t.awaited ≡ Some place)) ⊎ ((t.closed ≡ true) × (all_left t ≡ false))
  pub gone : (place : ℕ) → has_left t place ≡ true → (sleeper_at t.queues place ≡ None) × (t.closed ≡ true)
  pub all_go : t.closed ≡ true → (place p : ℕ) → sleeper_at t.queues place ≡ Some p
      → (next : ℕ) × (t.turn ≡ Handed (Task next))
