-- How the claims stand in queues: who waits is in the queue at its position.
use Rattle.std.specs.Prelude.{◌≡◌, ◌≢◌, ℕ, ◌<◌, Option, None, Some, List, [], ◌∷◌, ◌++◌, length, option_to_list, slice_index_or}
use Rattle.std.specs.List.{AllByRecursion}
use Rattle.resource_mon.specs.Claims.{IsNoneOf}
use Rattle.queue_var.specs.declared.turn.Turn.{Turn}
use Rattle.queue_var.specs.declared.turn.Turn.TheVariants.{Handed}

abbrev pub in_queue : List (Option ℕ) → ℕ → Option ℕ
in_queue queues k = slice_index_or queues k None

-- one of the queues holds the process
abbrev pub StandsIn : List (Option ℕ) → ℕ → Type 0
StandsIn queues p = (k : ℕ) × (k < length queues) × (in_queue queues k ≡ Some p)

-- the processes at these positions, in their order
abbrev pub processes_at : List (Option ℕ) → List ℕ → List ℕ
processes_at queues [] = []
processes_at queues (k ∷ ks) = option_to_list (in_queue queues k) ++ processes_at queues ks

-- At each position in use stands a process, at no other does one but the holder, and that only while
-- the turn is handed to it.
pub record Queued (N : ℕ) (queues : List (Option ℕ)) (positions : List ℕ) (turn : Turn ℕ) (holder : Option ℕ) : Type 0 where
  pub in_use : AllByRecursion (λ k. (k < N) × ((p : ℕ) × (in_queue queues k ≡ Some p))) positions
  pub unused : (k : ℕ) → k < N → IsNoneOf positions k → turn ≢ Handed k → in_queue queues k ≡ None
  pub handed : (k : ℕ) → turn ≡ Handed k → (k < N) × IsNoneOf positions k × (in_queue queues k ≡ holder) × ((p : ℕ) × (holder ≡ Some p))
