-- How a circle of positions keeps a FIFO: by the position of the earliest, and how many wait.
use Rattle.std.specs.Prelude.{ℕ, zero, suc, ◌+◌, ◌-◌, List, [], ◌∷◌, nat_lt, if◌then◌else◌}
use Rattle.queue_var.specs.Fifo.{Positions}

-- the position so many places behind the first, around the circle of N
abbrev pub place : ℕ → ℕ → ℕ → ℕ
place N first i = if nat_lt (first + i) N then first + i else first + i - N

-- so many places in a row, beginning i places behind the first
abbrev pub places : ℕ → ℕ → ℕ → ℕ → List ℕ
places N first i zero = []
places N first i (suc k) = place N first i ∷ places N first (suc i) k

-- what a FIFO of N shows where so many wait, the earliest at the position `first`
abbrev pub shown : ℕ → ℕ → ℕ → Positions
shown N first length = record { waiting = places N first 0 length; next = place N first length }
