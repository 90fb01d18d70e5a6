-- The law of a FIFO: the positions that wait, in order of arrival, by all arrivals and departures so far.
use Rattle.std.specs.Prelude.{◌≡◌, ℕ, ◌+◌, ◌%◌, List, [], ◌∷◌, ◌++◌, drop}

pub data Move : Type 0 where
  Arrival : Move
  Departure : Move

-- what a FIFO shows: the positions of those that have arrived and not departed, the earliest first,
-- and the position of the next arrival
pub record Positions : Type 0 where
  pub waiting : List ℕ
  pub next : ℕ

-- how many have arrived. A history has its newest move first
abbrev pub arrivals : List Move → ℕ
arrivals [] = 0
arrivals (Arrival ∷ before) = arrivals before + 1
arrivals (Departure ∷ before) = arrivals before

-- The k-th arrival, from 0, gets position k mod N.
abbrev pub arrival_position : ℕ → List Move → ℕ
arrival_position N before = arrivals before % N

-- the positions of those that have arrived and not departed, the earliest first
abbrev pub waiting : ℕ → List Move → List ℕ
waiting N [] = []
waiting N (Arrival ∷ before) = waiting N before ++ arrival_position N before ∷ []
waiting N (Departure ∷ before) = drop 1 (waiting N before)

-- the positions that a FIFO of N shows after this history
pub record StandsFor (N : ℕ) (history : List Move) (positions : Positions) : Type 0 where
  pub waiting_is : positions.waiting ≡ waiting N history
  pub next_is : positions.next ≡ arrival_position N history
