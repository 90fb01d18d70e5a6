-- How far a process is in an exchange with its neighbour, and what it moved at their three buffers by then.
use Rattle.std.specs.Prelude.{◌≡◌, ℕ, ◌+◌, Bool, true, false, List, [], ◌∷◌}

-- how many marks say so, and how many don't
abbrev pub trues : List Bool → ℕ
trues [] = 0
trues (true ∷ marks) = trues marks + 1
trues (false ∷ marks) = trues marks

abbrev pub falses : List Bool → ℕ
falses [] = 0
falses (true ∷ marks) = falses marks
falses (false ∷ marks) = falses marks + 1

-- between orders, while pages are moved, before the report, and behind the dismissal
pub data Phase : Type 0 where
  Idle : Phase
  Moving : Phase
  Reporting : Phase
  Left : Phase

-- So many orders, dismissals, last pages and reports it moved: the same for who orders and for who serves.
abbrev pub PhaseIs : Phase → ℕ → ℕ → ℕ → ℕ → Type 0
PhaseIs Idle orders dismissals lasts reports = (orders ≡ lasts) × (lasts ≡ reports) × (dismissals ≡ 0)
PhaseIs Moving orders dismissals lasts reports = (orders ≡ lasts + 1) × (lasts ≡ reports) × (dismissals ≡ 0)
PhaseIs Reporting orders dismissals lasts reports =
    (orders ≡ lasts) × (lasts ≡ reports + 1) × (dismissals ≡ 0)
PhaseIs Left orders dismissals lasts reports = (orders ≡ lasts) × (lasts ≡ reports) × (dismissals ≡ 1)

-- behind a page that is the last or isn't
abbrev pub phase_behind : Bool → Phase
phase_behind true = Reporting
phase_behind false = Moving
