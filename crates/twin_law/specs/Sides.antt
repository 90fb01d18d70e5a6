-- The two sides, each with a job process between two spools; and what is dealt to them in turn.
use Rattle.std.specs.Prelude.{ℕ, List, [], ◌∷◌}

pub data Twin : Type 0 where
  A : Twin
  B : Twin

abbrev pub other : Twin → Twin
other A = B
other B = A

-- the spool to the job process of a side, and the spool from it
abbrev pub to_job : Twin → ℕ
to_job A = 2
to_job B = 3

abbrev pub from_job : Twin → ℕ
from_job A = 4
from_job B = 5

-- ---- in turn
pub record Dealt (T : Type 0) : Type 0 where
  pub a : List T
  pub b : List T

-- the first goes to A, and the others are dealt with the sides exchanged
abbrev pub dealt : {T : Type 0} → List T → Dealt T
dealt [] = record { a = []; b = [] }
dealt (x ∷ rest) = record { a = x ∷ (dealt rest).b; b = (dealt rest).a }
