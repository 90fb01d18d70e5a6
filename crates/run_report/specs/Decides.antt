-- The cause that decides how a run of processes ended.
use Rattle.std.specs.Prelude.{◌≡◌, ◌⊎◌, List, [], ◌∷◌, Option, Some, None, nat_le, if◌then◌else◌}
use Rattle.solo_base.specs.declared.outcome.Cause.{Cause}
use Rattle.solo_base.specs.declared.outcome.Outcome.{Outcome}
use Rattle.solo_base.specs.declared.outcome.Outcome.TheVariants.{Done, Fault, Stopped}
use Rattle.run_report.specs.Status.{number_of}

-- the cause with the lower number; of two with one number, the first
abbrev pub lower : Cause → Option Cause → Cause
lower first None = first
lower first (Some second) = if nat_le (number_of first) (number_of second) then first else second

-- of the faults of all processes, the one with the lowest number; a process that was stopped never decides
abbrev pub decides : List Outcome → Option Cause
decides [] = None
decides (Done ∷ others) = decides others
decides (Stopped ∷ others) = decides others
decides (Fault cause ∷ others) = Some (lower cause (decides others))

-- one of the outcomes
abbrev pub IsIn : Outcome → List Outcome → Type 0
IsIn outcome [] = ⊥
IsIn outcome (first ∷ others) = (first ≡ outcome) ⊎ IsIn outcome others
