-- Which monitors are free, where one process was inside some.
use Rattle.std.proofs.Common.{◌≡◌, Bool, true, false, [], ◌∷◌, ap}
use Rattle.std.specs.Prelude.{if◌then◌else◌}
use mathlib.Core.Logic.{inl, inr}
use Rattle.access_check.specs.Places.{same}
use Rattle.access_check.specs.RunRows.{monitor_a, monitor_b}
use Rattle.access_check.specs.Runs.{IsListed}

pub beside_the_first : (here : Bool) → IsListed monitor_b (if here then monitor_a ∷ [] else []) → ⊥
beside_the_first true (inl e) = (let no : true ≡ false = ap (same monitor_b) e in absurd cc)
beside_the_first true (inr there) = there
beside_the_first false there = there

pub behind_both : (here : Bool) → IsListed monitor_a
    (if here then [] else (if here then monitor_a ∷ [] else (if here then monitor_b ∷ monitor_a ∷ [] else (if here then monitor_a ∷ [] else []))))
    → ⊥
behind_both true there = there
behind_both false there = there
