-- What an area in memory gives where it can't fail.
use Rattle.std.proofs.Common.{◌≡◌, ℕ, List, Some, refl, ap, arith}
use Rattle.std.proofs.lemmas.Bool.{eq-eqb, ne_eqb}
use Rattle.std.specs.Prelude.{slice_get, slice_set}
use Rattle.solo_devices.specs.Area.{ReadsOf}
use Rattle.solo_devices.specs.Count.{Rose}
use Rattle.solo_devices.specs.HurtArea.{Harm, harmed}
use Rattle.solo_devices.specs.declared.area.Moved.{Moved}
use Rattle.solo_devices.specs.declared.area.Moved.TheVariants.{Done, Failed}

-- a count that is always 0 can't rise
never_rose : Rose 0 0 → ⊥
never_rose rose = omega (arith, rose)

-- so the read is done, and gives the page that is there
pub gave : (all : List (List ℕ)) (n : ℕ) (answer : Moved) (page given : List ℕ) → ReadsOf all n answer given → (answer ≡ Failed → Rose 0 0) → slice_get all n ≡ Some page → given ≡ page
gave all n Done page given gives cause found = cc
gave all n Failed page given gives cause found = absurd (never_rose (cause refl))

-- at the read that is damaged, and at another
pub harmed_here : (harm : Harm) (read : ℕ) (page given : List ℕ) → given ≡ page → read ≡ harm.read → slice_set given harm.at harm.byte ≡ harmed harm read page
harmed_here harm read page given is here = rw (eq-eqb read harm.read here) (ap (λ p. slice_set p harm.at harm.byte) is)

pub harmed_elsewhere : (harm : Harm) (read : ℕ) (page given : List ℕ) → given ≡ page → (read ≡ harm.read → ⊥) → given ≡ harmed harm read page
harmed_elsewhere harm read page given is elsewhere = rw (ne_eqb read harm.read elsewhere) is
