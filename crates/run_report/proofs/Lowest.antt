-- What the deciding cause says of the outcomes: it is the fault of some process, no fault has a lower number, and
-- where there is none no process ended with a fault.
use Rattle.std.proofs.Common.{◌≡◌, ◌⊎◌, inl, inr, ◌≤◌, Bool, true, false, nat_le, if◌then◌else◌, List, [], ◌∷◌, Option, Some, None, refl, subst, arith}
use Rattle.std.proofs.lemmas.Bool.Decides.{nat_tests}
use Rattle.solo_base.specs.declared.outcome.Cause.{Cause}
use Rattle.solo_base.specs.declared.outcome.Outcome.{Outcome}
use Rattle.solo_base.specs.declared.outcome.Outcome.TheVariants.{Done, Fault, Stopped}
use Rattle.run_report.specs.Status.{number_of}
use Rattle.run_report.specs.Decides.{lower, decides, IsIn}

either : (test : Bool) (a b : Cause) → ((if test then a else b) ≡ a) ⊎ ((if test then a else b) ≡ b)
either true a b = inl refl
either false a b = inr refl

from-rest : (d c : Cause) (others : List Outcome) → ((c : Cause) → decides others ≡ Some c → IsIn (Fault c) others)
    → (rest : Option Cause) → decides others ≡ rest → Some (lower d rest) ≡ Some c → IsIn (Fault c) (Fault d ∷ others)
from-rest d c others among None is e = inl cc
from-rest d c others among (Some x) is e = elim (either (nat_le (number_of d) (number_of x)) d x) [
  | inl first ↦ inl cc
  | inr second ↦ inr (among c cc)
]

pub among : (outcomes : List Outcome) (c : Cause) → decides outcomes ≡ Some c → IsIn (Fault c) outcomes
among [] c e = absurd cc
among (Done ∷ others) c e = inr (among others c e)
among (Stopped ∷ others) c e = inr (among others c e)
among (Fault d ∷ others) c e = from-rest d c others (among others) (decides others) refl e

pub no-fault : (outcomes : List Outcome) → decides outcomes ≡ None → (d : Cause) → IsIn (Fault d) outcomes → ⊥
no-fault [] e d at = at
no-fault (Done ∷ others) e d (inl is) = cc
no-fault (Done ∷ others) e d (inr at) = no-fault others e d at
no-fault (Stopped ∷ others) e d (inl is) = cc
no-fault (Stopped ∷ others) e d (inr at) = no-fault others e d at
no-fault (Fault c ∷ others) e d at = cc

no-higher : (test : Bool) (first second : Cause) → nat_le (number_of first) (number_of second) ≡ test
    → (number_of (if test then first else second) ≤ number_of first) × (number_of (if test then first else second) ≤ number_of second)
no-higher true first second is = (omega arith, grind (arith, nat_tests))
no-higher false first second is = (grind (arith, nat_tests), omega arith)

fault-is : {a b : Cause} → Fault a ≡ Fault b → a ≡ b
fault-is same = cc

some-is : {a b : Cause} → Some a ≡ Some b → a ≡ b
some-is same = cc

least-of : (d : Cause) (others : List Outcome) → ((c : Cause) → decides others ≡ Some c → (e : Cause) → IsIn (Fault e) others → number_of c ≤ number_of e)
    → (rest : Option Cause) → decides others ≡ rest → (e : Cause) → IsIn (Fault e) (Fault d ∷ others) → number_of (lower d rest) ≤ number_of e
least-of d others below None is e (inl same) = subst (λ x. number_of d ≤ number_of x) (fault-is same) (omega arith)
least-of d others below None is e (inr at) = absurd (no-fault others is e at)
least-of d others below (Some x) is e (inl same) =
    subst (λ y. number_of (lower d (Some x)) ≤ number_of y) (fault-is same) ((no-higher (nat_le (number_of d) (number_of x)) d x refl).0)
least-of d others below (Some x) is e (inr at) =
    let second : _ = (no-higher (nat_le (number_of d) (number_of x)) d x refl).1 in
    let later : _ = below x is e at in
    omega (arith, second, later)

pub least : (outcomes : List Outcome) (c : Cause) → decides outcomes ≡ Some c → (e : Cause) → IsIn (Fault e) outcomes → number_of c ≤ number_of e
least [] c is e at = absurd at
least (Done ∷ others) c is e (inl same) = absurd cc
least (Done ∷ others) c is e (inr at) = least others c is e at
least (Stopped ∷ others) c is e (inl same) = absurd cc
least (Stopped ∷ others) c is e (inr at) = least others c is e at
least (Fault d ∷ others) c is e at =
    subst (λ x. number_of x ≤ number_of e) (some-is is) (least-of d others (least others) (decides others) refl e at)
