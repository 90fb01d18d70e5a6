-- What a table of statuses says of a cause.
use Rattle.std.proofs.Common.{◌≡◌, ◌≢◌, ◌==◌, ℕ, Bool, true, false, if◌then◌else◌, List, [], ◌∷◌, Option, Some, None, refl, subst, arith}
use Rattle.std.proofs.lemmas.Bool.Decides.{nat_tests}
use Rattle.std.specs.Prelude.{IfSome}
use Rattle.solo_base.specs.declared.outcome.Cause.{Cause}
use Rattle.solo_base.specs.declared.outcome.Cause.TheVariants as cause
use Rattle.batch_ends.specs.Ended.{TellsWhere}
use Rattle.run_report.specs.Status.{number_of}
use Rattle.solo_cli.specs.declared.refusal.Refusal.{Refusal}
use Rattle.solo_cli.specs.declared.refusal.Refusal.TheVariants.{Fault, NoRoom}
use Rattle.solo_cli.specs.Causes.{EndsBy, is_listed}
use Rattle.solo_cli.specs.Refusals.{TellsPlace}
use Rattle.solo_cli.specs.Status.{status_of}

pub untrue : false ≡ true → ⊥
untrue is = cc

both : (test : Bool) → test ≡ true → test ≡ false → ⊥
both true is not = cc
both false is not = cc

-- a cause with another number isn't there
pub never : (all : List ℕ) (answer : Option Refusal) → IfSome answer (EndsBy all) → (why : Cause) → is_listed all (number_of why) ≡ false
    → answer ≡ Some (Fault why) → ⊥
never all answer known why out is = both (is_listed all (number_of why)) (subst (λ answer. IfSome answer (EndsBy all)) is known) out

-- where no page may be damaged
pub whole : (all : List ℕ) (answer : Option Refusal) → is_listed all 8 ≡ false → IfSome answer (EndsBy all) → status_of answer ≢ 8
whole all None out known eight = cc
whole all (Some refusal) out known eight = both (is_listed all 8) (subst (λ n. is_listed all n ≡ true) eight known) out

tells : (why : Cause) → (number_of why ≡ 8 → ⊥) → TellsWhere why
tells cause.Usage none = tt
tells cause.ReadFault none = tt
tells cause.DiskFault none = tt
tells cause.PrintFault none = tt
tells cause.ConsoleFault none = tt
tells cause.DeckLimit none = tt
tells (cause.NotSolo page) none = tt
tells (cause.Damaged expected found at) none = absurd (none refl)
tells cause.NoMemory none = tt

pub tells-place : (all : List ℕ) (answer : Option Refusal) → is_listed all 8 ≡ false → IfSome answer (EndsBy all) → IfSome answer TellsPlace
tells-place all None out known = tt
tells-place all (Some (NoRoom needed free)) out known = tt
tells-place all (Some (Fault why)) out known = tells why (whole all (Some (Fault why)) out known)

-- ---- a wider table
abbrev pub all_in : List ℕ → List ℕ → Bool
all_in [] many = true
all_in (first ∷ others) many = if is_listed many first then all_in others many else false

first-in : (test rest : Bool) → (if test then rest else false) ≡ true → test ≡ true
first-in true rest is = refl
first-in false rest is = cc

others-in : (test rest : Bool) → (if test then rest else false) ≡ true → rest ≡ true
others-in true rest is = is
others-in false rest is = absurd (untrue is)

same-number : (n first : ℕ) → (n == first) ≡ true → first ≡ n
same-number n first is = grind (arith, nat_tests)

by-first : (few many : List ℕ) (n first : ℕ) → (is_listed few n ≡ true → is_listed many n ≡ true) → is_listed many first ≡ true
    → (test : Bool) → (n == first) ≡ test → (if test then true else is_listed few n) ≡ true → is_listed many n ≡ true
by-first few many n first others here true is one = subst (λ n. is_listed many n ≡ true) (same-number n first is) here
by-first few many n first others here false is one = others one

pub in-wider : (few many : List ℕ) → all_in few many ≡ true → (n : ℕ) → is_listed few n ≡ true → is_listed many n ≡ true
in-wider [] many all n one = absurd (untrue one)
in-wider (first ∷ others) many all n one =
    by-first others many n first (in-wider others many (others-in (is_listed many first) (all_in others many) all) n)
    (first-in (is_listed many first) (all_in others many) all) (n == first) refl one

pub wider : (few many : List ℕ) (answer : Option Refusal) → all_in few many ≡ true → IfSome answer (EndsBy few) → IfSome answer (EndsBy many)
wider few many None all known = tt
wider few many (Some refusal) all known = in-wider few many all (status_of (Some refusal)) known
