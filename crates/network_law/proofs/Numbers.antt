-- Numbers that are the same or differ, and what stands at a number.
use Rattle.std.proofs.Common.{◌≡◌, ℕ, ◌==◌, Bool, true, false, if◌then◌else◌, refl, sym, subst}
use Rattle.std.proofs.lemmas.Bool.{eqb-true, eq-eqb}
use Rattle.network_law.specs.Network.{set}

pub same-number : (n : ℕ) → (n == n) ≡ true
same-number n = eq-eqb n n refl

other-by : (t : Bool) (n m : ℕ) → (n == m) ≡ t → (n ≡ m → ⊥) → t ≡ false
other-by true n m e differ = absurd (differ (eqb-true n m e))
other-by false n m e differ = refl

pub other-number : (n m : ℕ) → (n ≡ m → ⊥) → (n == m) ≡ false
other-number n m differ = (let e = other-by (n == m) n m refl differ in e)

pub set-same : {X : Type 0} (f : ℕ → X) (n : ℕ) (x : X) → set f n x n ≡ x
set-same f n x = rw (same-number n) refl

pub set-other : {X : Type 0} (f : ℕ → X) (n : ℕ) (x : X) (m : ℕ) → (m ≡ n → ⊥) → set f n x m ≡ f m
set-other f n x m differ = rw (other-number m n differ) refl

-- what relates the old at n to the new relates all
pub set-related : {X : Type 0} (R : X → X → Type 0) → ((x : X) → R x x) → (f : ℕ → X) (n : ℕ) (x : X) (m : ℕ) → R (f n) x → R (f m) (set f n x m)
set-related R same f n x m is =
    let P : Bool → Type 0 = λ t. (m == n) ≡ t → R (f m) (if t then x else f m) in
    elim (m == n) as P [
      | true ↦ (λ e. subst (λ k. R (f k) x) (sym (eqb-true m n e)) is)
      | false ↦ (λ e. same (f m))
    ] refl
