-- At the desk of five processes fewer than five wait.
use Rattle.std.proofs.Common.{◌≡◌, inl, inr, ℕ, zero, suc, ◌≤◌, ◌<◌, ◌==◌, Bool, true, false, if◌then◌else◌, List, [], ◌∷◌, ◌++◌, length, Option, None, Some, refl, sym, ◌∙◌, ap, arith}
use Rattle.std.specs.Prelude.{option_to_list}
use Rattle.std.specs.List.{AllByRecursion}
use Rattle.std.proofs.lemmas.Bool.{eqb-true, eq-eqb}
use Rattle.resource_mon.specs.Claims.{IsNoneOf, EachOnce}
use Rattle.batch_procs.specs.Table.{process}
use Rattle.network_law.specs.Acts as acts
use Rattle.network_law.specs.Network as law
use Rattle.network_law.specs.Kept.{StandsAtDesk, Stands}
use Rattle.core_law.specs.Core.{core, CoreState}
use Rattle.core_law.specs.Ends.{IsProcess}
use Rattle.batch_procs.specs.Jobs.{Jobs, AreJobs}

-- ---- a list without its first n
abbrev without : ℕ → List ℕ → List ℕ
without n [] = []
without n (x ∷ xs) = if x == n then xs else x ∷ without n xs

abbrev pub AreUpTo : ℕ → List ℕ → Type 0
AreUpTo n xs = AllByRecursion (λ x. (1 ≤ x) × (x ≤ n)) xs

module _ (n : ℕ) where
  shorter : (xs : List ℕ) → length xs ≤ suc (length (without n xs))
  shorter [] = omega arith
  shorter (x ∷ xs) =
      let P : Bool → Type 0 = λ t. length (x ∷ xs) ≤ suc (length (if t then xs else x ∷ without n xs)) in
      elim (x == n) as P [ true ↦ omega arith | false ↦ (let rest = shorter xs in omega (arith, rest)) ]

  still-none : (xs : List ℕ) (q : ℕ) → IsNoneOf xs q → IsNoneOf (without n xs) q
  still-none [] q none = tt
  still-none (x ∷ xs) q none =
      let P : Bool → Type 0 = λ t. IsNoneOf (if t then xs else x ∷ without n xs) q in
      elim (x == n) as P [ true ↦ none.1 | false ↦ (none.0, still-none xs q none.1) ]

  still-once : (xs : List ℕ) → EachOnce xs → EachOnce (without n xs)
  still-once [] once = tt
  still-once (x ∷ xs) once =
      let P : Bool → Type 0 = λ t. EachOnce (if t then xs else x ∷ without n xs) in
      elim (x == n) as P [ true ↦ once.1 | false ↦ (still-none xs x once.0, still-once xs once.1) ]

-- the largest stands once, so the others are below it
others-below : (n : ℕ) (xs : List ℕ) (x : ℕ) → x ≡ suc n → IsNoneOf xs x → AreUpTo (suc n) xs → AreUpTo n xs
others-below n [] x e none are = tt
others-below n (q ∷ xs) x e none are =
    let differ : q ≡ suc n → ⊥ = λ same. none.0 (same ∙ sym e) in
    ((are.0.0, (let most = are.0.1 in omega (arith, most, differ))), others-below n xs x e none.1 are.1)

module _ (n : ℕ) where
  below : (xs : List ℕ) → EachOnce xs → AreUpTo (suc n) xs → AreUpTo n (without (suc n) xs)
  below [] once are = tt
  below (x ∷ xs) once are =
      let P : Bool → Type 0 = λ t. (x == suc n) ≡ t → AreUpTo n (if t then xs else x ∷ without (suc n) xs) in
      elim (x == suc n) as P [
        | true ↦ (λ e. others-below n xs x (eqb-true x (suc n) e) once.0 are.1)
        | false ↦ (λ e.
            let differ : x ≡ suc n → ⊥ = λ same. (let yes = eq-eqb x (suc n) same in cc) in
            ((are.0.0, (let most = are.0.1 in omega (arith, most, differ))), below xs once.1 are.1))
      ] refl

-- of numbers from 1 to n that stand once there are at most n
pub at-most : (n : ℕ) (xs : List ℕ) → EachOnce xs → AreUpTo n xs → length xs ≤ n
at-most zero [] once are = omega arith
at-most zero (x ∷ xs) once are = (let low = are.0.0 in let high = are.0.1 in absurd (omega (arith, low, high)))
at-most (suc n) xs once are =
    let rest = at-most n (without (suc n) xs) (still-once (suc n) xs once) (below n xs once are) in
    let more = shorter (suc n) xs in
    omega (arith, rest, more)

module _ {L : Type 0} {J : Jobs L} (jobs : AreJobs J) where
  -- ---- at the desk
  module _ (opening s : CoreState L) (st : Stands (core J (process J)) opening s) where
    pub waits-one : (q : ℕ) → StandsAtDesk (core J (process J)) s q → IsProcess q
    waits-one q at =
        elim (st.others q) as (λ _. IsProcess q) [
          | inl one ↦ one
          | inr empty ↦ (let no =
              ap (λ h. acts.waits (law.acts (core J (process J)) q h)) (sym empty) ∙ at.waits_now in absurd cc)
        ]

    pub holds-one : (q : ℕ) → acts.holds (law.acts (core J (process J)) q (s.histories q)) ≡ true → IsProcess q
    holds-one q on =
        elim (st.others q) as (λ _. IsProcess q) [
          | inl one ↦ one
          | inr empty ↦ (let no =
              ap (λ h. acts.holds (law.acts (core J (process J)) q h)) (sym empty) ∙ on in absurd cc)
        ]

    are-ones : (qs : List ℕ) → AllByRecursion (StandsAtDesk (core J (process J)) s) qs → AreUpTo 5 qs
    are-ones [] at = tt
    are-ones (q ∷ qs) at = (waits-one q at.0, are-ones qs at.1)

    holder-one : (q : ℕ) → s.desk.claims.holder ≡ Some q → IsProcess q
    holder-one q held =
        elim (st.desk.holder q held) as (λ _. IsProcess q) [
          | inl handed ↦ waits-one q (st.desk.handed q handed)
          | inr on ↦ holds-one q on
        ]

    room-by : (holder : Option ℕ) → s.desk.claims.holder ≡ holder → EachOnce (option_to_list holder ++ s.desk.claims.waiting) → length s.desk.claims.waiting < 5
    room-by None none once = (let empty : length s.desk.claims.waiting ≡ 0 = ap length (st.desk.one_holder.idle none) in omega (arith, empty))
    room-by (Some q) held once =
        (let all = at-most 5 (q ∷ s.desk.claims.waiting) once (holder-one q held, are-ones s.desk.claims.waiting st.desk.waiting) in omega (arith, all))

    pub desk-room : length s.desk.claims.waiting < 5
    desk-room = room-by s.desk.claims.holder refl st.desk.one_holder.each_once
