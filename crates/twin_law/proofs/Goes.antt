-- A process alone gets from one place to another, in some number of steps, at least any given one. So what it puts in however many
-- steps is the first of what it puts in all.
use Rattle.std.proofs.Common.{◌≡◌, ℕ, zero, suc, ◌≤◌, true, false, if◌then◌else◌, List, [], ◌++◌, refl, sym, ◌∙◌, ap, arith}
use Rattle.std.proofs.lemmas.List.{append_assoc, append-nil}
use Rattle.solo_base.specs.Prefixes.{IsPrefixOf}
use Rattle.batch_procs.specs.Jobs.{FilesAs}
use Rattle.batch_procs.specs.Parcels.{Parcel}
use Rattle.twin_law.specs.Process.{Process}
use Rattle.twin_law.specs.Alone.{Put, Step, step, alone, put_at, puts}
use Rattle.twin_law.proofs.Tells.{behind}
use Rattle.twin_law.proofs.After.{after}
use Rattle.twin_law.proofs.Kahn.{put-append}

more-behind : {T : Type 0} (front a b : List T) → IsPrefixOf a b → IsPrefixOf (front ++ a) (front ++ b)
more-behind front a b (rest, e) = (rest, append_assoc front a rest ∙ ap (λ b. front ++ b) e)

module _ {L : Type 0} (F : FilesAs L) (p : Process L) where
  -- ---- more steps go on
  abbrev Longer : ℕ → ℕ → Type 0
  Longer n m = (x : p.Place) (i : ℕ → List (Parcel L)) → IsPrefixOf (alone F p n x i) (alone F p m x i)

  longer-step : (n m : ℕ) → Longer n m → (s : Step p) → IsPrefixOf (behind F p n s) (behind F p m s)
  longer-step n m longer s =
      more-behind s.puts (if s.ended then [] else alone F p n s.at s.inside) (if s.ended then [] else alone F p m s.at s.inside)
      (elim s.ended as (λ t. IsPrefixOf (if t then [] else alone F p n s.at s.inside) (if t then [] else alone F p m s.at s.inside)) [
        | true ↦ ([], refl)
        | false ↦ longer s.at s.inside
      ])

  pub alone-longer : (n m : ℕ) → n ≤ m → Longer n m
  alone-longer zero m within x i = (alone F p m x i, refl)
  alone-longer (suc n) zero within x i = absurd (omega (arith, within))
  alone-longer (suc n) (suc m) within x i = longer-step n m (alone-longer n m (omega (arith, within))) (step F p x i (p.aims x))

  -- ---- from one place to another
  abbrev pub Goes : p.Place → (ℕ → List (Parcel L)) → List (Put L) → p.Place → (ℕ → List (Parcel L)) → Type 0
  Goes x w puts y v =
      (n : ℕ) → (m : ℕ) × (n ≤ m) × (alone F p m x w ≡ puts ++ alone F p n y v) × (after F p m x w ≡ after F p n y v)

  pub goes-on : (x y z : p.Place) (w v u : ℕ → List (Parcel L)) (a b : List (Put L)) → Goes x w a y v → Goes y v b z u → Goes x w (a ++ b) z u
  goes-on x y z w v u a b first second n =
      let (m, low, e, s) = second n in
      let (k, more, f, t) = first m in
      (k, omega (arith, low, more), f ∙ ap (λ puts. a ++ puts) e ∙ sym (append_assoc a b (alone F p n z u)), t ∙ s)

  pub stays-put : (x : p.Place) (w : ℕ → List (Parcel L)) → Goes x w [] x w
  stays-put x w n = (n, omega arith, refl, refl)

  -- In however many steps, the first of what it puts up to a place at which it does nothing more.
  pub first-put : (c : ℕ) (x y : p.Place) (w v : ℕ → List (Parcel L)) (puts : List (Put L)) → Goes x w puts y v → ((n : ℕ) → alone F p n y v ≡ []) → (n : ℕ)
      → IsPrefixOf (put_at c (alone F p n x w)) (put_at c puts)
  first-put c x y w v puts goes ends n =
      let (m, within, equal, stands) = goes n in
      let whole : alone F p m x w ≡ puts = equal ∙ ap (λ more. puts ++ more) (ends n) ∙ append-nil puts in
      let (rest, first) = alone-longer n m within x w in
      (put_at c rest, sym (put-append c (alone F p n x w) rest) ∙ ap (put_at c) (first ∙ whole))
