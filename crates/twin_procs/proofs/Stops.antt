-- Which buffers a process has stopped, and what it stops next.
use Rattle.std.proofs.Common.{◌≡◌, ◌<◌, ◌+◌, ◌^◌, ℕ, zero, suc, min, Bool, true, false, ◌||◌, ◌==◌, List, [], ◌∷◌, length, None, Some, refl, ◌∙◌, ap, subst, arith}
use Rattle.std.specs.Prelude.{slice_get}
use Rattle.std.proofs.lemmas.Bool.{eqb-true, eq-eqb}
use Rattle.solo_base.specs.declared.outcome.Outcome.{Outcome}
use Rattle.batch_procs.specs.declared.actions.Reply.{Reply}
use Rattle.place_law.specs.Process.{Does}
use Rattle.twin_law.specs.Process.{Stop, Ended, Entry, has_stopped, stops_next}
use Rattle.twin_procs.specs.Machine.{AreStopped, IsBelow, IsAscending}

some-same : {A : Type 0} (a b : A) → Some a ≡ Some b → a ≡ b
some-same a b e = cc

or-right : (t u : Bool) → u ≡ true → (t || u) ≡ true
or-right true u e = refl
or-right false u e = e

or-left : (t u : Bool) → t ≡ true → (t || u) ≡ true
or-left true u e = refl
or-left false u e = absurd cc

below-length : (buffers : List ℕ) (n b : ℕ) → slice_get buffers n ≡ Some b → n < length buffers
below-length [] n b is = absurd cc
below-length (c ∷ later) zero b is = omega arith
below-length (c ∷ later) (suc n) b is = let less = below-length later n b is in omega (arith, less)

one-more : (n len : ℕ) → n < len → len < 2 ^ 8 → suc n ≡ min (n + 1) 255
one-more n len below few = omega (arith, below, few)

module _ {L : Type 0} where
  pub none-stopped : (buffers : List ℕ) (h : List (Entry L)) → ((b : ℕ) → has_stopped b h ≡ false) → AreStopped buffers 0 h
  none-stopped [] h none = tt
  none-stopped (b ∷ later) h none = (none b, none-stopped later h none)

  pub stopped-same : (buffers : List ℕ) (n : ℕ) (h now : List (Entry L)) → ((b : ℕ) → has_stopped b now ≡ has_stopped b h) → AreStopped buffers n h
      → AreStopped buffers n now
  stopped-same [] zero h now same are = tt
  stopped-same [] (suc n) h now same are = are
  stopped-same (b ∷ later) zero h now same are = (same b ∙ are.0, stopped-same later 0 h now same are.1)
  stopped-same (b ∷ later) (suc n) h now same are = (same b ∙ are.0, stopped-same later n h now same are.1)

  -- what is next
  pub stops-some : (buffers : List ℕ) (n b : ℕ) (how : Outcome) (h : List (Entry L)) → AreStopped buffers n h → slice_get buffers n ≡ Some b
      → stops_next buffers how h ≡ Stop b
  stops-some [] n b how h are is = absurd cc
  stops-some (c ∷ later) zero b how h are is = rw are.0 (ap Stop (some-same c b is))
  stops-some (c ∷ later) (suc n) b how h are is = rw are.0 (stops-some later n b how h are.1 is)

  pub stops-none : (buffers : List ℕ) (n : ℕ) (how : Outcome) (h : List (Entry L)) → AreStopped buffers n h → slice_get buffers n ≡ None
      → stops_next buffers how h ≡ Ended how
  stops-none [] n how h are is = refl
  stops-none (c ∷ later) zero how h are is = absurd cc
  stops-none (c ∷ later) (suc n) how h are is = rw are.0 (stops-none later n how h are.1 is)

  -- no buffer but this one
  stopped-others : (later : List ℕ) (b : ℕ) (r : Reply L) (h : List (Entry L)) → IsBelow b later → AreStopped later 0 h
      → AreStopped later 0 (Does (Stop b) r ∷ h)
  stopped-others [] b r h below are = tt
  stopped-others (c ∷ later) b r h below are = (other (c == b) refl, stopped-others later b r h below.1 are.1)
    where
      other : (t : Bool) → (c == b) ≡ t → (t || has_stopped c h) ≡ false
      other true e = absurd (let same = eqb-true c b e in let less = below.0 in omega (arith, same, less))
      other false e = are.0

  stopped-on : (buffers : List ℕ) (n b : ℕ) (r : Reply L) (h : List (Entry L)) → IsAscending buffers → slice_get buffers n ≡ Some b → AreStopped buffers n h
      → AreStopped buffers (suc n) (Does (Stop b) r ∷ h)
  stopped-on [] n b r h ascending is are = absurd cc
  stopped-on (c ∷ later) zero b r h ascending is are =
      let same : c ≡ b = some-same c b is in
      (or-left (c == b) (has_stopped c h) (eq-eqb c b same), stopped-others later b r h (subst (λ n. IsBelow n later) same ascending.0) are.1)
  stopped-on (c ∷ later) (suc n) b r h ascending is are = (or-right (c == b) (has_stopped c h) are.0, stopped-on later n b r h ascending.1 is are.1)

  -- behind a stop there is one more
  pub stopped-one : (buffers : List ℕ) (n b : ℕ) (r : Reply L) (h : List (Entry L)) → IsAscending buffers → length buffers < 2 ^ 8
      → slice_get buffers n ≡ Some b → AreStopped buffers n h → AreStopped buffers (min (n + 1) 255) (Does (Stop b) r ∷ h)
  stopped-one buffers n b r h ascending few is are =
      subst (λ n. AreStopped buffers n (Does (Stop b) r ∷ h)) (one-more n (length buffers) (below-length buffers n b is) few)
      (stopped-on buffers n b r h ascending is are)
