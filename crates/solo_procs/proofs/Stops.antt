-- Which buffers a process has stopped, and what it stops next.
use Rattle.std.proofs.Common.{◌≡◌, ◌<◌, ◌+◌, ◌^◌, ℕ, zero, suc, min, Bool, true, false, ◌||◌, ◌==◌, List, [], ◌∷◌, length, None, Some, refl, ◌∙◌, ap, subst, arith}
use Rattle.std.specs.Prelude.{slice_get}
use Rattle.std.proofs.lemmas.Bool.{eqb-true, eq-eqb}
use Rattle.solo_base.specs.declared.outcome.Outcome.{Outcome}
use Rattle.place_law.specs.Process.{Entry, Does, Process, stops_by, has_stopped, stops_next}
use Rattle.solo_law.specs.Actions.{Action, Reply}
use Rattle.solo_law.specs.Actions as act
use Rattle.solo_law.specs.Replies.{view}
use Rattle.solo_procs.specs.Machine.{FirstAreStopped, IsBelow, IsAscending, ClosesDown}

some-same : {A : Type 0} (a b : A) → Some a ≡ Some b → a ≡ b
some-same a b e = cc

stop-same : (c b : ℕ) → act.Stop c ≡ act.Stop b → c ≡ b
stop-same c b e = cc

or-right : (t u : Bool) → u ≡ true → (t || u) ≡ true
or-right true u e = refl
or-right false u e = e

or-left : (t u : Bool) → t ≡ true → (t || u) ≡ true
or-left true u e = refl
or-left false u e = absurd cc

or-second : (t u : Bool) → t ≡ false → (t || u) ≡ u
or-second true u e = absurd cc
or-second false u e = refl

pub below-length : (buffers : List ℕ) (n b : ℕ) → slice_get buffers n ≡ Some b → n < length buffers
below-length [] n b is = absurd cc
below-length (c ∷ later) zero b is = omega arith
below-length (c ∷ later) (suc n) b is = let less = below-length later n b is in omega (arith, less)

module _ (p : Process Action Reply) where
  pub none-stopped : (buffers : List ℕ) → FirstAreStopped p buffers 0 []
  none-stopped [] = tt
  none-stopped (b ∷ later) = (refl, none-stopped later)

  pub stopped-same : (buffers : List ℕ) (n : ℕ) (h now : List (Entry Action Reply)) → ((b : ℕ) → has_stopped p b now ≡ has_stopped p b h)
      → FirstAreStopped p buffers n h → FirstAreStopped p buffers n now
  stopped-same [] zero h now same are = tt
  stopped-same [] (suc n) h now same are = are
  stopped-same (b ∷ later) zero h now same are = (same b ∙ are.0, stopped-same later 0 h now same are.1)
  stopped-same (b ∷ later) (suc n) h now same are = (same b ∙ are.0, stopped-same later n h now same are.1)

  -- what is no stop stops nothing
  pub stopped-by : (n : ℕ) (a : Action) (r : Reply) (h : List (Entry Action Reply)) → ((b : ℕ) → stops_by b (p.calls a) ≡ false)
      → FirstAreStopped p p.buffers n h → FirstAreStopped p p.buffers n (Does a r ∷ h)
  stopped-by n a r h none are = stopped-same p.buffers n h (Does a r ∷ h) (λ b. or-second (stops_by b (p.calls a)) (has_stopped p b h) (none b)) are

  -- what is next
  pub stops-some : (buffers : List ℕ) (n b : ℕ) (how : Outcome) (h : List (Entry Action Reply)) → FirstAreStopped p buffers n h → slice_get buffers n ≡ Some b
      → stops_next view p buffers how h ≡ act.Stop b
  stops-some [] n b how h are is = absurd cc
  stops-some (c ∷ later) zero b how h are is = rw are.0 (ap act.Stop (some-same c b is))
  stops-some (c ∷ later) (suc n) b how h are is = rw are.0 (stops-some later n b how h are.1 is)

  pub stops-none : (buffers : List ℕ) (n : ℕ) (how : Outcome) (h : List (Entry Action Reply)) → FirstAreStopped p buffers n h → slice_get buffers n ≡ None
      → stops_next view p buffers how h ≡ act.Ended how
  stops-none [] n how h are is = refl
  stops-none (c ∷ later) zero how h are is = absurd cc
  stops-none (c ∷ later) (suc n) how h are is = rw are.0 (stops-none later n how h are.1 is)

  module _ (law : ClosesDown p) where
    one-stop : (c b : ℕ) (r : Reply) (h : List (Entry Action Reply)) → c ≡ b → has_stopped p c (Does (act.Stop b) r ∷ h) ≡ true
    one-stop c b r h e = or-left (stops_by c (p.calls (act.Stop b))) (has_stopped p c h) (law.stops b c ∙ eq-eqb c b e)

    -- no buffer but this one
    stopped-others : (later : List ℕ) (b : ℕ) (r : Reply) (h : List (Entry Action Reply)) → IsBelow b later → FirstAreStopped p later 0 h
        → FirstAreStopped p later 0 (Does (act.Stop b) r ∷ h)
    stopped-others [] b r h below are = tt
    stopped-others (c ∷ later) b r h below are = (other (c == b) refl, stopped-others later b r h below.1 are.1)
      where
        other : (t : Bool) → (c == b) ≡ t → has_stopped p c (Does (act.Stop b) r ∷ h) ≡ false
        other true e = absurd (let same = eqb-true c b e in let less = below.0 in omega (arith, same, less))
        other false e = or-second (stops_by c (p.calls (act.Stop b))) (has_stopped p c h) (law.stops b c ∙ e) ∙ are.0

    stopped-on : (buffers : List ℕ) (n b : ℕ) (r : Reply) (h : List (Entry Action Reply)) → IsAscending buffers → slice_get buffers n ≡ Some b
        → FirstAreStopped p buffers n h → FirstAreStopped p buffers (suc n) (Does (act.Stop b) r ∷ h)
    stopped-on [] n b r h ascending is are = absurd cc
    stopped-on (c ∷ later) zero b r h ascending is are =
        let same : c ≡ b = some-same c b is in
        (one-stop c b r h same, stopped-others later b r h (subst (λ n. IsBelow n later) same ascending.0) are.1)
    stopped-on (c ∷ later) (suc n) b r h ascending is are =
        (or-right (stops_by c (p.calls (act.Stop b))) (has_stopped p c h) are.0, stopped-on later n b r h ascending.1 is are.1)

    one-more : (n len : ℕ) → n < len → len < 2 ^ 8 → suc n ≡ min (n + 1) 255
    one-more n len below few = omega (arith, below, few)

    -- behind a stop there is one more
    pub stopped-one : (n b : ℕ) (r : Reply) (h : List (Entry Action Reply)) → slice_get p.buffers n ≡ Some b → FirstAreStopped p p.buffers n h
        → FirstAreStopped p p.buffers (min (n + 1) 255) (Does (act.Stop b) r ∷ h)
    stopped-one n b r h is are =
        subst (λ n. FirstAreStopped p p.buffers n (Does (act.Stop b) r ∷ h)) (one-more n (length p.buffers) (below-length p.buffers n b is) law.few)
        (stopped-on p.buffers n b r h law.ascending is are)
