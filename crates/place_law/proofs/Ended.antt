-- How a process ends: as its cause says; at its last place, or behind the stops of all its buffers.
use Rattle.std.proofs.Common.{◌≡◌, inl, inr, ℕ, ◌==◌, ◌&&◌, ◌||◌, Bool, true, false, List, [], ◌∷◌, Option, None, Some, refl, sym, ◌∙◌, ap, subst}
use Rattle.std.specs.List.{AllByRecursion}
use Rattle.std.proofs.lemmas.Bool.{eqb-true}
use Rattle.solo_base.specs.declared.outcome.Side.{Side}
use Rattle.solo_base.specs.declared.outcome.Outcome.{Outcome}
use Rattle.solo_base.specs.declared.outcome.Outcome.TheVariants as outcome
use Rattle.queue_var.specs.Sides.{same_side}
use Rattle.network_law.specs.Acts.{Call, At, Visit, Stops, stops_at, made_stop}
use Rattle.network_law.specs.Network.{IsOne, acts}
use Rattle.network_law.specs.Network as law
use Rattle.network_law.specs.Kept.{CanWait}
use Rattle.network_law.proofs.KeepsBuffers.{or-tells}
use Rattle.network_law.proofs.Numbers.{same-number}
use Rattle.network_law.proofs.Seats.{same-itself}
use Rattle.place_law.specs.Process.{Entry, Does, LacksMemory, Delays, Process, place, caused, given_cause, or_new, has_stopped, stops_by, how_ended, next_by, unless_ended, next_action}
use Rattle.place_law.specs.Table.{Table, network_of, PassesHere, IsPlaced}
use Rattle.place_law.specs.Ending.{outcome_by, EndsRightly}
use Rattle.place_law.proofs.Nexts.{same-calls, Shape, AtPlace, Stopping, Ending, next-shape, goes-on}
use Rattle.place_law.proofs.Lawful.{passing-no_stop}

same-outcome : (a b : Outcome) → Some a ≡ Some b → a ≡ b
same-outcome a b e = cc

new-is : (old new : Option Outcome) (how : Outcome) → old ≡ None → or_new old new ≡ Some how → new ≡ Some how
new-is None new how e is = is
new-is (Some why) new how e is = absurd cc

or-here : (t u : Bool) → u ≡ true → (t || u) ≡ true
or-here true u e = refl
or-here false u e = e

or-front : (t u : Bool) → t ≡ true → (t || u) ≡ true
or-front true u e = refl
or-front false u e = absurd cc

both-true : (t u : Bool) → t ≡ true → u ≡ true → (t && u) ≡ true
both-true true u e f = f
both-true false u e f = absurd cc

still-stopped : {Action Reply : Type 0} (p : Process Action Reply) (buffers : List ℕ) (a : Action) (r : Reply) (h : List (Entry Action Reply))
    → AllByRecursion (λ b. has_stopped p b h ≡ true) buffers → AllByRecursion (λ b. has_stopped p b (Does a r ∷ h) ≡ true) buffers
still-stopped p [] a r h all = tt
still-stopped p (b ∷ later) a r h all = (or-here (stops_by b (p.calls a)) (has_stopped p b h) all.0, still-stopped p later a r h all.1)

unless-none : {Action : Type 0} (how : Option Outcome) (a : Action) → unless_ended how a ≡ None → (why : Outcome) × (how ≡ Some why)
unless-none None a e = absurd cc
unless-none (Some why) a e = (why, refl)

stop-is : (b : ℕ) (c : Call) → stops_by b c ≡ true → (side : Side) × (c ≡ At b side Stops)
stop-is b (At c side Stops) e = (side, ap (λ n. At n side Stops) (sym (eqb-true b c e)))
stop-is b other e = absurd cc

module _ {Devices Action Reply Parcel : Type 0} (t : Table Devices Action Reply Parcel) where
  -- there is no next action exactly where it has ended
  pub none-ended : (p : ℕ) (h : List (Entry Action Reply)) → next_action t.view (t.process p) h ≡ None → (how : Outcome) × (how_ended t.view h ≡ Some how)
  none-ended p h e = unless-none (how_ended t.view h) (next_by t.view (t.process p) (caused t.view (t.process p) h) h) e

  pub ended-none : (p : ℕ) (h : List (Entry Action Reply)) (how : Outcome) → how_ended t.view h ≡ Some how → next_action t.view (t.process p) h ≡ None
  ended-none p h how e = ap (λ how. unless_ended how (next_by t.view (t.process p) (caused t.view (t.process p) h) h)) e

  module _ (is : IsPlaced t) where
    last-entry : (p : ℕ) (x : Action) (r : Reply) (h : List (Entry Action Reply)) (how : Outcome) → IsOne (network_of t) p → t.view.Fits x r
        → Shape t p h (caused t.view (t.process p) h) x → t.view.ends x ≡ Some how → EndsRightly t.view (t.process p) (Does x r ∷ h) how
    last-entry p x r h how one fits (AtPlace free same) e =
        let at = place (t.process p) h in
        let now : t.view.ends ((t.process p).does at) ≡ Some how = sym (ap t.view.ends same) ∙ e in
        let quiet = is.quiet p one at x r how fits e in
        let none : caused t.view (t.process p) (Does x r ∷ h) ≡ None =
        ap (λ old. or_new old (given_cause t.view (t.process p) at x r)) free ∙ quiet in
        record {
          by_cause = ap outcome_by none ∙ sym (is.last p one at how now);
          done = λ free. is.stays p one at r outcome.Done (now ∙ ap Some (is.last p one at how now));
          closed = λ why caused_so. absurd (let no = sym none ∙ caused_so in cc);
        }
    last-entry p x r h how one fits (Stopping b stop) e = absurd (let no = sym (is.goes_on b) ∙ ap t.view.ends (sym stop.is) ∙ e in cc)
    last-entry p x r h how one fits (Ending end) e =
        let same : end.why ≡ how = same-outcome end.why how (sym (is.ends_so end.why) ∙ ap t.view.ends (sym end.is) ∙ e) in
        let some : caused t.view (t.process p) (Does x r ∷ h) ≡ Some end.why =
        ap (λ old. or_new old (given_cause t.view (t.process p) (place (t.process p) h) x r)) end.caused_so in
        record {
          by_cause = ap outcome_by some ∙ same;
          done = λ free. absurd (let no = sym some ∙ free in cc);
          closed = λ why caused_so. still-stopped (t.process p) (t.process p).buffers x r h end.closed;
        }

    not-after : (p : ℕ) (h : List (Entry Action Reply)) (a : Action) (how : Outcome) → next_action t.view (t.process p) h ≡ Some a
        → how_ended t.view h ≡ Some how → ⊥
    not-after p h a how next e = let no = sym (goes-on t p h a next) ∙ e in cc

    pub ends-rightly : (p : ℕ) (h : List (Entry Action Reply)) (how : Outcome) → IsOne (network_of t) p → law.Follows (network_of t) p h
        → how_ended t.view h ≡ Some how → EndsRightly t.view (t.process p) h how
    ends-rightly p [] how one follows e = absurd cc
    ends-rightly p (Does x r ∷ h) how one follows e =
        last-entry p x r h how one follows.1 (next-shape t is p h x one follows.0)
        (new-is (how_ended t.view h) (t.view.ends x) how (goes-on t p h x follows.0) e)
    ends-rightly p (LacksMemory x r ∷ h) how one follows e = absurd (not-after p h x how follows.0 e)
    ends-rightly p (Delays x ∷ h) how one follows e = absurd (not-after p h x how follows.0 e)

    -- ---- a stop that it made is an act
    made-here : (p b : ℕ) (x : Action) (h : List (Entry Action Reply)) (side : Side) → IsOne (network_of t) p
        → next_action t.view (t.process p) h ≡ Some x → (t.process p).calls (t.view.stop b) ≡ At b side Stops → stops_by b ((t.process p).calls x) ≡ true
        → stops_at b side ((t.process p).calls x) ≡ true
    made-here p b x h side one next stop e =
        elim (next-shape t is p h x one next) as (λ _. stops_at b side ((t.process p).calls x) ≡ true) [
          | AtPlace free same ↦ absurd (
              let none = passing-no_stop t.seat p b ((t.process p).calls x)
              (subst (λ a. PassesHere t.seat p ((t.process p).calls a)) (sym same) (is.passes p one (place (t.process p) h))) in
              cc)
          | Stopping c at ↦
              let (of, here) = stop-is b ((t.process p).calls x) e in
              let there : At c at.at.side Stops ≡ At b of Stops = sym at.at.is ∙ ap (t.process p).calls (sym at.is) ∙ here in
              let same : (t.process p).calls x ≡ At b side Stops =
              ap (t.process p).calls at.is ∙ ap (λ n. (t.process p).calls (t.view.stop n)) (number c b at.at.side of there) ∙ stop in
              ap (stops_at b side) same ∙ both-true (b == b) (same_side side side) (same-number b) (same-itself side)
          | Ending end ↦ absurd (let none = ap (stops_by b) (ap (t.process p).calls end.is ∙ is.ends p end.why one) in cc)
        ] where
          number : (c b : ℕ) (side of : Side) → At c side Stops ≡ At b of Stops → c ≡ b
          number c b side of e = cc

    pub made : (p b : ℕ) (h : List (Entry Action Reply)) (side : Side) → IsOne (network_of t) p → law.Follows (network_of t) p h
        → (t.process p).calls (t.view.stop b) ≡ At b side Stops → has_stopped (t.process p) b h ≡ true
        → made_stop b side (acts (network_of t) p h) ≡ true
    made p b [] side one follows stop e = absurd cc
    made p b (Does x r ∷ h) side one follows stop e =
        elim (or-tells (stops_by b ((t.process p).calls x)) (has_stopped (t.process p) b h) e)
        as (λ _. (stops_at b side ((t.process p).calls x) || made_stop b side (acts (network_of t) p h)) ≡ true) [
          | inl now ↦ or-front _ _ (made-here p b x h side one follows.0 stop now)
          | inr old ↦ or-here (stops_at b side ((t.process p).calls x)) _ (made p b h side one follows.2 stop old)
        ]
    made p b (LacksMemory x r ∷ h) side one follows stop e =
        or-here (stops_at b side ((t.process p).calls x)) _ (made p b h side one follows.2 stop e)
    made p b (Delays x ∷ h) side one follows stop e =
        or-here (stops_at b side ((t.process p).calls x)) _ (made p b h side one follows.2 stop e)

    -- ---- who waits has no cause
    pub waits-free : (p : ℕ) (h : List (Entry Action Reply)) (a : Action) (b : ℕ) (side : Side) (visit : Visit) → IsOne (network_of t) p
        → next_action t.view (t.process p) h ≡ Some a → (t.process p).calls a ≡ At b side visit → CanWait visit → caused t.view (t.process p) h ≡ None
    waits-free p h a b side visit one next calls can =
        elim (next-shape t is p h a one next) as (λ _. caused t.view (t.process p) h ≡ None) [
          | AtPlace free same ↦ free
          | Stopping c stop ↦ absurd (
              let same = same-calls (t.process p).calls (t.view.stop c) a _ _ (sym stop.is) stop.at.is calls in
              subst CanWait (sym (visit-of c b stop.at.side side Stops visit same)) can)
          | Ending end ↦ absurd (let no = same-calls (t.process p).calls (t.view.end end.why) a _ _ (sym end.is) (is.ends p end.why one) calls in cc)
        ] where
          visit-of : (c b : ℕ) (side of : Side) (one two : Visit) → At c side one ≡ At b of two → one ≡ two
          visit-of c b side of one two e = cc
