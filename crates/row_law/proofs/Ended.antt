-- How a process of a row ends: as its cause says, behind its stops; and where one waits.
use Rattle.std.proofs.Common.{◌≡◌, inl, inr, ℕ, ◌==◌, ◌&&◌, ◌||◌, Bool, true, false, List, [], ◌∷◌, Option, None, Some, refl, sym, ◌∙◌, ap, subst}
use Rattle.std.specs.List.{AllByRecursion}
use Rattle.std.proofs.lemmas.Bool.{eqb-true}
use Rattle.solo_base.specs.declared.outcome.Side.{Side}
use Rattle.solo_base.specs.declared.outcome.Outcome.{Outcome}
use Rattle.queue_var.specs.Sides.{same_side}
use Rattle.network_law.specs.Acts.{Call, Alone, At, Gives, Stops, stops_at, made_stop}
use Rattle.network_law.specs.Network.{Network, IsOne, acts}
use Rattle.network_law.specs.Network as law
use Rattle.network_law.specs.Kept.{CanWait, IsAmong}
use Rattle.network_law.proofs.KeepsBuffers.{or-tells}
use Rattle.network_law.proofs.KeepsQueues.{at-visit, at-number}
use Rattle.network_law.proofs.Numbers.{same-number}
use Rattle.network_law.proofs.Seats.{same-itself}
use Rattle.place_law.specs.Process.{Entry, Does, LacksMemory, Delays, or_new, stops_by, unless_ended}
use Rattle.place_law.specs.Ending.{outcome_by}
use Rattle.row_law.specs.Process.{Process, place, caused, given_cause, has_stopped, how_ended, next_by, next_action}
use Rattle.row_law.specs.Row.{Row, network_of, IsRow}
use Rattle.row_law.specs.Ranks.{CallsAt}
use Rattle.row_law.specs.Waits.{IsAt}
use Rattle.row_law.specs.Ending.{AreStopped, EndsRightly}
use Rattle.row_law.proofs.Nexts as nexts
use Rattle.row_law.proofs.Nexts.{Shape, AtPlace, Giving, Stopping, Ending, next-shape, goes-on}
use Rattle.row_law.proofs.Known.{may-no_stop, not-both}

same-outcome : (a b : Outcome) → Some a ≡ Some b → a ≡ b
same-outcome a b e = cc

new-is : (old new : Option Outcome) (how : Outcome) → old ≡ None → or_new old new ≡ Some how → new ≡ Some how
new-is None new how e is = is
new-is (Some why) new how e is = absurd cc

unless-none : {Action : Type 0} (how : Option Outcome) (a : Action) → unless_ended how a ≡ None → (why : Outcome) × (how ≡ Some why)
unless-none None a e = absurd cc
unless-none (Some why) a e = (why, refl)

some-none : {X : Type 0} (x : Option X) (y : X) → x ≡ Some y → x ≡ None → ⊥
some-none x y a b = cc

or-here : (t u : Bool) → u ≡ true → (t || u) ≡ true
or-here true u e = refl
or-here false u e = e

or-front : (t u : Bool) → t ≡ true → (t || u) ≡ true
or-front true u e = refl
or-front false u e = absurd cc

both-true : (t u : Bool) → t ≡ true → u ≡ true → (t && u) ≡ true
both-true true u e f = f
both-true false u e f = absurd cc

still-stopped : {Action Reply : Type 0} (p : Process Action Reply) (buffers : List ℕ) (a : Action) (r : Reply) (h : List (Entry Action Reply))
    → AreStopped p h buffers → AreStopped p (Does a r ∷ h) buffers
still-stopped p [] a r h all = tt
still-stopped p (b ∷ later) a r h all = (or-here (stops_by b (p.calls a)) (has_stopped p b h) all.0, still-stopped p later a r h all.1)

-- one of these
pub of-all : (P : ℕ → Type 0) (buffers : List ℕ) (b : ℕ) → AllByRecursion P buffers → IsAmong buffers b → P b
of-all P [] b all among = absurd among
of-all P (c ∷ later) b all (inl same) = subst P same all.0
of-all P (c ∷ later) b all (inr among) = of-all P later b all.1 among

stop-is : (b : ℕ) (c : Call) → stops_by b c ≡ true → (side : Side) × (c ≡ At b side Stops)
stop-is b (At c side Stops) e = (side, ap (λ n. At n side Stops) (sym (eqb-true b c e)))
stop-is b other e = absurd cc

module _ {Devices Action Reply Parcel : Type 0} (t : Row Devices Action Reply Parcel) where
  abbrev net : Network Devices Action (Entry Action Reply) Parcel
  net = network_of t

  -- there is no next action exactly where it has ended
  pub none-ended : (p : ℕ) (h : List (Entry Action Reply)) → next_action t.view (t.process p) h ≡ None → (how : Outcome) × (how_ended t.view h ≡ Some how)
  none-ended p h e =
      unless-none (how_ended t.view h) (next_by t.view (t.process p) (caused t.view (t.process p) h) ((t.process p).does (place (t.process p) h)) h) e

  module _ (is : IsRow t) where
    last-entry : (p : ℕ) (x : Action) (r : Reply) (h : List (Entry Action Reply)) (how : Outcome) → IsOne net p → t.view.Fits x r → Shape t p h x
        → t.view.ends x ≡ Some how → EndsRightly t.view (t.process p) (Does x r ∷ h) how
    last-entry p x r h how one fits (AtPlace free e) ends = absurd (some-none _ _ ends ((is.placed p one).goes_on (place (t.process p) h) x e))
    last-entry p x r h how one fits (Giving c disk same) ends = absurd (some-none _ _ ends (ap t.view.ends same ∙ is.view.gives_on))
    last-entry p x r h how one fits (Stopping c b stop) ends = absurd (some-none _ _ ends (ap t.view.ends stop.is ∙ is.view.stops_on b))
    last-entry p x r h how one fits (Ending end) ends = by end.closes.why where
      at : (t.process p).Place
      at = place (t.process p) h

      same : end.closes.how ≡ how
      same = same-outcome end.closes.how how (sym (is.view.ends end.closes.how) ∙ ap t.view.ends (sym end.is) ∙ ends)

      quiet : given_cause t.view (t.process p) at x r ≡ None
      quiet =
          subst (λ x. given_cause t.view (t.process p) at x r ≡ None) (sym end.is)
          ((is.placed p one).quiet at r end.closes.how (subst (λ x. t.view.Fits x r) end.is fits))

      by : nexts.Closing t p h end.closes.stops end.closes.how → EndsRightly t.view (t.process p) (Does x r ∷ h) how
      by (nexts.ByCause e all) =
          let some : caused t.view (t.process p) (Does x r ∷ h) ≡ Some end.closes.how = ap (λ old. or_new old (given_cause t.view (t.process p) at x r)) e in
          record {
            by_cause = ap outcome_by some ∙ same;
            done = λ free. absurd (some-none _ _ some free);
            closed = λ why so. still-stopped (t.process p) (t.process p).buffers x r h (subst (AreStopped (t.process p) h) all end.closed);
          }
      by (nexts.AllDone free over all done) =
          let none : caused t.view (t.process p) (Does x r ∷ h) ≡ None = ap (λ old. or_new old (given_cause t.view (t.process p) at x r)) free ∙ quiet in
          record {
            by_cause = ap outcome_by none ∙ sym done ∙ same;
            done = λ free. ((is.placed p one).stays at r over, still-stopped (t.process p) (t.process p).spools x r h (subst (AreStopped (t.process p) h) all end.closed));
            closed = λ why so. absurd (some-none _ _ so none);
          }

    not-after : (p : ℕ) (h : List (Entry Action Reply)) (a : Action) (how : Outcome) → next_action t.view (t.process p) h ≡ Some a
        → how_ended t.view h ≡ Some how → ⊥
    not-after p h a how next e = some-none _ _ e (goes-on t p h a next)

    pub ends-rightly : (p : ℕ) (h : List (Entry Action Reply)) (how : Outcome) → IsOne net p → law.Follows net p h → how_ended t.view h ≡ Some how
        → EndsRightly t.view (t.process p) h how
    ends-rightly p [] how one follows e = absurd cc
    ends-rightly p (Does x r ∷ h) how one follows e =
        last-entry p x r h how one follows.1 (next-shape t is p h x one follows.0) (new-is (how_ended t.view h) (t.view.ends x) how (goes-on t p h x follows.0) e)
    ends-rightly p (LacksMemory x r ∷ h) how one follows e = absurd (not-after p h x how follows.0 e)
    ends-rightly p (Delays x ∷ h) how one follows e = absurd (not-after p h x how follows.0 e)

    -- ---- a stop that it made is an act
    made-here : (p b : ℕ) (x : Action) (h : List (Entry Action Reply)) (side : Side) → IsOne net p → next_action t.view (t.process p) h ≡ Some x
        → (t.process p).calls (t.view.stop b) ≡ At b side Stops → stops_by b ((t.process p).calls x) ≡ true → stops_at b side ((t.process p).calls x) ≡ true
    made-here p b x h side one next stop e =
        elim (next-shape t is p h x one next) as (λ _. stops_at b side ((t.process p).calls x) ≡ true) [
          | AtPlace free does ↦
              let at = place (t.process p) h in
              absurd (not-both _ e (may-no_stop t.seat p b ((is.placed p one).stage at) ((t.process p).calls x) ((is.placed p one).may at x does)))
          | Giving c disk same ↦ absurd (not-both _ e (ap (stops_by b) (ap (t.process p).calls same ∙ (is.placed p one).gives)))
          | Stopping d c at ↦
              let (of, here) = stop-is b ((t.process p).calls x) e in
              let there : At c at.at.side Stops ≡ At b of Stops = sym at.at.is ∙ ap (t.process p).calls (sym at.is) ∙ here in
              let same : (t.process p).calls x ≡ At b side Stops =
              ap (t.process p).calls at.is ∙ ap (λ n. (t.process p).calls (t.view.stop n)) (at-number c b at.at.side of Stops Stops there) ∙ stop in
              ap (stops_at b side) same ∙ both-true (b == b) (same_side side side) (same-number b) (same-itself side)
          | Ending end ↦ absurd (not-both _ e (ap (stops_by b) (ap (t.process p).calls end.is ∙ (is.placed p one).ends end.closes.how)))
        ]

    pub made : (p b : ℕ) (h : List (Entry Action Reply)) (side : Side) → IsOne net p → law.Follows net p h
        → (t.process p).calls (t.view.stop b) ≡ At b side Stops → has_stopped (t.process p) b h ≡ true → made_stop b side (acts net p h) ≡ true
    made p b [] side one follows stop e = absurd cc
    made p b (Does x r ∷ h) side one follows stop e =
        elim (or-tells (stops_by b ((t.process p).calls x)) (has_stopped (t.process p) b h) e)
        as (λ _. (stops_at b side ((t.process p).calls x) || made_stop b side (acts net p h)) ≡ true) [
          | inl now ↦ or-front _ _ (made-here p b x h side one follows.0 stop now)
          | inr old ↦ or-here (stops_at b side ((t.process p).calls x)) _ (made p b h side one follows.2 stop old)
        ]
    made p b (LacksMemory x r ∷ h) side one follows stop e =
        elim (or-tells (stops_by b ((t.process p).calls x)) (has_stopped (t.process p) b h) e)
        as (λ _. (stops_at b side ((t.process p).calls x) || made_stop b side (acts net p h)) ≡ true) [
          | inl now ↦ or-front _ _ (made-here p b x h side one follows.0 stop now)
          | inr old ↦ or-here (stops_at b side ((t.process p).calls x)) _ (made p b h side one follows.2 stop old)
        ]
    made p b (Delays x ∷ h) side one follows stop e = or-here (stops_at b side ((t.process p).calls x)) _ (made p b h side one follows.2 stop e)

    -- ---- who waits has no cause, and calls there at its place
    pub is-at : (p : ℕ) (h : List (Entry Action Reply)) (b : ℕ) (side : Side) → IsOne net p → CallsAt net p h b side → IsAt t p h b side
    is-at p h b side one w =
        elim (next-shape t is p h w.calls.action one w.calls.next) as (λ _. IsAt t p h b side) [
          | AtPlace free e ↦ record {
            free = free;
            calls = record { action = w.calls.action; visit = w.visit; can_wait = w.can_wait; does = e; call = w.calls.call };
          }
          | Giving c disk same ↦ absurd (let no : Gives ≡ At b side w.visit = sym (is.placed p one).gives ∙ ap (t.process p).calls (sym same) ∙ w.calls.call in cc)
          | Stopping c n stop ↦
              let same : At n stop.at.side Stops ≡ At b side w.visit = sym stop.at.is ∙ ap (t.process p).calls (sym stop.is) ∙ w.calls.call in
              absurd (subst CanWait (sym (at-visit n b stop.at.side side Stops w.visit same)) w.can_wait)
          | Ending end ↦ absurd (let no : Alone ≡ At b side w.visit = sym ((is.placed p one).ends end.closes.how) ∙ ap (t.process p).calls (sym end.is) ∙ w.calls.call in cc)
        ]
