-- A network whose processes are told by their places meets what the law asks of processes.
use Rattle.std.proofs.Common.{◌≡◌, ℕ, ◌==◌, ◌&&◌, ◌||◌, Bool, true, false, if◌then◌else◌, List, [], ◌∷◌, Option, None, Some, refl, sym, ◌∙◌, ap, subst}
use Rattle.solo_base.specs.declared.outcome.Side.{Side}
use Rattle.solo_base.specs.declared.outcome.Outcome.{Outcome}
use Rattle.queue_var.specs.Sides.{same_side}
use Rattle.network_law.specs.Acts.{Call, Alone, At, Asks, Gives, Visit, Awaits, Passes, Moves, Stops, Went, Delayed, stops_at, made_stop, holds, holds_by}
use Rattle.network_law.specs.Network.{Network, IsOne, acts}
use Rattle.network_law.specs.Network as law
use Rattle.network_law.specs.Processes.{CallsNext, IsLawful}
use Rattle.network_law.proofs.KeepsQueues.{at-number, at-side}
use Rattle.place_law.specs.Process.{Entry, Does, LacksMemory, Delays, action_of, Process, place, caused, has_stopped, stops_by, how_ended, stops_next, next_by, unless_ended, next_action, went}
use Rattle.place_law.specs.Table.{Table, network_of, PassesHere, IsPlaced}
use Rattle.place_law.proofs.Nexts.{or-none, same-calls, AtPlace, Stopping, Ending, next-shape}

-- ---- a call that passes
passing-at : (seat : ℕ → Side → ℕ) (p b : ℕ) (side : Side) (visit : Visit) → PassesHere seat p (At b side visit) → (visit ≡ Passes) × (seat b side ≡ p)
passing-at seat p b side Awaits never = absurd never
passing-at seat p b side Passes is = (refl, is)
passing-at seat p b side Moves never = absurd never
passing-at seat p b side Stops never = absurd never

pub passing-no_stop : (seat : ℕ → Side → ℕ) (p b : ℕ) (c : Call) → PassesHere seat p c → stops_by b c ≡ false
passing-no_stop seat p b Alone is = refl
passing-no_stop seat p b (At c side Passes) is = refl
passing-no_stop seat p b (At c side Awaits) is = absurd is
passing-no_stop seat p b (At c side Moves) is = absurd is
passing-no_stop seat p b (At c side Stops) is = absurd is
passing-no_stop seat p b Asks is = absurd is
passing-no_stop seat p b Gives is = absurd is

-- ---- stops
and-first : (t u : Bool) → t ≡ false → (t && u) ≡ false
and-first true u e = absurd cc
and-first false u e = refl

not-here : (b : ℕ) (side : Side) (c : Call) → stops_by b c ≡ false → stops_at b side c ≡ false
not-here b side (At c of Stops) e = and-first (b == c) (same_side side of) e
not-here b side (At c of Awaits) e = refl
not-here b side (At c of Passes) e = refl
not-here b side (At c of Moves) e = refl
not-here b side Alone e = refl
not-here b side Asks e = refl
not-here b side Gives e = refl

pub or-falses : (t u : Bool) → (t || u) ≡ false → (t ≡ false) × (u ≡ false)
or-falses true u e = absurd cc
or-falses false u e = (refl, e)

pub both-falses : (t u : Bool) → t ≡ false → u ≡ false → (t || u) ≡ false
both-falses true u e f = absurd cc
both-falses false u e f = f

not-both : (t : Bool) → t ≡ true → t ≡ false → ⊥
not-both t a b = cc

module _ {Devices Action Reply Parcel : Type 0} (t : Table Devices Action Reply Parcel) (is : IsPlaced t) where
  abbrev net : Network Devices Action (Entry Action Reply) Parcel
  net = network_of t

  at-place : (p : ℕ) (h : List (Entry Action Reply)) (a : Action) → IsOne net p → a ≡ (t.process p).does (place (t.process p) h)
      → PassesHere t.seat p ((t.process p).calls a)
  at-place p h a one e = subst (λ a. PassesHere t.seat p ((t.process p).calls a)) (sym e) (is.passes p one (place (t.process p) h))

  -- ---- seats
  seated : (p : ℕ) (h : List (Entry Action Reply)) (b : ℕ) (side : Side) (visit : Visit) → IsOne net p → CallsNext net p h (At b side visit)
      → t.seat b side ≡ p
  seated p h b side visit one calls =
      elim (next-shape t is p h calls.action one calls.next) as (λ _. t.seat b side ≡ p) [
        | AtPlace free e ↦ (passing-at t.seat p b side visit (subst (PassesHere t.seat p) calls.call (at-place p h calls.action one e))).1
        | Stopping c stop ↦
            let same = same-calls (t.process p).calls (t.view.stop c) calls.action _ _ (sym stop.is) stop.at.is calls.call in
            subst (λ b. t.seat b side ≡ p) (at-number c b stop.at.side side Stops visit same)
            (subst (λ side. t.seat c side ≡ p) (at-side c b stop.at.side side Stops visit same) stop.at.seated)
        | Ending end ↦ absurd (let no = same-calls (t.process p).calls (t.view.end end.why) calls.action _ _ (sym end.is)
            (is.ends p end.why one) calls.call in cc)
      ]

  -- ---- who has no cause has stopped nothing
  pub unstopped : (p b : ℕ) (h : List (Entry Action Reply)) → IsOne net p → law.Follows net p h → caused t.view (t.process p) h ≡ None
      → has_stopped (t.process p) b h ≡ false
  unstopped p b [] one follows none = refl
  unstopped p b (Does a r ∷ h) one follows none =
      let before = or-none (caused t.view (t.process p) h) _ none in
      elim (next-shape t is p h a one follows.0) as (λ _. (stops_by b ((t.process p).calls a) || has_stopped (t.process p) b h) ≡ false) [
        | AtPlace free e ↦ both-falses _ _ (passing-no_stop t.seat p b ((t.process p).calls a) (at-place p h a one e)) (unstopped p b h one follows.2 before)
        | Stopping c stop ↦ absurd (let no = stop.caused_so in cc)
        | Ending end ↦ absurd (let no = end.caused_so in cc)
      ]
  unstopped p b (LacksMemory a r ∷ h) one follows none = unstopped p b h one follows.2 (or-none (caused t.view (t.process p) h) _ none)
  unstopped p b (Delays a ∷ h) one follows none = unstopped p b h one follows.2 none

  -- ---- what the history tells of stops, the acts tell
  no-stop : (p b : ℕ) (h : List (Entry Action Reply)) (a : Action) → IsOne net p → next_action t.view (t.process p) h ≡ Some a
      → ((c : ℕ) → a ≡ t.view.stop c → ⊥) → stops_by b ((t.process p).calls a) ≡ false
  no-stop p b h a one next not =
      elim (next-shape t is p h a one next) as (λ _. stops_by b ((t.process p).calls a) ≡ false) [
        | AtPlace free e ↦ passing-no_stop t.seat p b ((t.process p).calls a) (at-place p h a one e)
        | Stopping c stop ↦ absurd (not c stop.is)
        | Ending end ↦ ap (stops_by b) (ap (t.process p).calls end.is ∙ is.ends p end.why one)
      ]

  pub not-made : (p b : ℕ) (side : Side) (h : List (Entry Action Reply)) → IsOne net p → law.Follows net p h → has_stopped (t.process p) b h ≡ false
      → made_stop b side (acts net p h) ≡ false
  not-made p b side [] one follows e = refl
  not-made p b side (Does a r ∷ h) one follows e =
      let parts = or-falses (stops_by b ((t.process p).calls a)) (has_stopped (t.process p) b h) e in
      both-falses _ _ (not-here b side ((t.process p).calls a) parts.0) (not-made p b side h one follows.2 parts.1)
  not-made p b side (LacksMemory a r ∷ h) one follows e =
      let none = no-stop p b h a one follows.0 (λ c same. is.stop_kept c r (subst (λ a. t.view.MayLack a r) same follows.1.1)) in
      both-falses _ _ (not-here b side ((t.process p).calls a) none) (not-made p b side h one follows.2 e)
  not-made p b side (Delays a ∷ h) one follows e =
      let none = no-stop p b h a one follows.0 (λ c same. is.stop_prompt c (subst t.view.MayWait same follows.1)) in
      both-falses _ _ (not-here b side ((t.process p).calls a) none) (not-made p b side h one follows.2 e)

  not-yet : (p : ℕ) (h : List (Entry Action Reply)) (b : ℕ) (side : Side) (visit : Visit) → IsOne net p → law.Follows net p h
      → CallsNext net p h (At b side visit) → has_stopped (t.process p) b h ≡ false
  not-yet p h b side visit one follows calls =
      elim (next-shape t is p h calls.action one calls.next) as (λ _. has_stopped (t.process p) b h ≡ false) [
        | AtPlace free e ↦ unstopped p b h one follows free
        | Stopping c stop ↦
            let same = same-calls (t.process p).calls (t.view.stop c) calls.action _ _ (sym stop.is) stop.at.is calls.call in
            subst (λ b. has_stopped (t.process p) b h ≡ false) (at-number c b stop.at.side side Stops visit same) stop.not_yet
        | Ending end ↦ absurd (let no = same-calls (t.process p).calls (t.view.end end.why) calls.action _ _ (sym end.is)
            (is.ends p end.why one) calls.call in cc)
      ]

  -- ---- every call passes, stops, or is none
  abbrev Plain : Call → Type 0
  Plain (At b side Moves) = ⊥
  Plain Asks = ⊥
  Plain Gives = ⊥
  Plain other = Unit {0}

  passing-one : (p : ℕ) (c : Call) → PassesHere t.seat p c → Plain c
  passing-one p Alone is = tt
  passing-one p (At b side Passes) is = tt
  passing-one p (At b side Awaits) is = tt
  passing-one p (At b side Stops) is = tt
  passing-one p (At b side Moves) is = absurd is
  passing-one p Asks is = absurd is
  passing-one p Gives is = absurd is

  plain : (p : ℕ) (h : List (Entry Action Reply)) (a : Action) → IsOne net p → next_action t.view (t.process p) h ≡ Some a → Plain ((t.process p).calls a)
  plain p h a one next =
      elim (next-shape t is p h a one next) as (λ _. Plain ((t.process p).calls a)) [
        | AtPlace free e ↦ passing-one p ((t.process p).calls a) (at-place p h a one e)
        | Stopping c stop ↦ subst Plain (sym (ap (t.process p).calls stop.is ∙ stop.at.is)) tt
        | Ending end ↦ subst Plain (sym (ap (t.process p).calls end.is ∙ is.ends p end.why one)) tt
      ]

  plain-held : (c : Call) (w : Went Parcel) (before : Bool) → Plain c → holds_by before c w ≡ before
  plain-held Alone w before is = refl
  plain-held (At b side visit) w before is = refl
  plain-held Asks w before is = absurd is
  plain-held Gives w before is = absurd is

  nobody-holds : (p : ℕ) (h : List (Entry Action Reply)) → IsOne net p → law.Follows net p h → holds (acts net p h) ≡ false
  nobody-holds p [] one follows = refl
  nobody-holds p (entry ∷ h) one follows =
      plain-held ((t.process p).calls (action_of entry)) (went t.view entry) (holds (acts net p h)) (plain p h (action_of entry) one follows.0)
      ∙ nobody-holds p h one follows.2

  -- ---- a call that waits is made again
  same-stops : (p : Process Action Reply) (buffers : List ℕ) (how : Outcome) (h : List (Entry Action Reply)) (a : Action)
      → stops_next t.view p buffers how (Delays a ∷ h) ≡ stops_next t.view p buffers how h
  same-stops p [] how h a = refl
  same-stops p (b ∷ later) how h a = ap (λ next. if has_stopped p b h then next else t.view.stop b) (same-stops p later how h a)

  same-next : (p : Process Action Reply) (cause : Option Outcome) (h : List (Entry Action Reply)) (a : Action)
      → next_by t.view p cause (Delays a ∷ h) ≡ next_by t.view p cause h
  same-next p None h a = refl
  same-next p (Some how) h a = same-stops p p.buffers how h a

  again : (p : ℕ) (h : List (Entry Action Reply)) (entry : Entry Action Reply) → went t.view entry ≡ Delayed
      → next_action t.view (t.process p) h ≡ Some (action_of entry) → next_action t.view (t.process p) (entry ∷ h) ≡ Some (action_of entry)
  again p h (Does a r) e next = absurd (is.answered a r e)
  again p h (LacksMemory a r) e next = absurd (is.answered a r e)
  again p h (Delays a) e next = ap (unless_ended (how_ended t.view h)) (same-next (t.process p) (caused t.view (t.process p) h) h a) ∙ next

  pub lawful : IsLawful (network_of t)
  lawful = record {
    seated = λ p h b side visit one follows calls. seated p h b side visit one calls;
    unstopped = λ p h b side visit one follows calls. not-made p b side h one follows (not-yet p h b side visit one follows calls);
    found = λ p h b side one follows calls. absurd (subst Plain calls.call (plain p h calls.action one calls.next));
    asks = λ p h one follows calls. nobody-holds p h one follows;
    gives = λ p h one follows calls. absurd (subst Plain calls.call (plain p h calls.action one calls.next));
    held = λ p h one follows holding. absurd (not-both (holds (acts net p h)) holding (nobody-holds p h one follows));
    again = again;
  }
