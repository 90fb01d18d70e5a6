-- What a process moved by now is told by its place while it has no cause; what it moved in all, and each cause, follow.
use Rattle.std.proofs.Common.{◌≡◌, inl, inr, ℕ, true, List, [], ◌∷◌, Option, None, Some, sym, ◌∙◌, ap, subst}
use Rattle.solo_base.specs.declared.outcome.Outcome.{Outcome}
use Rattle.solo_base.specs.declared.outcome.Outcome.TheVariants as outcome
use Rattle.solo_base.specs.declared.outcome.Cause.TheVariants as cause
use Rattle.network_law.specs.Acts.{Call, Alone, At, Stops, Act, Went, Delayed, Told, Done, Moved}
use Rattle.network_law.specs.Network.{IsOne, acts}
use Rattle.network_law.specs.Network as law
use Rattle.place_law.specs.Process.{Entry, Does, LacksMemory, Delays, action_of, place, caused, given_cause, or_new, EntrySuits, went}
use Rattle.place_law.specs.Table.{Table, network_of, MovesNothing, IsPlaced}
use Rattle.solo_base.specs.declared.outcome.Side.{Side}
use Rattle.place_law.proofs.Nexts.{or-none, or-new, does-next, AtPlace, Stopping, Ending, next-shape}
use Rattle.place_law.proofs.Given.{or-either}

-- no call, or the stop of a buffer, which moves nothing
abbrev pub IsClosing : {Parcel : Type 0} → Call → Went Parcel → Type 0
IsClosing Alone went = Unit {0}
IsClosing (At b side Stops) (Moved parcel) = ⊥
IsClosing (At b side Stops) went = Unit {0}
IsClosing call went = ⊥

stop-closes : {Parcel : Type 0} (b : ℕ) (side : Side) (w : Went Parcel) → MovesNothing w → IsClosing (At b side Stops) w
stop-closes b side Delayed none = tt
stop-closes b side Told none = tt
stop-closes b side Done none = tt
stop-closes b side (Moved parcel) none = none

same-cause : (a b : Outcome) → Some a ≡ Some b → b ≡ a
same-cause a b e = cc

not-lacking : (old : Option Outcome) (how : Outcome) → or_new old (Some how) ≡ None → ⊥
not-lacking None how e = cc
not-lacking (Some other) how e = cc

module _ {Devices Action Reply Parcel : Type 0} (t : Table Devices Action Reply Parcel) (p : ℕ) (Is : (t.process p).Place → List (Act Parcel) → Type 0)
    (first : Is (t.process p).start [])
    -- each answer at a place keeps it, and so does a call that waits
    (answered : (at : (t.process p).Place) (reply : Reply) (before : List (Act Parcel)) → t.view.Fits ((t.process p).does at) reply
    → given_cause t.view (t.process p) at ((t.process p).does at) reply ≡ None → Is at before
    → Is ((t.process p).behind at reply)
    (record { call = (t.process p).calls ((t.process p).does at); went = t.view.went ((t.process p).does at) reply } ∷ before))
    (waited : (at : (t.process p).Place) (call : Call) (before : List (Act Parcel)) → Is at before
    → Is at (record { call = call; went = Delayed } ∷ before)) where
  pub moved-so : (h : List (Entry Action Reply)) → law.Follows (network_of t) p h → caused t.view (t.process p) h ≡ None
      → Is (place (t.process p) h) (acts (network_of t) p h)
  moved-so [] follows none = first
  moved-so (Does a r ∷ h) follows none =
      let before = or-none (caused t.view (t.process p) h) _ none in
      let now = or-new (caused t.view (t.process p) h) _ none in
      let at = place (t.process p) h in
      let same = does-next t p h a before follows.0 in
      subst (λ a. t.view.Fits a r → given_cause t.view (t.process p) at a r ≡ None
      → Is ((t.process p).behind at r) (record { call = (t.process p).calls a; went = t.view.went a r } ∷ acts (network_of t) p h)) same
      (λ fits free. answered at r (acts (network_of t) p h) fits free (moved-so h follows.2 before)) follows.1 now
  moved-so (LacksMemory a r ∷ h) follows none = absurd (not-lacking (caused t.view (t.process p) h) _ none)
  moved-so (Delays a ∷ h) follows none = waited (place (t.process p) h) ((t.process p).calls a) (acts (network_of t) p h) (moved-so h follows.2 none)

  module _ (is : IsPlaced t) (one : IsOne (network_of t) p) (All : List (Act Parcel) → Type 0) where
    -- What its place tells holds of all that it moved, if the last answer that it gets there and its closing down keep it.
    pub moved-all : (holds : (at : (t.process p).Place) (before : List (Act Parcel)) → Is at before → All before)
        → (last : (at : (t.process p).Place) (reply : Reply) (before : List (Act Parcel)) → t.view.Fits ((t.process p).does at) reply → Is at before
        → All (record { call = (t.process p).calls ((t.process p).does at); went = t.view.went ((t.process p).does at) reply } ∷ before))
        → (closes : (call : Call) (went : Went Parcel) (before : List (Act Parcel)) → IsClosing call went → All before
        → All (record { call = call; went = went } ∷ before))
        → (h : List (Entry Action Reply)) → law.Follows (network_of t) p h → All (acts (network_of t) p h)
    moved-all holds last closes [] follows = holds (t.process p).start [] first
    moved-all holds last closes (entry ∷ h) follows =
        elim (next-shape t is p h (action_of entry) one follows.0) as (λ _. All (acts (network_of t) p (entry ∷ h))) [
          | AtPlace free same ↦ by-entry entry same follows.1 (moved-so h follows.2 free)
          | Stopping b stop ↦ closes ((t.process p).calls (action_of entry)) (went t.view entry) (acts (network_of t) p h)
              (subst (λ c. IsClosing c (went t.view entry)) (sym (ap (t.process p).calls stop.is ∙ stop.at.is))
              (stop-closes b stop.at.side (went t.view entry) (nothing b entry stop.is))) (moved-all holds last closes h follows.2)
          | Ending end ↦ closes ((t.process p).calls (action_of entry)) (went t.view entry) (acts (network_of t) p h)
              (subst (λ c. IsClosing c (went t.view entry)) (sym (ap (t.process p).calls end.is
              ∙ is.ends p end.why one)) tt) (moved-all holds last closes h follows.2)
        ] where
          nothing : (b : ℕ) (entry : Entry Action Reply) → action_of entry ≡ t.view.stop b → MovesNothing (went t.view entry)
          nothing b (Does a r) e = subst (λ a. MovesNothing (t.view.went a r)) (sym e) (is.stop_moves_not b r)
          nothing b (LacksMemory a r) e = subst (λ a. MovesNothing (t.view.went a r)) (sym e) (is.stop_moves_not b r)
          nothing b (Delays a) e = tt

          at-place : (a : Action) (r : Reply) → a ≡ (t.process p).does (place (t.process p) h) → t.view.Fits a r
              → Is (place (t.process p) h) (acts (network_of t) p h)
              → All (record { call = (t.process p).calls a; went = t.view.went a r } ∷ acts (network_of t) p h)
          at-place a r same fits at =
              subst (λ a. All (record { call = (t.process p).calls a; went = t.view.went a r } ∷ acts (network_of t) p h)) (sym same)
              (last (place (t.process p) h) r (acts (network_of t) p h) (subst (λ a. t.view.Fits a r) same fits) at)

          by-entry : (entry : Entry Action Reply) → action_of entry ≡ (t.process p).does (place (t.process p) h) → EntrySuits t.view (t.process p) entry
              → Is (place (t.process p) h) (acts (network_of t) p h) → All (acts (network_of t) p (entry ∷ h))
          by-entry (Does a r) same fits at = at-place a r same fits at
          by-entry (LacksMemory a r) same fits at = at-place a r same (is.lack_fits a r fits.1) at
          by-entry (Delays a) same fits at =
              holds (place (t.process p) h) _ (waited (place (t.process p) h) ((t.process p).calls a) (acts (network_of t) p h) at)

    -- What holds of each cause that an answer gives at a place, and of want of memory, holds of the cause.
    pub each-cause : (So : Outcome → Type 0) (fewer : (act : Act Parcel) (before : List (Act Parcel)) → All (act ∷ before) → All before)
        → (gives : (at : (t.process p).Place) (reply : Reply) (how : Outcome) (before : List (Act Parcel)) → t.view.Fits ((t.process p).does at) reply
        → Is at before
        → All (record { call = (t.process p).calls ((t.process p).does at); went = t.view.went ((t.process p).does at) reply } ∷ before)
        → given_cause t.view (t.process p) at ((t.process p).does at) reply ≡ Some how → So how)
        → (lacks : (t.process p).may_lack ≡ true → So (outcome.Fault cause.NoMemory))
        → (h : List (Entry Action Reply)) (how : Outcome) → law.Follows (network_of t) p h → All (acts (network_of t) p h)
        → caused t.view (t.process p) h ≡ Some how → So how
    each-cause So fewer gives lacks [] how follows all e = absurd cc
    each-cause So fewer gives lacks (Does a r ∷ h) how follows all e =
        let at = place (t.process p) h in
        elim (or-either (caused t.view (t.process p) h) (given_cause t.view (t.process p) at a r) how e) as (λ _. So how) [
          | inl new ↦
              let same = does-next t p h a new.0 follows.0 in
              subst (λ a. t.view.Fits a r → All (record { call = (t.process p).calls a; went = t.view.went a r } ∷ acts (network_of t) p h)
              → given_cause t.view (t.process p) at a r ≡ Some how → So how) same
              (λ fits all now. gives at r how (acts (network_of t) p h) fits (moved-so h follows.2 new.0) all now) follows.1 all new.1
          | inr old ↦ each-cause So fewer gives lacks h how follows.2 (fewer _ (acts (network_of t) p h) all) old
        ]
    each-cause So fewer gives lacks (LacksMemory a r ∷ h) how follows all e =
        elim (or-either (caused t.view (t.process p) h) (Some (outcome.Fault cause.NoMemory)) how e) as (λ _. So how) [
          | inl new ↦ subst So (sym (same-cause (outcome.Fault cause.NoMemory) how new.1)) (lacks follows.1.0)
          | inr old ↦ each-cause So fewer gives lacks h how follows.2 (fewer _ (acts (network_of t) p h) all) old
        ]
    each-cause So fewer gives lacks (Delays a ∷ h) how follows all e =
        each-cause So fewer gives lacks h how follows.2 (fewer _ (acts (network_of t) p h) all) e
