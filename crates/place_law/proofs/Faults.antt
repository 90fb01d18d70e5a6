-- Where some process has a cause to stop, some process has a fault for its cause: of all causes the first isn't that
-- another has stopped.
use Rattle.std.proofs.Common.{◌≡◌, ◌⊎◌, inl, inr, ℕ, Bool, true, false, List, [], ◌∷◌, Option, None, Some, refl, sym, ◌∙◌, ap, subst}
use Rattle.std.proofs.lemmas.Bool.Decides.{eqb_tells}
use Rattle.solo_base.specs.declared.outcome.Side.{Side}
use Rattle.solo_base.specs.declared.outcome.Side.TheVariants.{Sender, Receiver}
use Rattle.solo_base.specs.declared.outcome.Outcome.{Outcome}
use Rattle.solo_base.specs.declared.outcome.Outcome.TheVariants as outcome
use Rattle.solo_base.specs.declared.outcome.Cause.{Cause}
use Rattle.solo_base.specs.declared.outcome.Cause.TheVariants as cause
use Rattle.queue_var.specs.declared.stops.Stops.{Stops as Marks}
use Rattle.queue_var.specs.declared.stops.Stops.TheVariants.{Neither, One, Both}
use Rattle.queue_var.specs.Sides.{first_of, is_among, other}
use Rattle.network_run.specs.Law.{AreEnabled, IsReached, run}
use Rattle.network_law.specs.Acts.{Call, Alone, At, Asks, Gives, Awaits, Passes, Moves, Stops, Went, Told}
use Rattle.network_law.specs.Buffer.{Buffer, Found, Ready, Lacking, Closed, found, awaited, PassFits}
use Rattle.network_law.specs.Network.{State, Event, IsOne, IsEnabled, happens, set, acts}
use Rattle.network_law.specs.Stepping.{Openings, law_of}
use Rattle.network_law.specs.Network as law
use Rattle.network_law.specs.Kept.{Stands}
use Rattle.network_law.proofs.Numbers.{set-same, set-other}
use Rattle.network_law.proofs.Reached.{stands-event}
use Rattle.network_law.proofs.Visits.{closed-is}
use Rattle.place_law.specs.Process.{Entry, Does, LacksMemory, Delays, action_of, Process, place, caused, given_cause, or_new, EntrySuits, went}
use Rattle.place_law.specs.Table.{Table, network_of, IsToldAt, IsPlaced}
use Rattle.place_law.proofs.Lawful.{lawful, unstopped, not-made}

-- ---- who is told finds that the other side has stopped
waits-closed : {Parcel : Type 0} (finds : Found) → Told ≡ awaited {Parcel = Parcel} finds → finds ≡ Closed
waits-closed Ready e = absurd cc
waits-closed Lacking e = absurd cc
waits-closed Closed e = refl

pass-closed : {Parcel : Type 0} (mark : Parcel → Bool) (side : Side) (buffer : Buffer Parcel) (finds : Found) → PassFits mark side buffer finds Told
    → finds ≡ Closed
pass-closed mark side buffer Ready is = absurd is
pass-closed mark side buffer Lacking is = absurd is
pass-closed mark side buffer Closed is = refl

first-among : (stops : Marks) (side : Side) → first_of stops ≡ Some side → is_among side stops ≡ true
first-among Neither side e = absurd cc
first-among (One Sender) Sender e = refl
first-among (One Sender) Receiver e = absurd cc
first-among (One Receiver) Sender e = absurd cc
first-among (One Receiver) Receiver e = refl
first-among (Both by) side e = refl

false-true : (t : Bool) → t ≡ false → t ≡ true → ⊥
false-true t a b = cc

module _ {Devices Action Reply Parcel : Type 0} (t : Table Devices Action Reply Parcel) (is : IsPlaced t)
    (seats : (b : ℕ) (side : Side) → IsOne (network_of t) (t.seat b side)) where
  -- no process has a cause
  abbrev pub AllFree : State Devices (Entry Action Reply) Parcel → Type 0
  AllFree s = (p : ℕ) → IsOne (network_of t) p → caused t.view (t.process p) (s.histories p) ≡ None

  pub record HasFault (s : State Devices (Entry Action Reply) Parcel) : Type 0 where
    pub number : ℕ
    pub one : IsOne (network_of t) number
    pub why : Cause
    pub is_so : caused t.view (t.process number) (s.histories number) ≡ Some (outcome.Fault why)

  abbrev pub Causes : State Devices (Entry Action Reply) Parcel → Type 0
  Causes s = AllFree s ⊎ HasFault s

  module _ (start s : State Devices (Entry Action Reply) Parcel) (st : Stands (network_of t) start s) where
    -- who has no cause stopped no side
    pub none-stopped : (b : ℕ) (side : Side) → caused t.view (t.process (t.seat b side)) (s.histories (t.seat b side)) ≡ None
        → is_among side (s.buffers b).sides.stops ≡ false
    none-stopped b side free =
        let q = t.seat b side in
        let never = not-made t is q b side (s.histories q) (seats b side) (st.follows q)
        (unstopped t is q b (s.histories q) (seats b side) (st.follows q) free) in
        (st.buffers.hand_over b).stopped_first.each side ∙ st.buffers.stops b side ∙ never

    module _ (free : AllFree s) where
      -- so nobody is told
      not-closed : (b : ℕ) (side : Side) → found (s.buffers b) side ≡ Closed → ⊥
      not-closed b side e =
          let told = closed-is (s.buffers b) side e in
          false-true _ (none-stopped b (other side) (free _ (seats b (other side))))
          (first-among (s.buffers b).sides.stops (other side) told.by_other)

      not-told : (c : Call) (w : Went Parcel) → IsToldAt c w → law.Fits t.mark s c w → ⊥
      not-told (At b side Awaits) Told told fits = not-closed b side (waits-closed (found (s.buffers b) side) fits)
      not-told (At b side Passes) Told told fits = not-closed b side (pass-closed t.mark side (s.buffers b) (found (s.buffers b) side) fits)
      not-told (At b side Moves) Told told fits = fits
      not-told (At b side Stops) Told told fits = cc
      not-told (At b side visit) w told fits = told
      not-told Alone w told fits = told
      not-told Asks w told fits = told
      not-told Gives w told fits = told

      first-fault : (q : ℕ) (a : Action) (reply : Reply) (how : Outcome) → IsOne (network_of t) q → t.view.Fits a reply
          → law.Fits t.mark s ((t.process q).calls a) (t.view.went a reply)
          → given_cause t.view (t.process q) (place (t.process q) (s.histories q)) a reply ≡ Some how
          → (why : Cause) × (how ≡ outcome.Fault why)
      first-fault q a reply (outcome.Fault why) one fits goes e = (why, refl)
      first-fault q a reply outcome.Done one fits goes e = absurd (is.not_done q one (place (t.process q) (s.histories q)) a reply e)
      first-fault q a reply outcome.Stopped one fits goes e =
          absurd (not-told ((t.process q).calls a) (t.view.went a reply) (is.told q one (place (t.process q) (s.histories q)) a reply fits e) goes)

  -- ---- every event
  stays-caused : (p : Process Action Reply) (entry : Entry Action Reply) (h : List (Entry Action Reply)) (how : Outcome)
      → caused t.view p h ≡ Some how → caused t.view p (entry ∷ h) ≡ Some how
  stays-caused p (Does a reply) h how e = ap (λ old. or_new old (given_cause t.view p (place p h) a reply)) e
  stays-caused p (LacksMemory a reply) h how e = ap (λ old. or_new old (Some (outcome.Fault cause.NoMemory))) e
  stays-caused p (Delays a) h how e = e

  module _ (start s : State Devices (Entry Action Reply) Parcel) (event : Event (Entry Action Reply)) (st : Stands (network_of t) start s)
      (enabled : IsEnabled (network_of t) s event) where
    own : (happens (network_of t) s event).histories event.process ≡ event.entry ∷ s.histories event.process
    own = set-same s.histories event.process (event.entry ∷ s.histories event.process)

    others : (p : ℕ) → (p ≡ event.process → ⊥) → (happens (network_of t) s event).histories p ≡ s.histories p
    others p differ = set-other s.histories event.process (event.entry ∷ s.histories event.process) p differ

    fault-of : (p : ℕ) (why : Cause) → IsOne (network_of t) p
        → caused t.view (t.process p) ((happens (network_of t) s event).histories p) ≡ Some (outcome.Fault why) → HasFault (happens (network_of t) s event)
    fault-of p why one e = record { number = p; one = one; why = why; is_so = e }

    fault-stays : HasFault s → HasFault (happens (network_of t) s event)
    fault-stays fault =
        elim (eqb_tells fault.number event.process) as (λ _. HasFault (happens (network_of t) s event)) [
          | inl same ↦
              let now : caused t.view (t.process event.process) (event.entry ∷ s.histories event.process) ≡ Some (outcome.Fault fault.why) =
              stays-caused (t.process event.process) event.entry (s.histories event.process) (outcome.Fault fault.why)
              (subst (λ q. caused t.view (t.process q) (s.histories q) ≡ Some (outcome.Fault fault.why)) same.1 fault.is_so) in
              fault-of event.process fault.why enabled.one (ap (caused t.view (t.process event.process)) own ∙ now)
          | inr differ ↦ fault-of fault.number fault.why fault.one (ap (caused t.view (t.process fault.number)) (others fault.number differ.1) ∙ fault.is_so)
        ]

    free-then : AllFree s → caused t.view (t.process event.process) (event.entry ∷ s.histories event.process) ≡ None
        → AllFree (happens (network_of t) s event)
    free-then free none p one =
        elim (eqb_tells p event.process) as (λ _. caused t.view (t.process p) ((happens (network_of t) s event).histories p) ≡ None) [
          | inl same ↦ subst (λ q. caused t.view (t.process q) ((happens (network_of t) s event).histories q) ≡ None) (sym same.1)
              (ap (caused t.view (t.process event.process)) own ∙ none)
          | inr differ ↦ ap (caused t.view (t.process p)) (others p differ.1) ∙ free p one
        ]

    by-cause : AllFree s → (how : Option Outcome) → caused t.view (t.process event.process) (event.entry ∷ s.histories event.process) ≡ how
        → ((why : Outcome) → how ≡ Some why → (c : Cause) × (why ≡ outcome.Fault c)) → Causes (happens (network_of t) s event)
    by-cause free None e fault = inl (free-then free e)
    by-cause free (Some why) e fault =
        (let (c, same) = fault why refl in
        inr (fault-of event.process c enabled.one (ap (caused t.view (t.process event.process)) own ∙ e ∙ ap Some same)))

    new-fault : AllFree s → (entry : Entry Action Reply) (why : Outcome) → EntrySuits t.view (t.process event.process) entry
        → law.Fits t.mark s ((t.process event.process).calls (action_of entry)) (went t.view entry)
        → caused t.view (t.process event.process) (entry ∷ s.histories event.process) ≡ Some why → (c : Cause) × (why ≡ outcome.Fault c)
    new-fault free (Does a reply) why suits fits e =
        first-fault start s st free event.process a reply why enabled.one suits fits
        (sym (ap (λ old. or_new old (given_cause t.view (t.process event.process) (place (t.process event.process) (s.histories event.process)) a reply))
        (free event.process enabled.one)) ∙ e)
    new-fault free (LacksMemory a reply) why suits fits e =
        (cause.NoMemory, same-cause (sym (ap (λ old. or_new old (Some (outcome.Fault cause.NoMemory))) (free event.process enabled.one)) ∙ e)) where
          same-cause : Some (outcome.Fault cause.NoMemory) ≡ Some why → why ≡ outcome.Fault cause.NoMemory
          same-cause e = cc
    new-fault free (Delays a) why suits fits e = absurd (let no = sym (free event.process enabled.one) ∙ e in cc)

    event-causes : Causes s → Causes (happens (network_of t) s event)
    event-causes (inl free) =
        by-cause free (caused t.view (t.process event.process) (event.entry ∷ s.histories event.process)) refl
        (λ why e. new-fault free event.entry why enabled.suits enabled.fits e)
    event-causes (inr fault) = inr (fault-stays fault)

  run-causes : (openings : Openings Devices (Entry Action Reply)) (start s : State Devices (Entry Action Reply) Parcel)
      (events : List (Event (Entry Action Reply))) → AreEnabled (law_of (network_of t) openings) s events
      → Stands (network_of t) start s → Causes s → Causes (run (law_of (network_of t) openings) s events)
  run-causes openings start s [] are st causes = causes
  run-causes openings start s (event ∷ events) are st causes =
      run-causes openings start (happens (network_of t) s event) events are.1 (stands-event (lawful t is) start s event st are.0)
      (event-causes start s event st are.0 causes)

  -- From where nobody has a cause, nobody has one or some process has a fault for its cause.
  pub causes-reached : (openings : Openings Devices (Entry Action Reply)) (start s : State Devices (Entry Action Reply) Parcel)
      → Stands (network_of t) start start → AllFree start → IsReached (law_of (network_of t) openings) start s → Causes s
  causes-reached openings start s st free reached =
      subst Causes reached.leads (run-causes openings start start reached.events reached.enabled st (inl free))
