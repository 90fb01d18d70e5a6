-- Where some process of a row has a cause to stop, some process has a fault for its cause, where nobody calls at a
-- buffer whose other process has done all its work.
use Rattle.std.proofs.Common.{◌≡◌, ◌⊎◌, inl, inr, ℕ, Bool, true, List, [], ◌∷◌, Option, None, Some, map, refl, sym, ◌∙◌, ap, subst}
use Rattle.std.proofs.lemmas.Bool.Decides.{eqb_tells}
use Rattle.solo_base.specs.declared.outcome.Side.{Side}
use Rattle.solo_base.specs.declared.outcome.Side.TheVariants.{Sender, Receiver}
use Rattle.solo_base.specs.declared.outcome.Outcome.{Outcome}
use Rattle.solo_base.specs.declared.outcome.Outcome.TheVariants as outcome
use Rattle.solo_base.specs.declared.outcome.Cause.{Cause}
use Rattle.solo_base.specs.declared.outcome.Cause.TheVariants as cause
use Rattle.queue_var.specs.declared.stops.Stops.{Stops as Marks}
use Rattle.queue_var.specs.declared.stops.Stops.TheVariants.{Neither, One, Both}
use Rattle.queue_var.specs.Sides.{first_of, is_among, other}
use Rattle.network_run.specs.Law.{AreEnabled, IsReached, run}
use Rattle.network_law.specs.Acts.{At, Visit, Awaits, Passes, Moves, Stops, Went, Told, made_stop}
use Rattle.network_law.specs.Buffer.{Buffer, Found, Ready, Lacking, Closed, found, awaited, PassFits}
use Rattle.network_law.specs.Network.{Network, State, Event, IsOne, IsEnabled, happens, acts}
use Rattle.network_law.specs.Stepping.{Openings, law_of}
use Rattle.network_law.specs.Network as law
use Rattle.network_law.specs.Kept.{Stands, CanWait, passed}
use Rattle.network_law.proofs.Numbers.{set-same, set-other}
use Rattle.network_law.proofs.Reached.{stands-event}
use Rattle.network_law.proofs.Visits.{closed-is}
use Rattle.place_law.specs.Process.{Entry, Does, LacksMemory, Delays, action_of, or_new}
use Rattle.place_law.specs.Ending.{outcome_by}
use Rattle.place_law.specs.Table.{IsToldAt}
use Rattle.row_law.specs.Process.{Process, place, caused, given_cause, next_action, EntrySuits, went}
use Rattle.row_law.specs.Row.{Row, network_of, IsRow, HasCauses}
use Rattle.row_law.specs.Ranks.{CallsAt, marks_at, AgreeSo}
use Rattle.row_law.specs.Waits.{IsAt, IsDone, NoneMissed}
use Rattle.row_law.specs.Ending.{HasEndedSo, HasEnded, HasCause, FirstIsAFault}
use Rattle.row_law.proofs.Known.{not-both}
use Rattle.row_law.proofs.Lawful.{lawful, unstopped, not-made}
use Rattle.row_law.proofs.Ended.{is-at, ends-rightly}
use Rattle.row_law.proofs.Given.{told-call}

-- ---- who is told finds that the other side has stopped
waits-closed : {Parcel : Type 0} (finds : Found) → Told ≡ awaited {Parcel = Parcel} finds → finds ≡ Closed
waits-closed Ready e = absurd cc
waits-closed Lacking e = absurd cc
waits-closed Closed e = refl

pass-closed : {Parcel : Type 0} (mark : Parcel → Bool) (side : Side) (buffer : Buffer Parcel) (finds : Found) → PassFits mark side buffer finds Told
    → finds ≡ Closed
pass-closed mark side buffer Ready is = absurd is
pass-closed mark side buffer Lacking is = absurd is
pass-closed mark side buffer Closed is = refl

first-among : (stops : Marks) (side : Side) → first_of stops ≡ Some side → is_among side stops ≡ true
first-among Neither side e = absurd cc
first-among (One Sender) Sender e = refl
first-among (One Sender) Receiver e = absurd cc
first-among (One Receiver) Sender e = absurd cc
first-among (One Receiver) Receiver e = refl
first-among (Both by) side e = refl

same-outcome : (a b : Outcome) → Some a ≡ Some b → a ≡ b
same-outcome a b e = cc

module _ {Devices Action Reply Parcel : Type 0} (t : Row Devices Action Reply Parcel) (is : IsRow t) (causes : HasCauses t) (missed : NoneMissed t) where
  abbrev net : Network Devices Action (Entry Action Reply) Parcel
  net = network_of t

  abbrev RowState : Type 0
  RowState = State Devices (Entry Action Reply) Parcel

  -- no process has a cause
  abbrev pub AllFree : RowState → Type 0
  AllFree s = (p : ℕ) → IsOne net p → caused t.view (t.process p) (s.histories p) ≡ None

  pub record HasFault (s : RowState) : Type 0 where
    pub number : ℕ
    pub one : IsOne net number
    pub why : Cause
    pub is_so : caused t.view (t.process number) (s.histories number) ≡ Some (outcome.Fault why)

  abbrev pub Causes : RowState → Type 0
  Causes s = AllFree s ⊎ HasFault s

  -- who has no cause and stopped a buffer has done all its work
  done-by : (p b : ℕ) (side : Side) (h : List (Entry Action Reply)) → IsOne net p → law.Follows net p h → caused t.view (t.process p) h ≡ None
      → made_stop b side (acts net p h) ≡ true → IsDone t p h
  done-by p b side h one follows free made =
      elim ((t.process p).does (place (t.process p) h)) as (λ does. (t.process p).does (place (t.process p) h) ≡ does → IsDone t p h) [
        | None ↦ (λ e. record { free = free; over = e })
        | Some a ↦ (λ e. absurd (not-both _ made (not-made t is p b side h one follows (unstopped t is p b h a one follows free e))))
      ] refl

  module _ (start s : RowState) (st : Stands net start s) (free : AllFree s) where
    order : (b : ℕ) (side : Side) → AgreeSo side (map t.mark (passed net s b side)) (map t.mark (passed net s b (other side))) (s.buffers b).marks
    order b Sender = (st.buffers.hand_over b).marks.in_order
    order b Receiver = (st.buffers.hand_over b).marks.in_order

    -- nobody is told
    not-closed : (p b : ℕ) (side : Side) → IsOne net p → t.seat b side ≡ p → IsAt t p (s.histories p) b side → found (s.buffers b) side ≡ Closed → ⊥
    not-closed p b side one here at e =
        let told = closed-is (s.buffers b) side e in
        let q = t.seat b (other side) in
        let made : made_stop b (other side) (acts net q (s.histories q)) ≡ true =
        sym (st.buffers.stops b (other side)) ∙ sym ((st.buffers.hand_over b).stopped_first.each (other side))
        ∙ first-among (s.buffers b).sides.stops (other side) told.by_other in
        elim (st.others q) as (λ _. ⊥) [
          | inl other_one ↦
              missed p (s.histories p) q (s.histories q) b side
              record {
                one = one;
                follows = st.follows p;
                seated = here;
                other_seated = refl;
                other_one = other_one;
                other_follows = st.follows q;
                inside = (s.buffers b).marks;
                agree = subst (λ p. AgreeSo side (marks_at net p (s.histories p) b side) (marks_at net q (s.histories q) b (other side)) (s.buffers b).marks) here (order b side);
                empty = told.empty;
              }
              at (done-by q b (other side) (s.histories q) other_one (st.follows q) (free q other_one) made)
          | inr empty ↦ not-both _ made (ap (λ h. made_stop b (other side) (acts net q h)) empty)
        ]

    not-told : (p : ℕ) (a : Action) (w : Went Parcel) → IsOne net p → next_action t.view (t.process p) (s.histories p) ≡ Some a
        → IsToldAt ((t.process p).calls a) w → law.Fits t.mark s ((t.process p).calls a) w → ⊥
    not-told p a w one next told fits =
        let is_told = told-call ((t.process p).calls a) w told in
        by is_told.buffer is_told.side is_told.visit is_told.call
        (subst (λ w. law.Fits t.mark s (At is_told.buffer is_told.side is_told.visit) w) is_told.went
        (subst (λ c. law.Fits t.mark s c w) is_told.call fits)) where
          at-calls : (b : ℕ) (side : Side) (visit : Visit) → CanWait visit → (t.process p).calls a ≡ At b side visit → CallsAt net p (s.histories p) b side
          at-calls b side visit can call = record { visit = visit; can_wait = can; calls = record { action = a; next = next; call = call } }

          closed : (b : ℕ) (side : Side) (visit : Visit) → CanWait visit → (t.process p).calls a ≡ At b side visit → found (s.buffers b) side ≡ Closed → ⊥
          closed b side visit can call e =
              not-closed p b side one ((lawful t is).seated p (s.histories p) b side visit one (st.follows p) record { action = a; next = next; call = call })
              (is-at t is p (s.histories p) b side one (at-calls b side visit can call)) e

          by : (b : ℕ) (side : Side) (visit : Visit) → (t.process p).calls a ≡ At b side visit → law.Fits t.mark s (At b side visit) Told → ⊥
          by b side Awaits call fits = closed b side Awaits tt call (waits-closed (found (s.buffers b) side) fits)
          by b side Passes call fits = closed b side Passes tt call (pass-closed t.mark side (s.buffers b) (found (s.buffers b) side) fits)
          by b side Moves call fits = fits
          by b side Stops call fits = cc

    first-fault : (q : ℕ) (a : Action) (reply : Reply) (how : Outcome) → IsOne net q → next_action t.view (t.process q) (s.histories q) ≡ Some a → t.view.Fits a reply
        → law.Fits t.mark s ((t.process q).calls a) (t.view.went a reply)
        → given_cause t.view (t.process q) (place (t.process q) (s.histories q)) a reply ≡ Some how → (why : Cause) × (how ≡ outcome.Fault why)
    first-fault q a reply (outcome.Fault why) one next fits goes e = (why, refl)
    first-fault q a reply outcome.Done one next fits goes e = absurd ((causes.causes q one).not_done (place (t.process q) (s.histories q)) a reply e)
    first-fault q a reply outcome.Stopped one next fits goes e =
        absurd (not-told q a (t.view.went a reply) one next ((causes.causes q one).told (place (t.process q) (s.histories q)) a reply fits e) goes)

  -- ---- every event
  stays-caused : (p : Process Action Reply) (entry : Entry Action Reply) (h : List (Entry Action Reply)) (how : Outcome)
      → caused t.view p h ≡ Some how → caused t.view p (entry ∷ h) ≡ Some how
  stays-caused p (Does a reply) h how e = ap (λ old. or_new old (given_cause t.view p (place p h) a reply)) e
  stays-caused p (LacksMemory a reply) h how e = ap (λ old. or_new old (Some (outcome.Fault cause.NoMemory))) e
  stays-caused p (Delays a) h how e = e

  module _ (start s : RowState) (event : Event (Entry Action Reply)) (st : Stands net start s) (enabled : IsEnabled net s event) where
    own : (happens net s event).histories event.process ≡ event.entry ∷ s.histories event.process
    own = set-same s.histories event.process (event.entry ∷ s.histories event.process)

    others : (p : ℕ) → (p ≡ event.process → ⊥) → (happens net s event).histories p ≡ s.histories p
    others p differ = set-other s.histories event.process (event.entry ∷ s.histories event.process) p differ

    fault-of : (p : ℕ) (why : Cause) → IsOne net p → caused t.view (t.process p) ((happens net s event).histories p) ≡ Some (outcome.Fault why)
        → HasFault (happens net s event)
    fault-of p why one e = record { number = p; one = one; why = why; is_so = e }

    fault-stays : HasFault s → HasFault (happens net s event)
    fault-stays fault =
        elim (eqb_tells fault.number event.process) as (λ _. HasFault (happens net s event)) [
          | inl same ↦
              let now : caused t.view (t.process event.process) (event.entry ∷ s.histories event.process) ≡ Some (outcome.Fault fault.why) =
              stays-caused (t.process event.process) event.entry (s.histories event.process) (outcome.Fault fault.why)
              (subst (λ q. caused t.view (t.process q) (s.histories q) ≡ Some (outcome.Fault fault.why)) same.1 fault.is_so) in
              fault-of event.process fault.why enabled.one (ap (caused t.view (t.process event.process)) own ∙ now)
          | inr differ ↦ fault-of fault.number fault.why fault.one (ap (caused t.view (t.process fault.number)) (others fault.number differ.1) ∙ fault.is_so)
        ]

    free-then : AllFree s → caused t.view (t.process event.process) (event.entry ∷ s.histories event.process) ≡ None → AllFree (happens net s event)
    free-then free none p one =
        elim (eqb_tells p event.process) as (λ _. caused t.view (t.process p) ((happens net s event).histories p) ≡ None) [
          | inl same ↦ subst (λ q. caused t.view (t.process q) ((happens net s event).histories q) ≡ None) (sym same.1)
              (ap (caused t.view (t.process event.process)) own ∙ none)
          | inr differ ↦ ap (caused t.view (t.process p)) (others p differ.1) ∙ free p one
        ]

    by-cause : AllFree s → (how : Option Outcome) → caused t.view (t.process event.process) (event.entry ∷ s.histories event.process) ≡ how
        → ((why : Outcome) → how ≡ Some why → (c : Cause) × (why ≡ outcome.Fault c)) → Causes (happens net s event)
    by-cause free None e fault = inl (free-then free e)
    by-cause free (Some why) e fault =
        (let (c, same) = fault why refl in
        inr (fault-of event.process c enabled.one (ap (caused t.view (t.process event.process)) own ∙ e ∙ ap Some same)))

    new-fault : AllFree s → (entry : Entry Action Reply) (why : Outcome) → next_action t.view (t.process event.process) (s.histories event.process) ≡ Some (action_of entry)
        → EntrySuits t.view (t.process event.process) entry
        → law.Fits t.mark s ((t.process event.process).calls (action_of entry)) (went t.view entry)
        → caused t.view (t.process event.process) (entry ∷ s.histories event.process) ≡ Some why → (c : Cause) × (why ≡ outcome.Fault c)
    new-fault free (Does a reply) why next suits fits e =
        first-fault start s st free event.process a reply why enabled.one next suits fits
        (sym (ap (λ old. or_new old (given_cause t.view (t.process event.process) (place (t.process event.process) (s.histories event.process)) a reply))
        (free event.process enabled.one)) ∙ e)
    new-fault free (LacksMemory a reply) why next suits fits e =
        (cause.NoMemory, sym (same-outcome (outcome.Fault cause.NoMemory) why (sym (ap (λ old. or_new old (Some (outcome.Fault cause.NoMemory))) (free event.process enabled.one)) ∙ e)))
    new-fault free (Delays a) why next suits fits e = absurd (let no = sym (free event.process enabled.one) ∙ e in cc)

    event-causes : Causes s → Causes (happens net s event)
    event-causes (inl free) =
        by-cause free (caused t.view (t.process event.process) (event.entry ∷ s.histories event.process)) refl
        (λ why e. new-fault free event.entry why enabled.next enabled.suits enabled.fits e)
    event-causes (inr fault) = inr (fault-stays fault)

  run-causes : (openings : Openings Devices (Entry Action Reply)) (start s : RowState) (events : List (Event (Entry Action Reply)))
      → AreEnabled (law_of net openings) s events → Stands net start s → Causes s → Causes (run (law_of net openings) s events)
  run-causes openings start s [] are st causes = causes
  run-causes openings start s (event ∷ events) are st causes =
      run-causes openings start (happens net s event) events are.1 (stands-event (lawful t is) start s event st are.0)
      (event-causes start s event st are.0 causes)

  -- From where nobody has a cause, nobody has one or some process has a fault for its cause.
  pub causes-reached : (openings : Openings Devices (Entry Action Reply)) (start s : RowState) → Stands net start start → AllFree start
      → IsReached (law_of net openings) start s → Causes s
  causes-reached openings start s st free reached =
      subst Causes reached.leads (run-causes openings start start reached.events reached.enabled st (inl free))

  -- ---- how all end together
  none-done : (s : RowState) → Causes s → (p : ℕ) (how : Outcome) → IsOne net p → caused t.view (t.process p) (s.histories p) ≡ Some how
      → (q : ℕ) × (c : Cause) × IsOne net q × HasCause t s q (outcome.Fault c)
  none-done s (inl free) p how one e = absurd (let no = sym (free p one) ∙ e in cc)
  none-done s (inr fault) p how one e = (fault.number, fault.why, fault.one, fault.is_so)

  stopped-cause : (cause : Option Outcome) → outcome_by cause ≡ outcome.Stopped → cause ≡ Some outcome.Stopped
  stopped-cause None e = absurd cc
  stopped-cause (Some how) e = ap Some e

  pub first-is-a-fault : (start s : RowState) → Stands net start s → Causes s → FirstIsAFault t s
  first-is-a-fault start s st causes = record {
    fault = λ p how one e. none-done s causes p how one e;
    ended = λ all p one e. ended all p one e;
  } where
    ended : ((p : ℕ) → IsOne net p → HasEnded t s p) → (p : ℕ) → IsOne net p → HasEndedSo t s p outcome.Stopped
        → (q : ℕ) × (c : Cause) × IsOne net q × HasEndedSo t s q (outcome.Fault c)
    ended all p one e =
        let so = stopped-cause (caused t.view (t.process p) (s.histories p)) (ends-rightly t is p (s.histories p) outcome.Stopped one (st.follows p) e).by_cause in
        let (q, c, other, is_so) = none-done s causes p outcome.Stopped one so in
        let (how, ended_so) = all q other in
        let same : outcome.Fault c ≡ how = sym (ap outcome_by is_so) ∙ (ends-rightly t is q (s.histories q) how other (st.follows q) ended_so).by_cause in
        (q, c, other, ended_so ∙ ap Some (sym same))
