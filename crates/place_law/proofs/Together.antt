-- How the processes of a table end together.
use Rattle.std.proofs.Common.{◌≡◌, inl, inr, ℕ, true, false, List, [], ◌∷◌, Option, None, Some, refl, sym, ◌∙◌, ap, subst}
use Rattle.std.specs.List.{AllByRecursion}
use Rattle.solo_base.specs.declared.outcome.Side.{Side}
use Rattle.solo_base.specs.declared.outcome.Side.TheVariants.{Sender, Receiver}
use Rattle.solo_base.specs.declared.outcome.Outcome.{Outcome}
use Rattle.solo_base.specs.declared.outcome.Outcome.TheVariants as outcome
use Rattle.solo_base.specs.declared.outcome.Cause.{Cause}
use Rattle.queue_var.specs.declared.stops.Stops.{Stops as Marks}
use Rattle.queue_var.specs.declared.stops.Stops.TheVariants.{Neither, One, Both}
use Rattle.queue_var.specs.Sides.{stopped_by, first_of, is_among}
use Rattle.network_law.specs.Acts.{made_stop}
use Rattle.network_law.specs.Network.{State, IsOne, acts}
use Rattle.network_law.specs.Kept.{Stands}
use Rattle.place_law.specs.Process.{Entry, Does, LacksMemory, Delays, place, caused, or_new, has_stopped}
use Rattle.place_law.specs.Table.{Table, network_of, StopsOwn, IsPlaced}
use Rattle.place_law.specs.Ending.{outcome_by, EndsRightly, HasEndedSo, HasEnded, AllDone, WasTold, HaveReasons, EndsTogether}
use Rattle.place_law.proofs.Ended.{ends-rightly, made}
use Rattle.place_law.proofs.Given.{was-told}
use Rattle.place_law.proofs.Faults.{Causes, none-stopped}

neither-first : (stops : Marks) → ((side : Side) → is_among side stops ≡ false) → first_of stops ≡ None
neither-first Neither none = refl
neither-first (One Sender) none = absurd (let no = none Sender in cc)
neither-first (One Receiver) none = absurd (let no = none Receiver in cc)
neither-first (Both Sender) none = absurd (let no = none Sender in cc)
neither-first (Both Receiver) none = absurd (let no = none Receiver in cc)

marked-told : (stops : Marks) (side : Side) → is_among side stops ≡ true → first_of stops ≡ None → ⊥
marked-told Neither side is none = cc
marked-told (One by) side is none = cc
marked-told (Both by) side is none = cc

-- a cause isn't that the work is done, so who ended done has none
free-by : (cause : Option Outcome) → (cause ≡ Some outcome.Done → ⊥) → outcome_by cause ≡ outcome.Done → cause ≡ None
free-by None not e = refl
free-by (Some how) not e = absurd (not (ap Some e))

stopped-cause : (cause : Option Outcome) → outcome_by cause ≡ outcome.Stopped → cause ≡ Some outcome.Stopped
stopped-cause None e = absurd cc
stopped-cause (Some how) e = ap Some e

same-outcome : (a b : Outcome) → Some a ≡ Some b → a ≡ b
same-outcome a b e = cc

module _ {Devices Action Reply Parcel : Type 0} (t : Table Devices Action Reply Parcel) (is : IsPlaced t)
    (seats : (b : ℕ) (side : Side) → IsOne (network_of t) (t.seat b side)) where
  -- no cause is that the work is done
  or-not : (old new : Option Outcome) → (old ≡ Some outcome.Done → ⊥) → (new ≡ Some outcome.Done → ⊥) → or_new old new ≡ Some outcome.Done → ⊥
  or-not None new a b e = b e
  or-not (Some how) new a b e = a e

  pub never-done : (p : ℕ) (h : List (Entry Action Reply)) → IsOne (network_of t) p → caused t.view (t.process p) h ≡ Some outcome.Done → ⊥
  never-done p [] one e = cc
  never-done p (Does a r ∷ h) one e = or-not (caused t.view (t.process p) h) _ (never-done p h one) (is.not_done p one (place (t.process p) h) a r) e
  never-done p (LacksMemory a r ∷ h) one e = or-not (caused t.view (t.process p) h) _ (never-done p h one) (λ e. cc) e
  never-done p (Delays a ∷ h) one e = never-done p h one e

  module _ (start s : State Devices (Entry Action Reply) Parcel) (st : Stands (network_of t) start s) where
    -- a buffer that a process stopped was stopped
    pub not-stopped : (p b : ℕ) → IsOne (network_of t) p → StopsOwn t.seat p (t.process p).calls t.view.stop b
        → has_stopped (t.process p) b (s.histories p) ≡ true → stopped_by (s.buffers b).sides ≡ None → ⊥
    not-stopped p b one at stopped free =
        let q = t.seat b at.side in
        let act : made_stop b at.side (acts (network_of t) q (s.histories q)) ≡ true =
        subst (λ q. made_stop b at.side (acts (network_of t) q (s.histories q)) ≡ true) (sym at.seated)
        (made t is p b (s.histories p) at.side one (st.follows p) at.is stopped) in
        marked-told (s.buffers b).sides.stops at.side ((st.buffers.hand_over b).stopped_first.each at.side ∙ st.buffers.stops b at.side ∙ act) free

    one-stopped : (p : ℕ) (buffers : List ℕ) → IsOne (network_of t) p → (buffers ≡ [] → ⊥)
        → AllByRecursion (StopsOwn t.seat p (t.process p).calls t.view.stop) buffers
        → AllByRecursion (λ b. has_stopped (t.process p) b (s.histories p) ≡ true) buffers
        → AllByRecursion (λ b. stopped_by (s.buffers b).sides ≡ None) buffers → ⊥
    one-stopped p [] one some at stopped free = some refl
    one-stopped p (b ∷ later) one some at stopped free = not-stopped p b one at.0 stopped.0 free.0

    how-ended : (p : ℕ) (how : Outcome) → IsOne (network_of t) p → HasEndedSo t s p how → EndsRightly t.view (t.process p) (s.histories p) how
    how-ended p how one e = ends-rightly t is p (s.histories p) how one (st.follows p) e

    pub done-free : (p : ℕ) → IsOne (network_of t) p → HasEndedSo t s p outcome.Done → caused t.view (t.process p) (s.histories p) ≡ None
    done-free p one done =
        free-by (caused t.view (t.process p) (s.histories p)) (never-done p (s.histories p) one) (how-ended p outcome.Done one done).by_cause

    unstopped-done : (p : ℕ) (how : Outcome) → IsOne (network_of t) p → HasEndedSo t s p how
        → AllByRecursion (λ b. stopped_by (s.buffers b).sides ≡ None) (t.process p).buffers → how ≡ outcome.Done
    unstopped-done p how one e free =
        let rightly = how-ended p how one e in
        by (caused t.view (t.process p) (s.histories p)) refl rightly where
          by : (cause : Option Outcome) → caused t.view (t.process p) (s.histories p) ≡ cause → EndsRightly t.view (t.process p) (s.histories p) how
              → how ≡ outcome.Done
          by None none rightly = sym rightly.by_cause ∙ ap outcome_by none
          by (Some why) some rightly =
              absurd (one-stopped p (t.process p).buffers one (is.some p one) (is.stops p one) (rightly.closed why some) free)

    module _ (causes : Causes t is seats s) where
      pub reasons : HaveReasons t s
      reasons = record {
        told = λ p one e. was-told t is start s st p one e;
        fault = λ p how one e. elim causes as (λ _. (q : ℕ) × (c : Cause) × IsOne (network_of t) q
            × (caused t.view (t.process q) (s.histories q) ≡ Some (outcome.Fault c))) [
              | inl free ↦ absurd (let no = sym (free p one) ∙ e in cc)
              | inr fault ↦ (fault.number, fault.why, fault.one, fault.is_so)
            ];
      }

      stopped-ends : ((p : ℕ) → IsOne (network_of t) p → HasEnded t s p) → (p : ℕ) → IsOne (network_of t) p → HasEndedSo t s p outcome.Stopped
          → WasTold t s p × ((q : ℕ) × (c : Cause) × IsOne (network_of t) q × HasEndedSo t s q (outcome.Fault c))
      stopped-ends all p one e =
          let caused_so = stopped-cause (caused t.view (t.process p) (s.histories p)) (how-ended p outcome.Stopped one e).by_cause in
          let (q, c, other, is_so) = reasons.fault p outcome.Stopped one caused_so in
          let (how, ended_so) = all q other in
          let same : outcome.Fault c ≡ how = sym (ap outcome_by is_so) ∙ (how-ended q how other ended_so).by_cause in
          (reasons.told p one caused_so, (q, c, other, ended_so ∙ ap Some (sym same)))

      pub together : EndsTogether t s
      together = record {
        done = λ all b. neither-first (s.buffers b).sides.stops
            (λ side. none-stopped t is seats start s st b side (done-free _ (seats b side) (all _ (seats b side))));
        unstopped = unstopped-done;
        stopped = stopped-ends;
      }
