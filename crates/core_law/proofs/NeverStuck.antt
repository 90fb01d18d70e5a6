-- No reached state is stuck: who waits has a neighbour that goes on.
use Rattle.std.proofs.Common.{◌≡◌, ◌⊎◌, inl, inr, ℕ, zero, suc, ◌+◌, ◌-◌, ◌≤◌, Bool, true, false, ◌||◌, List, [], ◌∷◌, ◌++◌, length, map, None, Some, refl, sym, ◌∙◌, ap, subst, arith}
use Rattle.std.proofs.lemmas.List.{append-nil}
use Rattle.solo_base.specs.declared.outcome.Side.{Side}
use Rattle.solo_base.specs.declared.outcome.Side.TheVariants.{Sender, Receiver}
use Rattle.solo_base.specs.declared.outcome.Outcome.{Outcome}
use Rattle.solo_base.specs.declared.outcome.Outcome.TheVariants as outcome
use Rattle.queue_var.specs.declared.stops.Stops.{Stops as Marks}
use Rattle.queue_var.specs.declared.stops.Stops.TheVariants as marks
use Rattle.queue_var.specs.Sides.{stopped_by, is_among, first_of}
use Rattle.queue_var.specs.HandsOver.{Lacks}
use Rattle.batch_procs.specs.declared.actions.Action.TheVariants as act
use Rattle.batch_procs.specs.Parcels.{Parcel, is_last, is_ended, handed}
use Rattle.batch_procs.specs.History.{taken, sent, has_stopped, newest}
use Rattle.batch_procs.specs.Process.{Process, next_action}
use Rattle.batch_procs.specs.Laws.{EndsRightly}
use Rattle.batch_procs.proofs.Holding.{none-next}
use Rattle.batch_procs.proofs.Ended.{ended-rightly, done-free}
use Rattle.network_law.specs.Acts.{Call, At, Visit, Awaits, Passes, Moves, Stops}
use Rattle.network_law.specs.Network.{IsEnabled, MayCall}
use Rattle.network_law.specs.Processes.{CallsNext}
use Rattle.network_law.specs.Kept.{CanWait, IsTold, Stands}
use Rattle.network_law.proofs.Rests.{IsBlocked, rests}
use Rattle.core_law.specs.Core.{seat, core, CoreState, CoreEvent, IsBuffer}
use Rattle.core_law.specs.Ends.{IsProcess, IsSmooth, HasEnded}
use Rattle.core_law.specs.Opening.{AreCards, AreGoodFiles}
use Rattle.core_law.proofs.Row.{IsRow, Among, among-all}
use Rattle.core_law.proofs.Acting.{follows-of, stops-are}
use Rattle.core_law.proofs.Lawful.{lawful}
use Rattle.core_law.proofs.Places.{call-buffer, sender-due, receiver-unended, none-due}
use Rattle.core_law.proofs.Answers.{smooth-event}
use Rattle.core_law.proofs.Handed.{stands-between}
use Rattle.core_law.proofs.HandedLists.{ended-handed}
use Rattle.core_law.proofs.Loading.{done-worked}
use Rattle.batch_procs.specs.Jobs.{Jobs, AreJobs}

-- a side that stopped is told
pub marked-told : (stops : Marks) (side : Side) → is_among side stops ≡ true → first_of stops ≡ None → ⊥
marked-told marks.Neither side is none = cc
marked-told (marks.One by) side is none = cc
marked-told (marks.Both by) side is none = cc

module _ {L : Type 0} {J : Jobs L} (jobs : AreJobs J) where
  -- ---- marks of the last
  abbrev any-last : List Bool → Bool
  any-last [] = false
  any-last (m ∷ ms) = m || any-last ms

  ended-marks : (all : List (Parcel L)) → is_ended all ≡ any-last (map is_last all)
  ended-marks [] = refl
  ended-marks (x ∷ all) = ap (λ t. is_last x || t) (ended-marks all)

  any-longer : (ms more : List Bool) → any-last ms ≡ true → any-last (ms ++ more) ≡ true
  any-longer [] more e = absurd cc
  any-longer (m ∷ ms) more e =
      let P : Bool → Type 0 = λ t. (t || any-last ms) ≡ true → (t || any-last (ms ++ more)) ≡ true in
      elim m as P [ true ↦ (λ e. refl) | false ↦ any-longer ms more ] e

  no-stop : (visit : Visit) → CanWait visit → visit ≡ Stops → ⊥
  no-stop Awaits can e = cc
  no-stop Passes can e = cc
  no-stop Moves can e = can
  no-stop Stops can e = can

  -- ---- the marks of a buffer and the stops of its processes
  module _ {row : ℕ → Process L} (laws : IsRow jobs row) (opening s : CoreState L) (st : Stands (core J row) opening s) where
    pub mark-is : (b : ℕ) (side : Side) → is_among side (s.buffers b).sides.stops ≡ has_stopped b (s.histories (seat b side))
    mark-is b side =
        let q = seat b side in
        (st.buffers.hand_over b).stopped_first.each side ∙ st.buffers.stops b side
        ∙ stops-are jobs row q b side (s.histories q) refl (follows-of jobs row q (s.histories q) (st.follows q))

    pub seat-one : (b : ℕ) (side : Side) → IsBuffer b → IsProcess (seat b side)
    seat-one b Sender is = (is.0, (let below = is.1 in omega (arith, below)))
    seat-one b Receiver is = (omega arith, (let below = is.1 in omega (arith, below)))

    among-seat : (b : ℕ) (side : Side) → IsBuffer b → Among b (row (seat b side)).buffers
    among-seat b Sender is = (laws.both b is).0
    among-seat b Receiver is = (laws.both b is).1

    pub ends-at : (q : ℕ) (how : Outcome) → newest (s.histories q) ≡ Some (act.Ended how) → EndsRightly (row q) (s.histories q) how
    ends-at q how e = ended-rightly J (row q) (s.histories q) how (laws.relays q) (follows-of jobs row q (s.histories q) (st.follows q)) e

    -- ---- who has ended otherwise has stopped its buffers
    not-done : (b : ℕ) (side : Side) (how : Outcome) → IsBuffer b → stopped_by (s.buffers b).sides ≡ None
        → (r : EndsRightly (row (seat b side)) (s.histories (seat b side)) how)
        → Rattle.batch_procs.specs.Laws.IsNotDone (Some how) → ⊥
    not-done b side how is free r not =
        let p = seat b side in
        marked-told (s.buffers b).sides.stops side (mark-is b side ∙ among-all (λ b. has_stopped b (s.histories p) ≡ true) b (row p).buffers (r.otherwise not)
        (among-seat b side is)) free

    pub ended-done : (b : ℕ) (side : Side) (how : Outcome) → IsBuffer b → stopped_by (s.buffers b).sides ≡ None
        → newest (s.histories (seat b side)) ≡ Some (act.Ended how) → how ≡ outcome.Done
    ended-done b side outcome.Done is free e = refl
    ended-done b side outcome.Stopped is free e = absurd (not-done b side outcome.Stopped is free (ends-at (seat b side) outcome.Stopped e) tt)
    ended-done b side (outcome.Fault cause) is free e = absurd (not-done b side (outcome.Fault cause) is free
        (ends-at (seat b side) (outcome.Fault cause) e) tt)

    -- ---- both sides agree on the last
    last-sent : (b : ℕ) → IsBuffer b → is_ended (taken (s.histories (suc b))) ≡ true → is_ended (sent (s.histories b)) ≡ true
    last-sent b is e =
        let order = (stands-between jobs laws opening s st b is).marks.in_order in
        ended-marks (sent (s.histories b)) ∙ ap any-last (sym order)
        ∙ any-longer (map is_last (handed (taken (s.histories (suc b))))) (s.buffers b).marks
        (sym (ended-marks (handed (taken (s.histories (suc b))))) ∙ ended-handed jobs (taken (s.histories (suc b))) ∙ e)

    last-taken : (b : ℕ) → IsBuffer b → (s.buffers b).marks ≡ [] → is_ended (sent (s.histories b)) ≡ true → is_ended (taken (s.histories (suc b))) ≡ true
    last-taken b is empty e =
        let order = (stands-between jobs laws opening s st b is).marks.in_order in
        let all = map is_last (handed (taken (s.histories (suc b)))) in
        sym (ended-handed jobs (taken (s.histories (suc b)))) ∙ ended-marks (handed (taken (s.histories (suc b))))
        ∙ ap any-last (sym (append-nil all) ∙ ap (λ ms. all ++ ms) (sym empty) ∙ order)
        ∙ sym (ended-marks (sent (s.histories b))) ∙ e

  module _ {row : ℕ → Process L} (laws : IsRow jobs row) (opening s : CoreState L) (st : Stands (core J row) opening s)
      (lines_told : (b : ℕ) → IsBuffer b → (row (suc b)).takes ≡ act.TakeFeed → IsTold (opening.buffers b))
      (sizes : (b : ℕ) → IsBuffer b → 1 ≤ (opening.buffers b).capacity) (cards : AreCards s.devices.deck) (good : AreGoodFiles J s.devices.files)
      (none : (event : CoreEvent L) → IsEnabled (core J row) s event → IsSmooth event.entry → ⊥) where
    may-not : (p : ℕ) (c : Call) → IsProcess p → CallsNext (core J row) p (s.histories p) c → MayCall s p c → ⊥
    may-not p c one calls may =
        let is = smooth-event jobs laws opening s st lines_told cards good p calls.action one calls.next (subst (MayCall s p) (sym calls.call) may) in
        none is.event is.enabled is.smooth

    abbrev Rests : ℕ → Type 0
    Rests p = (next_action (row p) (s.histories p) ≡ None) ⊎ IsBlocked (core J row) s p

    rests-now : (p : ℕ) → IsProcess p → Rests p
    rests-now p one = rests (lawful jobs laws) opening s st may-not p one

    buffer-of : (p : ℕ) (w : IsBlocked (core J row) s p) → IsProcess p → IsBuffer w.buffer
    buffer-of p w one = call-buffer jobs laws p (s.histories p) one (follows-of jobs row p (s.histories p)
        (st.follows p)) w.calls.action w.buffer w.side w.visit w.calls.next w.calls.call

    -- who waits at a side of a buffer
    record WaitsAt (b : ℕ) (side : Side) : Type 0 where
      visit : Visit
      can_wait : CanWait visit
      calls : CallsNext (core J row) (seat b side) (s.histories (seat b side)) (At b side visit)
      lacks : Lacks (s.buffers b).capacity (s.buffers b).marks side
      not_stopped : stopped_by (s.buffers b).sides ≡ None

    waits-at : (p b : ℕ) (side : Side) (w : IsBlocked (core J row) s p) → w.buffer ≡ b → w.side ≡ side → WaitsAt b side
    waits-at p b side w at of =
        let here : WaitsAt w.buffer w.side = record {
          visit = w.visit;
          can_wait = w.can_wait;
          calls = subst (λ q. CallsNext (core J row) q (s.histories q) (At w.buffer w.side w.visit)) (sym w.seated) w.calls;
          lacks = w.lacks;
          not_stopped = w.not_stopped;
        } in
        subst (λ b. WaitsAt b side) at (subst (WaitsAt w.buffer) of here)

    -- ---- a sender that waits is followed downstream
    abbrev Goes_on : ℕ → Type 0
    Goes_on n = (b : ℕ) → b + n ≡ 5 → IsBuffer b → WaitsAt b Sender → ⊥

    downstream : (n b : ℕ) → Goes_on n → b + suc n ≡ 5 → IsBuffer b → WaitsAt b Sender → (w : IsBlocked (core J row) s (suc b)) (side : Side) → w.side ≡ side
        → ⊥
    downstream n b goes_on five is full w Sender of =
        let at : w.buffer ≡ suc b = sym (ap (seat w.buffer) of) ∙ w.seated in
        goes_on (suc b) (omega (arith, five)) (subst IsBuffer at (buffer-of (suc b) w (seat-one laws opening s st b Receiver is)))
        (waits-at (suc b) (suc b) Sender w at of)
    downstream n b goes_on five is full w Receiver of =
        let next : suc w.buffer ≡ suc b = sym (ap (seat w.buffer) of) ∙ w.seated in
        let at : w.buffer ≡ b = omega (arith, next) in
        let empty = (waits-at (suc b) b Receiver w at of).lacks in
        let none_in : length (s.buffers b).marks ≡ 0 = ap length empty in
        let all_in = full.lacks in
        let room = sizes b is in
        let same_size = st.capacity b in
        omega (arith, none_in, all_in, room, same_size)

    sender-goes_on : (n : ℕ) → Goes_on n
    sender-goes_on zero b five is w = (let below = is.1 in absurd (omega (arith, five, below)))
    sender-goes_on (suc n) b five is w =
        elim (rests-now (suc b) (seat-one laws opening s st b Receiver is)) as (λ _. ⊥) [
          | inl ended ↦
              let (how, last) = none-next J (row (suc b)) (s.histories (suc b)) ended in
              let done = ended-done laws opening s st b Receiver how is w.not_stopped last in
              let taken_last = ((ends-at laws opening s st (suc b) how last).done done).1 in
              let (first, more, due_is) = sender-due jobs (row b) (s.histories b) b b w.visit w.calls.action (laws.relays b) w.calls.next w.calls.call
              (no-stop w.visit w.can_wait) in
              none-due jobs (row b) (s.histories b) first more (laws.relays b) (follows-of jobs row b (s.histories b) (st.follows b)) due_is
              (last-sent laws opening s st b is taken_last)
          | inr blocked ↦ downstream n b (sender-goes_on n) five is w blocked blocked.side refl
        ]

    never-sends : (b : ℕ) → IsBuffer b → WaitsAt b Sender → ⊥
    never-sends b is w = (let below = is.1 in sender-goes_on (5 - b) b (omega (arith, below)) is w)

    -- ---- a receiver that waits is followed upstream
    upstream-of : (k : ℕ) → (IsBuffer k → WaitsAt k Receiver → ⊥) → (w : IsBlocked (core J row) s (suc k)) → IsBuffer w.buffer → (side : Side) → w.side ≡ side
        → ⊥
    upstream-of k goes_on w is Sender of = never-sends w.buffer is (waits-at (suc k) w.buffer Sender w refl of)
    upstream-of k goes_on w is Receiver of =
        let next : suc w.buffer ≡ suc k = sym (ap (seat w.buffer) of) ∙ w.seated in
        let at : w.buffer ≡ k = omega (arith, next) in
        goes_on (subst IsBuffer at is) (waits-at (suc k) k Receiver w at of)

    receiver-goes_on : (b : ℕ) → IsBuffer b → WaitsAt b Receiver → ⊥
    receiver-goes_on zero is w = (let low = is.0 in absurd (omega (arith, low)))
    receiver-goes_on (suc k) is w =
        let b = suc k in
        let one = seat-one laws opening s st b Sender is in
        elim (rests-now b one) as (λ _. ⊥) [
          | inl ended ↦
              let h = s.histories b in
              let follows = follows-of jobs row b h (st.follows b) in
              let (how, last) = none-next J (row b) h ended in
              let done = ended-done laws opening s st b Sender how is w.not_stopped last in
              let r = ends-at laws opening s st b how last in
              let at_end = last ∙ ap (λ how. Some (act.Ended how)) done in
              let free = done-free J (row b) h follows at_end in
              let worked = done-worked jobs (row b) h (laws.relays b) follows at_end in
              let sent_last = ap is_ended (r.done done).0 ∙ laws.ends b is h follows free worked (r.done done).1 in
              let on = receiver-unended jobs (row (suc b)) (s.histories (suc b))
              (suc b) b w.visit w.calls.action (laws.relays (suc b)) w.calls.next w.calls.call (no-stop w.visit w.can_wait) in
              let off = last-taken laws opening s st b is w.lacks sent_last in
              cc
          | inr blocked ↦ upstream-of k (receiver-goes_on k) blocked (buffer-of b blocked one) blocked.side refl
        ]

    waits-not : (p : ℕ) (w : IsBlocked (core J row) s p) → IsBuffer w.buffer → (side : Side) → w.side ≡ side → ⊥
    waits-not p w is Sender of = never-sends w.buffer is (waits-at p w.buffer Sender w refl of)
    waits-not p w is Receiver of = receiver-goes_on w.buffer is (waits-at p w.buffer Receiver w refl of)

    -- ---- so all have ended
    pub ended-all : (p : ℕ) → IsProcess p → HasEnded s p
    ended-all p one =
        elim (rests-now p one) as (λ _. HasEnded s p) [
          | inl ended ↦ none-next J (row p) (s.histories p) ended
          | inr blocked ↦ absurd (waits-not p blocked (buffer-of p blocked one) blocked.side refl)
        ]
