-- Where no process may make its next call, each has ended or lacks what it waits for at a buffer that nobody stopped.
use Rattle.std.proofs.Common.{◌≡◌, ◌⊎◌, inl, inr, ℕ, true, None, Some, refl, sym, ◌∙◌, ap, subst}
use Rattle.solo_base.specs.declared.outcome.Side.{Side}
use Rattle.queue_var.specs.declared.turn.Turn.TheVariants.{Free, Handed}
use Rattle.queue_var.specs.Sides.{queue, stopped_by}
use Rattle.queue_var.specs.HandsOver.{Lacks}
use Rattle.resource_mon.specs.Claims.{IsNoneOf}
use Rattle.network_law.specs.Acts.{Visit, Awaits, Passes, Moves, Stops, Call, Alone, At, Asks, Gives, waits, holds}
use Rattle.network_law.specs.Buffer.{MayVisit}
use Rattle.network_law.specs.Network.{Network, State, IsOne, MayCall, acts}
use Rattle.network_law.specs.Processes.{CallsNext, IsPrompt, IsLawful}
use Rattle.network_law.specs.Kept.{CanWait, Stands}
use Rattle.network_law.proofs.KeepsQueues.{same-call}

-- It waits at a buffer for what it lacks there, and no side has stopped.
pub record IsBlocked {Devices Action Entry Parcel : Type 0} (network : Network Devices Action Entry Parcel) (s : State Devices Entry Parcel)
    (p : ℕ) : Type 0 where
  pub buffer : ℕ
  pub side : Side
  pub visit : Visit
  pub can_wait : CanWait visit
  pub calls : CallsNext network p (s.histories p) (At buffer side visit)
  pub seated : network.seat buffer side ≡ p
  pub lacks : Lacks (s.buffers buffer).capacity (s.buffers buffer).marks side
  pub not_stopped : stopped_by (s.buffers buffer).sides ≡ None

pub may-enter : {Devices Entry Parcel : Type 0} (s : State Devices Entry Parcel) (b : ℕ) (side : Side) (q : ℕ) (visit : Visit) → CanWait visit
    → (s.buffers b).sides.turn ≡ Handed side → queue (s.buffers b).sides side ≡ Some q → MayVisit (s.buffers b).sides side q visit
may-enter s b side q Awaits can handed held = inr (handed, held)
may-enter s b side q Passes can handed held = inr (handed, held)
may-enter s b side q Moves can handed held = absurd can
may-enter s b side q Stops can handed held = absurd can

module _ {Devices Action Entry Parcel : Type 0} {network : Network Devices Action Entry Parcel} (laws : IsLawful network) (start s : State Devices Entry Parcel)
    (st : Stands network start s)
    (may-not : (p : ℕ) (c : Call) → IsOne network p → CallsNext network p (s.histories p) c → MayCall s p c → ⊥) where
  waits-one : (q : ℕ) → waits (acts network q (s.histories q)) ≡ true → IsOne network q
  waits-one q e = elim (st.others q) as (λ _. IsOne network q) [
    | inl one ↦ one
    | inr empty ↦ (let no = ap (λ h. waits (acts network q h)) (sym empty) ∙ e in
        absurd cc)
  ]

  holds-one : (q : ℕ) → holds (acts network q (s.histories q)) ≡ true → IsOne network q
  holds-one q e = elim (st.others q) as (λ _. IsOne network q) [
    | inl one ↦ one
    | inr empty ↦ (let no = ap (λ h. holds (acts network q h)) (sym empty) ∙ e in
        absurd cc)
  ]

  -- ---- no turn is handed
  pub turn-free : (b : ℕ) → (s.buffers b).sides.turn ≡ Free
  turn-free b =
      elim (s.buffers b).sides.turn as (λ turn. (s.buffers b).sides.turn ≡ turn → (s.buffers b).sides.turn ≡ Free) [
        | Free ↦ (λ free. free)
        | Handed side ↦ (λ handed.
            let (q, held) = (st.buffers.hand_over b).marks.waits.named side handed in
            let at = st.queues.queued b side q held in
            absurd (may-not q (At b side at.visit) (waits-one q at.waits_now) at.calls (may-enter s b side q at.visit at.can_wait handed held)))
      ] refl

  pub desk-free : s.desk.claims.handed ≡ None
  desk-free =
      elim s.desk.claims.handed as (λ h. s.desk.claims.handed ≡ h → s.desk.claims.handed ≡ None) [
        | None ↦ (λ free. free)
        | Some q ↦ (λ is. let at = st.desk.handed q is in absurd (may-not q Asks (waits-one q at.waits_now) at.calls (inr is)))
      ] refl

  -- ---- who calls there without waiting isn't in the queue
  queue-empty : (p b : ℕ) (side : Side) (visit : Visit) → IsOne network p → (CanWait visit → ⊥) → CallsNext network p (s.histories p) (At b side visit)
      → queue (s.buffers b).sides side ≡ None
  queue-empty p b side visit one cannot calls =
      elim (queue (s.buffers b).sides side) as (λ held. queue (s.buffers b).sides side ≡ held → queue (s.buffers b).sides side ≡ None) [
        | None ↦ (λ empty. empty)
        | Some q ↦ (λ held.
            let at = st.queues.queued b side q held in
            let same : q ≡ p = sym at.seated ∙ laws.seated p (s.histories p) b side visit one (st.follows p) calls in
            let e = same-call p (s.histories p) (At b side at.visit) (At b side visit)
            (subst (λ q. CallsNext network q (s.histories q) (At b side at.visit)) same at.calls) calls in
            let visits : at.visit ≡ visit = cc in
            absurd (cannot (subst CanWait visits at.can_wait)))
      ] refl

  -- ---- a prompt call may be made
  prompt-not : (p : ℕ) (c : Call) → IsOne network p → IsPrompt c → CallsNext network p (s.histories p) c → ⊥
  prompt-not p Alone one is calls = may-not p Alone one calls tt
  prompt-not p Gives one is calls = may-not p Gives one calls desk-free
  prompt-not p Asks one is calls = is
  prompt-not p (At b side Moves) one is calls = may-not p (At b side Moves) one calls (turn-free b, queue-empty p b side Moves one (λ is. is) calls)
  prompt-not p (At b side Awaits) one is calls = is
  prompt-not p (At b side Passes) one is calls = is
  prompt-not p (At b side Stops) one is calls = is

  pub nobody-holds : s.desk.claims.holder ≡ None
  nobody-holds =
      elim s.desk.claims.holder as (λ h. s.desk.claims.holder ≡ h → s.desk.claims.holder ≡ None) [
        | None ↦ (λ free. free)
        | Some q ↦ (λ is. elim (st.desk.holder q is) as (λ _. s.desk.claims.holder ≡ None) [
          | inl handed ↦ absurd (let free = desk-free in cc)
          | inr on ↦
              let (c, prompt, calls) = laws.held q (s.histories q) (holds-one q on) (st.follows q) on in
              absurd (prompt-not q c (holds-one q on) prompt calls)
        ])
      ] refl

  -- ---- who waits lacks what it waits for
  pub record LacksThere (b : ℕ) (side : Side) : Type 0 where
    pub lacks : Lacks (s.buffers b).capacity (s.buffers b).marks side
    pub not_stopped : stopped_by (s.buffers b).sides ≡ None

  lacks-there : (p b : ℕ) (side : Side) → ((s.buffers b).sides.turn ≡ Free → queue (s.buffers b).sides side ≡ None → ⊥) → LacksThere b side
  lacks-there p b side not_in =
      elim (queue (s.buffers b).sides side) as (λ held. queue (s.buffers b).sides side ≡ held → LacksThere b side) [
        | None ↦ (λ empty. absurd (not_in (turn-free b) empty))
        | Some q ↦ (λ held. elim ((st.buffers.hand_over b).marks.waits.cause side q held) as (λ _. LacksThere b side) [
          | inl cause ↦ record { lacks = cause.0; not_stopped = cause.1 }
          | inr handed ↦ absurd (let no = sym (turn-free b) ∙ handed in cc)
        ])
      ] refl

  blocked : (p b : ℕ) (side : Side) (visit : Visit) → CanWait visit → IsOne network p → CallsNext network p (s.histories p) (At b side visit)
      → ((s.buffers b).sides.turn ≡ Free → queue (s.buffers b).sides side ≡ None → ⊥) → IsBlocked network s p
  blocked p b side visit can one calls not_in =
      let there = lacks-there p b side not_in in
      record {
        buffer = b;
        side = side;
        visit = visit;
        can_wait = can;
        calls = calls;
        seated = laws.seated p (s.histories p) b side visit one (st.follows p) calls;
        lacks = there.lacks;
        not_stopped = there.not_stopped;
      }

  rests-by : (p : ℕ) (c : Call) → IsOne network p → CallsNext network p (s.histories p) c → IsBlocked network s p
  rests-by p Alone one calls = absurd (prompt-not p Alone one tt calls)
  rests-by p Gives one calls = absurd (prompt-not p Gives one tt calls)
  rests-by p Asks one calls = absurd (may-not p Asks one calls (inl (
    desk-free,
    subst (λ waiting. IsNoneOf waiting p) (sym (st.desk.one_holder.idle nobody-holds)) tt,
  )))
  rests-by p (At b side Moves) one calls = absurd (prompt-not p (At b side Moves) one tt calls)
  rests-by p (At b side Stops) one calls = absurd (may-not p (At b side Stops) one calls (turn-free b, queue-empty p b side Stops one (λ is. is) calls))
  rests-by p (At b side Awaits) one calls = blocked p b side Awaits tt one calls (λ free empty. may-not p (At b side Awaits) one calls (inl (free, empty)))
  rests-by p (At b side Passes) one calls = blocked p b side Passes tt one calls (λ free empty. may-not p (At b side Passes) one calls (inl (free, empty)))

  -- Each process has ended or is blocked.
  pub rests : (p : ℕ) → IsOne network p → (network.next p (s.histories p) ≡ None) ⊎ IsBlocked network s p
  rests p one =
      elim (network.next p (s.histories p)) as (λ next. network.next p (s.histories p) ≡ next
      → (network.next p (s.histories p) ≡ None) ⊎ IsBlocked network s p) [
        | None ↦ (λ e. inl e)
        | Some a ↦ (λ e. inr (rests-by p (network.call p a) one record { action = a; next = e; call = refl }))
      ] refl
