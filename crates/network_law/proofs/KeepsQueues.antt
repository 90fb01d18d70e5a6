-- Each enabled event keeps who stands in which queue of a buffer.
use Rattle.std.proofs.Common.{◌≡◌, ◌⊎◌, inl, inr, ℕ, Bool, true, List, ◌∷◌, Option, Some, refl, sym, ◌∙◌, ap, subst}
use Rattle.std.proofs.lemmas.Bool.Decides.{eqb_tells}
use Rattle.solo_base.specs.declared.outcome.Side.{Side}
use Rattle.queue_var.specs.Sides.{queue, other}
use Rattle.network_law.specs.Acts.{Visit, Awaits, Passes, Moves, Stops, Call, Alone, At, Asks, Gives, Went, Delayed, Told, Done, Moved, is_delayed, waits}
use Rattle.network_law.specs.Buffer.{Buffer, after_visit}
use Rattle.network_law.specs.Network.{Network, State, Event, IsEnabled, Follows, Fits, set, call_of, buffers_after, happens, acts}
use Rattle.network_law.specs.Processes.{CallsNext, IsLawful}
use Rattle.network_law.specs.Kept.{CanWait, StandsInQueue, QueuesStand}
use Rattle.network_law.proofs.Numbers.{set-same, set-other}
use Rattle.network_law.proofs.Lasts.{OwnQueue, wait-own, visit-other, no_wait-queue}
use Rattle.network_law.proofs.Seats.{calls, is-seated, acts-own, acts-other}
use Rattle.network_law.proofs.KeepsReady.{other-side, side-tells}

pub some-same : {X : Type 0} (x y : X) → Some x ≡ Some y → x ≡ y
some-same x y e = cc

-- a process makes one call next
pub same-call : {Devices Action Entry Parcel : Type 0} {network : Network Devices Action Entry Parcel} (p : ℕ) (h : List Entry) (one two : Call)
    → CallsNext network p h one → CallsNext network p h two → one ≡ two
same-call {network = network} p h one two a b = sym a.call ∙ ap (network.call p) (some-same a.action b.action (sym a.next ∙ b.next)) ∙ b.call

-- ---- the queues after an event: the one of its call, or another
pub record IsHere (k : Call) (b : ℕ) (x : Side) : Type 0 where
  pub visit : Visit
  pub can_wait : CanWait visit
  pub call : k ≡ At b x visit

abbrev pub QueueAfter : {Parcel : Type 0} → (Parcel → Bool) → Call → ℕ → Went Parcel → (ℕ → Buffer Parcel) → ℕ → Side → Type 0
QueueAfter mark k p w buffers b x =
    (IsHere k b x × OwnQueue w p (queue (buffers_after mark k p w buffers b).sides x))
    ⊎ ((IsHere k b x → ⊥) × (queue (buffers_after mark k p w buffers b).sides x ≡ queue (buffers b).sides x))

pub at-visit : (b c : ℕ) (x of : Side) (one two : Visit) → At b x one ≡ At c of two → one ≡ two
at-visit b c x of one two e = cc

pub at-side : (b c : ℕ) (x of : Side) (one two : Visit) → At b x one ≡ At c of two → x ≡ of
at-side b c x of one two e = cc

pub at-number : (b c : ℕ) (x of : Side) (one two : Visit) → At b x one ≡ At c of two → b ≡ c
at-number b c x of one two e = cc

not-here : (n b : ℕ) (side x : Side) (visit : Visit) → (CanWait visit → ⊥) → IsHere (At n side visit) b x → ⊥
not-here n b side x visit cannot here = cannot (subst CanWait (sym (at-visit n b side x visit here.visit here.call)) here.can_wait)

queue-here : {Parcel : Type 0} (mark : Parcel → Bool) (p : ℕ) (w : Went Parcel) (buffers : ℕ → Buffer Parcel) (n : ℕ) (side x : Side) (visit : Visit)
    → QueueAfter mark (At n side visit) p w buffers n x
queue-here mark p w buffers n side x Moves =
    inr (
      not-here n n side x Moves (λ is. is),
      ap (λ (buffer : Buffer _). queue buffer.sides x)
          (set-same buffers n (after_visit mark Moves side p w (buffers n))) ∙ (no_wait-queue mark side p w (buffers n) x).0,
    )
queue-here mark p w buffers n side x Stops =
    inr (
      not-here n n side x Stops (λ is. is),
      ap (λ (buffer : Buffer _). queue buffer.sides x)
          (set-same buffers n (after_visit mark Stops side p w (buffers n))) ∙ (no_wait-queue mark side p w (buffers n) x).1,
    )
queue-here mark p w buffers n side x Awaits =
    elim (side-tells x side) as (λ _. QueueAfter mark (At n side Awaits) p w buffers n x) [
      | inl same ↦ inl (
        record { visit = Awaits; can_wait = tt; call = ap (λ side. At n side Awaits) (sym same) },
        subst (λ x. OwnQueue w p (queue (set buffers n (after_visit mark Awaits side p w (buffers n)) n).sides x)) (sym same)
            (subst (λ (buffer : Buffer _). OwnQueue w p (queue buffer.sides side)) (sym (set-same buffers n (after_visit mark Awaits side p w (buffers n))))
            (wait-own mark side p w (buffers n))),
      )
      | inr differ ↦ inr (
        (λ (here : IsHere (At n side Awaits) n x). differ (sym (at-side n n side x Awaits here.visit here.call))),
        subst (λ x. queue (set buffers n (after_visit mark Awaits side p w (buffers n)) n).sides x ≡ queue (buffers n).sides x) (other-side x side differ)
            (ap (λ (buffer : Buffer _). queue buffer.sides (other side)) (set-same buffers n (after_visit mark Awaits side p w (buffers n)))
            ∙ visit-other mark Awaits side p w (buffers n)),
      )
    ]
queue-here mark p w buffers n side x Passes =
    elim (side-tells x side) as (λ _. QueueAfter mark (At n side Passes) p w buffers n x) [
      | inl same ↦ inl (
        record { visit = Passes; can_wait = tt; call = ap (λ side. At n side Passes) (sym same) },
        subst (λ x. OwnQueue w p (queue (set buffers n (after_visit mark Passes side p w (buffers n)) n).sides x)) (sym same)
            (subst (λ (buffer : Buffer _). OwnQueue w p (queue buffer.sides side)) (sym (set-same buffers n (after_visit mark Passes side p w (buffers n))))
            (wait-own mark side p w (buffers n))),
      )
      | inr differ ↦ inr (
        (λ (here : IsHere (At n side Passes) n x). differ (sym (at-side n n side x Passes here.visit here.call))),
        subst (λ x. queue (set buffers n (after_visit mark Passes side p w (buffers n)) n).sides x ≡ queue (buffers n).sides x) (other-side x side differ)
            (ap (λ (buffer : Buffer _). queue buffer.sides (other side)) (set-same buffers n (after_visit mark Passes side p w (buffers n)))
            ∙ visit-other mark Passes side p w (buffers n)),
      )
    ]

no_call : (k : Call) (b : ℕ) (x : Side) → ((visit : Visit) → k ≡ At b x visit → ⊥) → IsHere k b x → ⊥
no_call k b x not here = not here.visit here.call

pub queue-after : {Parcel : Type 0} (mark : Parcel → Bool) (k : Call) (p : ℕ) (w : Went Parcel) (buffers : ℕ → Buffer Parcel) (b : ℕ) (x : Side)
    → QueueAfter mark k p w buffers b x
queue-after mark Alone p w buffers b x = inr (no_call Alone b x (λ visit e. cc), refl)
queue-after mark Asks p w buffers b x = inr (no_call Asks b x (λ visit e. cc), refl)
queue-after mark Gives p w buffers b x = inr (no_call Gives b x (λ visit e. cc), refl)
queue-after mark (At n side visit) p w buffers b x =
    elim (eqb_tells b n) as (λ _. QueueAfter mark (At n side visit) p w buffers b x) [
      | inl same ↦ subst (λ b. QueueAfter mark (At n side visit) p w buffers b x) (sym same.1) (queue-here mark p w buffers n side x visit)
      | inr differ ↦ inr (
        (λ (here : IsHere (At n side visit) b x). differ.1 (sym (at-number n b side x visit here.visit here.call))),
        ap (λ (buffer : Buffer _). queue buffer.sides x) (set-other buffers n (after_visit mark visit side p w (buffers n)) b differ.1),
      )
    ]

-- ---- who is delayed
pub record IsDelayedHere {Parcel : Type 0} (w : Went Parcel) (p q : ℕ) : Type 0 where
  pub delayed : w ≡ Delayed
  pub same : p ≡ q

held-delayed : {Parcel : Type 0} (w : Went Parcel) (p q : ℕ) (held : Option ℕ) → OwnQueue w p held → held ≡ Some q → IsDelayedHere w p q
held-delayed Delayed p q held own e = record { delayed = refl; same = some-same p q (sym own ∙ e) }
held-delayed Told p q held own e = absurd cc
held-delayed Done p q held own e = absurd cc
held-delayed (Moved parcel) p q held own e = absurd cc

pub delayed-is : {Parcel : Type 0} (w : Went Parcel) → is_delayed w ≡ true → w ≡ Delayed
delayed-is Delayed e = refl
delayed-is Told e = absurd cc
delayed-is Done e = absurd cc
delayed-is (Moved parcel) e = absurd cc

module _ {Devices Action Entry Parcel : Type 0} {network : Network Devices Action Entry Parcel} (laws : IsLawful network) (s : State Devices Entry Parcel)
    (event : Event Entry)
    (follows : (q : ℕ) → Follows network q (s.histories q)) (stand : QueuesStand network s) (enabled : IsEnabled network s event) where
  abbrev p : ℕ
  p = event.process

  abbrev new : State Devices Entry Parcel
  new = happens network s event

  abbrev c : Call
  c = call_of network event.process event.entry

  abbrev w : Went Parcel
  w = network.went event.entry

  own-call : (k : Call) → CallsNext network p (s.histories p) k → c ≡ k
  own-call k calls-next = same-call p (s.histories p) c k (calls laws s event follows enabled c refl) calls-next

  -- ---- what each process does next
  pub calls-other : (q : ℕ) → (q ≡ p → ⊥) → (k : Call) → CallsNext network q (s.histories q) k → CallsNext network q (new.histories q) k
  calls-other q differ k is = subst (λ h. CallsNext network q h k) (sym (set-other s.histories p (event.entry ∷ s.histories p) q differ)) is

  pub calls-before : (q : ℕ) → (q ≡ p → ⊥) → (k : Call) → CallsNext network q (new.histories q) k → CallsNext network q (s.histories q) k
  calls-before q differ k is = subst (λ h. CallsNext network q h k) (set-other s.histories p (event.entry ∷ s.histories p) q differ) is

  -- a call that waits is made again
  again : w ≡ Delayed → network.next p (new.histories p) ≡ Some (network.action event.entry)
  again delayed = ap (network.next p) (set-same s.histories p (event.entry ∷ s.histories p)) ∙ laws.again p (s.histories p) event.entry delayed enabled.next

  pub calls-again : w ≡ Delayed → (k : Call) → c ≡ k → CallsNext network p (new.histories p) k
  calls-again delayed k e = record { action = network.action event.entry; next = again delayed; call = e }

  pub calls-same : w ≡ Delayed → (k : Call) → CallsNext network p (new.histories p) k → c ≡ k
  calls-same delayed k is = ap (network.call p) (some-same (network.action event.entry) is.action (sym (again delayed) ∙ is.next)) ∙ is.call

  pub waits-own : w ≡ Delayed → waits (acts network p (new.histories p)) ≡ true
  waits-own delayed = ap waits (acts-own laws s event follows enabled) ∙ ap is_delayed delayed

  pub own-delayed : waits (acts network p (new.histories p)) ≡ true → w ≡ Delayed
  own-delayed waits_now = delayed-is w (sym (ap waits (acts-own laws s event follows enabled)) ∙ waits_now)

  -- ---- who stands in a queue
  stands-still : (b : ℕ) (x : Side) (q : ℕ) → (q ≡ p → ⊥) → StandsInQueue network s b x q → StandsInQueue network new b x q
  stands-still b x q differ is = record {
    visit = is.visit;
    can_wait = is.can_wait;
    seated = is.seated;
    waits_now = ap waits (acts-other laws s event follows enabled q differ) ∙ is.waits_now;
    calls = calls-other q differ (At b x is.visit) is.calls;
  }

  keeps-queued : (b : ℕ) (x : Side) (q : ℕ) → queue (new.buffers b).sides x ≡ Some q → StandsInQueue network new b x q
  keeps-queued b x q held =
      elim (queue-after network.mark c p w s.buffers b x) as (λ _. StandsInQueue network new b x q) [
        | inl (here, own) ↦
            let d = held-delayed w p q (queue (new.buffers b).sides x) own held in
            subst (StandsInQueue network new b x) d.same record {
              visit = here.visit;
              can_wait = here.can_wait;
              seated = is-seated laws s event follows enabled b x here.visit here.call;
              waits_now = waits-own d.delayed;
              calls = calls-again d.delayed (At b x here.visit) here.call;
            }
        | inr (differ, same) ↦
            let old = stand.queued b x q (sym same ∙ held) in
            stands-still b x q (λ e. differ record {
              visit = old.visit;
              can_wait = old.can_wait;
              call = own-call (At b x old.visit) (subst (λ q. CallsNext network q (s.histories q) (At b x old.visit)) e old.calls);
            }) old
      ]

  -- ---- and who is delayed stands in one
  fits-delayed : (k : Call) → c ≡ k → w ≡ Delayed → Fits network.mark s k Delayed
  fits-delayed k e delayed = subst (λ w. Fits network.mark s k w) delayed (subst (λ k. Fits network.mark s k w) e enabled.fits)

  waits-here : (b : ℕ) (x : Side) (visit : Visit) → Fits network.mark s (At b x visit) Delayed → CanWait visit
  waits-here b x Awaits fits = tt
  waits-here b x Passes fits = tt
  waits-here b x Moves fits = fits
  waits-here b x Stops fits = absurd cc

  own-queued : (b : ℕ) (x : Side) (visit : Visit) → w ≡ Delayed → c ≡ At b x visit → queue (new.buffers b).sides x ≡ Some p
  own-queued b x visit delayed e =
      elim (queue-after network.mark c p w s.buffers b x) as (λ _. queue (new.buffers b).sides x ≡ Some p) [
        | inl (here, own) ↦ subst (λ w. OwnQueue w p (queue (new.buffers b).sides x)) delayed own
        | inr (differ, same) ↦ absurd (differ record { visit = visit; can_wait = waits-here b x visit (fits-delayed (At b x visit) e delayed); call = e })
      ]

  keeps-others : (b : ℕ) (x : Side) (visit : Visit) (q : ℕ) → (q ≡ p → ⊥) → queue (s.buffers b).sides x ≡ Some q → queue (new.buffers b).sides x ≡ Some q
  keeps-others b x visit q differ before =
      elim (queue-after network.mark c p w s.buffers b x) as (λ _. queue (new.buffers b).sides x ≡ Some q) [
        | inl (here, own) ↦ absurd (differ (sym (stand.queued b x q before).seated ∙ is-seated laws s event follows enabled b x here.visit here.call))
        | inr (elsewhere, same) ↦ same ∙ before
      ]

  keeps-delayed : (b : ℕ) (x : Side) (visit : Visit) (q : ℕ) → waits (acts network q (new.histories q)) ≡ true
      → CallsNext network q (new.histories q) (At b x visit) → queue (new.buffers b).sides x ≡ Some q
  keeps-delayed b x visit q waits_now is =
      elim (eqb_tells q p) as (λ _. queue (new.buffers b).sides x ≡ Some q) [
        | inl own ↦
            let G : ℕ → Type 0 = λ q. waits (acts network q (new.histories q)) ≡ true → CallsNext network q (new.histories q) (At b x visit)
            → queue (new.buffers b).sides x ≡ Some q in
            subst G (sym own.1) (λ waits_now is. own-queued b x visit (own-delayed waits_now)
            (calls-same (own-delayed waits_now) (At b x visit) is)) waits_now is
        | inr differ ↦ keeps-others b x visit q differ.1
            (stand.delayed b x visit q (sym (ap waits (acts-other laws s event follows enabled q differ.1)) ∙ waits_now)
            (calls-before q differ.1 (At b x visit) is))
      ]

  pub keeps-queues : QueuesStand network new
  keeps-queues = record { queued = keeps-queued; delayed = keeps-delayed }
