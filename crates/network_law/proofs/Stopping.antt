-- A buffer is newly stopped by a stop alone.
use Rattle.std.proofs.Common.{◌≡◌, ◌⊎◌, inl, inr, ℕ, Bool, Some, refl, sym, ◌∙◌, ap, subst}
use Rattle.std.proofs.lemmas.Bool.Decides.{eqb_tells}
use Rattle.std.proofs.lemmas.List.{append-nil}
use Rattle.solo_base.specs.declared.outcome.Side.{Side}
use Rattle.queue_var.specs.Sides.{stopped_by}
use Rattle.queue_var.specs.HandsOver.{earliest}
use Rattle.network_law.specs.Acts.{Visit, Awaits, Passes, Moves, Stops, Call, Alone, At, Asks, Gives, Went}
use Rattle.network_law.specs.Buffer.{Buffer, after_visit}
use Rattle.network_law.specs.Network.{Network, State, Event, IsEnabled, Follows, call_of, buffers_after, happens}
use Rattle.network_law.specs.Processes.{IsLawful}
use Rattle.network_law.specs.Kept.{BuffersStand}
use Rattle.network_law.proofs.Numbers.{set-same, set-other}
use Rattle.network_law.proofs.Lasts.{visit-stops}
use Rattle.network_law.proofs.KeepsBuffers.{keeps-hand_over}

abbrev pub StopsHere : Call → ℕ → Type 0
StopsHere k b = (side : Side) × (k ≡ At b side Stops)

abbrev pub SameStops : {Parcel : Type 0} → Buffer Parcel → Buffer Parcel → Type 0
SameStops old new = new.stops ≡ old.stops

module _ {Parcel : Type 0} (mark : Parcel → Bool) (p : ℕ) (w : Went Parcel) (buffers : ℕ → Buffer Parcel) where
  stops-own : (n : ℕ) (side : Side) (visit : Visit)
      → SameStops (buffers n) (after_visit mark visit side p w (buffers n)) ⊎ StopsHere (At n side visit) n
  stops-own n side Stops = inr (side, refl)
  stops-own n side Awaits = inl (visit-stops mark Awaits side p w (buffers n) ∙ append-nil (buffers n).stops)
  stops-own n side Passes = inl (visit-stops mark Passes side p w (buffers n) ∙ append-nil (buffers n).stops)
  stops-own n side Moves = inl (visit-stops mark Moves side p w (buffers n) ∙ append-nil (buffers n).stops)

  pub stops-tell : (k : Call) (b : ℕ) → SameStops (buffers b) (buffers_after mark k p w buffers b) ⊎ StopsHere k b
  stops-tell Alone b = inl refl
  stops-tell Asks b = inl refl
  stops-tell Gives b = inl refl
  stops-tell (At n side visit) b =
      let After : ℕ → Type 0 = λ b. SameStops (buffers b) (buffers_after mark (At n side visit) p w buffers b) ⊎ StopsHere (At n side visit) b in
      elim (eqb_tells b n) as (λ _. After b) [
        | inl own ↦ subst After (sym own.1) (elim (stops-own n side visit) as (λ _. After n) [
          | inl same ↦ inl (ap (λ (buffer : Buffer Parcel). buffer.stops) (set-same buffers n (after_visit mark visit side p w (buffers n))) ∙ same)
          | inr here ↦ inr here
        ])
        | inr differ ↦ inl (ap (λ (buffer : Buffer Parcel). buffer.stops) (set-other buffers n (after_visit mark visit side p w (buffers n)) b differ.1))
      ]

module _ {Devices Action Entry Parcel : Type 0} {network : Network Devices Action Entry Parcel} (laws : IsLawful network)
    (s : State Devices Entry Parcel) (event : Event Entry)
    (follows : (q : ℕ) → Follows network q (s.histories q)) (stand : BuffersStand network s) (enabled : IsEnabled network s event) where
  -- Where a buffer is stopped after an event it was so before, or the event stops it.
  pub stopped-before : (b : ℕ) (by : Side) → stopped_by ((happens network s event).buffers b).sides ≡ Some by
      → (stopped_by (s.buffers b).sides ≡ Some by) ⊎ StopsHere (call_of network event.process event.entry) b
  stopped-before b by e =
      let c = call_of network event.process event.entry in
      elim (stops-tell network.mark event.process (network.went event.entry) s.buffers c b) as
      (λ _. (stopped_by (s.buffers b).sides ≡ Some by) ⊎ StopsHere c b) [
        | inl same ↦ inl ((stand.hand_over b).stopped_first.first ∙ ap earliest (sym same)
            ∙ sym (keeps-hand_over laws s event follows stand enabled b).stopped_first.first ∙ e)
        | inr here ↦ inr here
      ]
