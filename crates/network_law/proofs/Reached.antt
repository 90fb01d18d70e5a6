-- What every event keeps holds in the opening state, and so in every reached state.
use Rattle.std.proofs.Common.{◌≡◌, ◌⊎◌, inl, inr, ℕ, Bool, true, false, List, [], ◌∷◌, ◌++◌, drop, Some, refl, sym, ◌∙◌, ap, subst, option_map, arith}
use Rattle.std.proofs.lemmas.Bool.Decides.{eqb_tells}
use Rattle.solo_base.specs.declared.outcome.Side.{Side}
use Rattle.solo_base.specs.declared.outcome.Side.TheVariants.{Sender, Receiver}
use Rattle.queue_var.specs.Sides.{queue, nobody}
use Rattle.network_law.specs.Acts.{Visit, Awaits, Passes, Moves, Stops, Call, Alone, At, Asks, Gives, Went, Delayed, Told, Done, Moved}
use Rattle.network_law.specs.Buffer.{Buffer, fresh, moved_through, after_visit}
use Rattle.network_run.specs.Law.{AreEnabled, IsReached, run}
use Rattle.network_law.specs.Network.{Network, State, Event, IsOne, IsEnabled, Follows, call_of, buffers_after, happens, inside_at, opening}
use Rattle.network_law.specs.Processes.{IsLawful}
use Rattle.network_law.specs.Kept.{StandsFor, IsTold, Stands}
use Rattle.network_law.specs.Stepping.{Openings, law_of}
use Rattle.network_law.proofs.Numbers.{set-same, set-other, set-related}
use Rattle.network_law.proofs.Lasts.{same-capacity}
use Rattle.network_law.proofs.KeepsReady.{keeps-buffers}
use Rattle.network_law.proofs.KeepsQueues.{keeps-queues}
use Rattle.network_law.proofs.KeepsDesk.{keeps-desk}

-- ---- the sizes, and what is told
through-told : {Parcel : Type 0} (mark : Parcel → Bool) (side : Side) (parcel : Parcel) (buffer : Buffer Parcel) → IsTold buffer
    → IsTold (moved_through mark side parcel buffer)
through-told mark Sender parcel buffer told = (told.0 ++ parcel ∷ [], ap (option_map (λ inside. inside ++ parcel ∷ [])) told.1)
through-told mark Receiver parcel buffer told = (drop 1 told.0, ap (option_map (drop 1)) told.1)

visit-told : {Parcel : Type 0} (mark : Parcel → Bool) (visit : Visit) (side : Side) (p : ℕ) (went : Went Parcel) (buffer : Buffer Parcel) → IsTold buffer
    → IsTold (after_visit mark visit side p went buffer)
visit-told mark Awaits side p Delayed buffer told = told
visit-told mark Awaits side p Told buffer told = told
visit-told mark Awaits side p Done buffer told = told
visit-told mark Awaits side p (Moved parcel) buffer told = through-told mark side parcel _ (told.0, told.1)
visit-told mark Passes side p Delayed buffer told = told
visit-told mark Passes side p Told buffer told = told
visit-told mark Passes side p Done buffer told = told
visit-told mark Passes side p (Moved parcel) buffer told = through-told mark side parcel _ (told.0, told.1)
visit-told mark Moves side p Delayed buffer told = told
visit-told mark Moves side p Told buffer told = told
visit-told mark Moves side p Done buffer told = told
visit-told mark Moves side p (Moved parcel) buffer told = through-told mark side parcel buffer told
visit-told mark Stops side p went buffer told = told

call-told : {Parcel : Type 0} (mark : Parcel → Bool) (c : Call) (p : ℕ) (went : Went Parcel) (buffers : ℕ → Buffer Parcel) (b : ℕ) → IsTold (buffers b)
    → IsTold (buffers_after mark c p went buffers b)
call-told mark Alone p went buffers b told = told
call-told mark Asks p went buffers b told = told
call-told mark Gives p went buffers b told = told
call-told mark (At n side visit) p went buffers b told =
    set-related (λ old new. IsTold old → IsTold new) (λ buffer told. told) buffers n _ b (visit-told mark visit side p went (buffers n)) told

call-capacity : {Parcel : Type 0} (mark : Parcel → Bool) (c : Call) (p : ℕ) (went : Went Parcel) (buffers : ℕ → Buffer Parcel) (b : ℕ)
    → (buffers_after mark c p went buffers b).capacity ≡ (buffers b).capacity
call-capacity mark Alone p went buffers b = refl
call-capacity mark Asks p went buffers b = refl
call-capacity mark Gives p went buffers b = refl
call-capacity mark (At n side visit) p went buffers b =
    set-related (λ (old new : Buffer _). new.capacity ≡ old.capacity) (λ buffer. refl) buffers n _ b (same-capacity mark visit side p went (buffers n))

-- ---- one event
module _ {Devices Action Entry Parcel : Type 0} {network : Network Devices Action Entry Parcel} (laws : IsLawful network) (start s : State Devices Entry Parcel)
    (event : Event Entry)
    (st : Stands network start s) (enabled : IsEnabled network s event) where
  keeps-follows : (q : ℕ) → Follows network q ((happens network s event).histories q)
  keeps-follows q =
      elim (eqb_tells q event.process) as (λ _. Follows network q ((happens network s event).histories q)) [
        | inl own ↦ subst (λ q. Follows network q ((happens network s event).histories q)) (sym own.1)
            (subst (Follows network event.process) (sym (set-same s.histories event.process (event.entry ∷ s.histories event.process)))
            (enabled.next, enabled.suits, st.follows event.process))
        | inr differ ↦ subst (Follows network q) (sym (set-other s.histories event.process (event.entry ∷ s.histories event.process) q differ.1)) (st.follows q)
      ]

  keeps-others : (q : ℕ) → IsOne network q ⊎ ((happens network s event).histories q ≡ [])
  keeps-others q =
      elim (eqb_tells q event.process) as (λ _. IsOne network q ⊎ ((happens network s event).histories q ≡ [])) [
        | inl own ↦ inl (subst (IsOne network) (sym own.1) enabled.one)
        | inr differ ↦ subst (λ h. IsOne network q ⊎ (h ≡ [])) (sym (set-other s.histories event.process (event.entry ∷ s.histories event.process) q differ.1))
            (st.others q)
      ]

  pub stands-event : Stands network start (happens network s event)
  stands-event = record {
    follows = keeps-follows;
    buffers = keeps-buffers laws s event st.follows st.buffers enabled;
    queues = keeps-queues laws s event st.follows st.queues enabled;
    desk = keeps-desk laws s event st.follows st.queues st.desk enabled;
    capacity = λ b. call-capacity network.mark (call_of network event.process event.entry) event.process (network.went event.entry) s.buffers b ∙ st.capacity b;
    told = λ b told. call-told network.mark (call_of network event.process event.entry) event.process (network.went event.entry) s.buffers b (st.told b told);
    others = keeps-others;
  }

pub stands-run : {Devices Action Entry Parcel : Type 0} {network : Network Devices Action Entry Parcel} (laws : IsLawful network)
    (openings : Openings Devices Entry) (start s : State Devices Entry Parcel) (events : List (Event Entry)) → AreEnabled (law_of network openings) s events
    → Stands network start s → Stands network start (run (law_of network openings) s events)
stands-run laws openings start s [] are st = st
stands-run {network = network} laws openings start s (event ∷ events) are st = stands-run laws openings start (happens network s event) events are.1
    (stands-event laws start s event st are.0)

-- ---- the opening
nobody-waits : (side : Side) (p : ℕ) → queue nobody side ≡ Some p → ⊥
nobody-waits Sender p e = cc
nobody-waits Receiver p e = cc

inside-empty : {Parcel : Type 0} (told : Bool) (all : List Parcel) → inside_at told ≡ Some all → all ≡ []
inside-empty true all e = cc
inside-empty false all e = absurd cc

fresh-stands : {Parcel : Type 0} (mark : Parcel → Bool) (capacity : ℕ) (told : Bool) → StandsFor mark [] [] (fresh capacity (inside_at told))
fresh-stands mark capacity told = record {
  marks = record { in_order = refl; within = omega arith; waits = record { cause = λ side p e. absurd (nobody-waits side p e); named = λ side e. cc } };
  parcels = inside-empty told;
  stopped_first = record { first = refl; each = λ side. refl };
}

pub opening-stands : {Devices Action Entry Parcel : Type 0} (network : Network Devices Action Entry Parcel) (devices : Devices) (sizes : ℕ → ℕ)
    (told : ℕ → Bool) → Stands network (opening devices sizes told) (opening devices sizes told)
opening-stands network devices sizes told = record {
  follows = λ p. tt;
  buffers = record {
    hand_over = λ b. fresh-stands network.mark (sizes b) (told b);
    stops = λ b side. refl;
    ready = λ b side e. absurd cc;
    told = λ b side e. absurd cc;
  };
  queues = record { queued = λ b side q e. absurd (nobody-waits side q e); delayed = λ b side visit q e. absurd cc };
  desk = record {
    one_holder = record { in_order = refl; one_holder = refl; idle = λ e. refl; each_once = tt; handed_to_holder = λ p e. absurd cc };
    waiting = tt;
    handed = λ q e. absurd cc;
    delayed = λ q e is. absurd cc;
    holder = λ q e. absurd cc;
    holds_alone = λ q e. absurd cc;
  };
  capacity = λ b. refl;
  told = λ b is. is;
  others = λ q. inr refl;
}

-- Every reached state has all that every event keeps.
pub reached-stands : {Devices Action Entry Parcel : Type 0} {network : Network Devices Action Entry Parcel} → IsLawful network
    → (openings : Openings Devices Entry) (o : openings.Opening) (s : State Devices Entry Parcel)
    → IsReached (law_of network openings) ((law_of network openings).opened o) s → Stands network ((law_of network openings).opened o) s
reached-stands {network = network} laws openings o s reached =
    let start = (law_of network openings).opened o in
    subst (Stands network start) reached.leads (stands-run laws openings start start reached.events reached.enabled
    (opening-stands network (openings.devices o) (openings.sizes o) (openings.told o)))
