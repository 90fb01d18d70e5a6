-- Each enabled event keeps what holds of the buffers.
use Rattle.std.proofs.Common.{◌≡◌, ◌⊎◌, inl, inr, ℕ, Bool, true, false, ◌||◌, [], ◌++◌, refl, sym, ◌∙◌, ap, subst}
use Rattle.std.proofs.lemmas.Bool.Decides.{eqb_tells}
use Rattle.std.proofs.lemmas.List.{append-nil}
use Rattle.solo_base.specs.declared.outcome.Side.{Side}
use Rattle.solo_base.specs.declared.outcome.Side.TheVariants.{Sender, Receiver}
use Rattle.queue_var.specs.Sides.{is_among, same_side}
use Rattle.queue_var.specs.HandsOver.{is_one_of}
use Rattle.queue_var.proofs.Waits.{one_of-more}
use Rattle.network_law.specs.Acts.{Visit, Awaits, Passes, Moves, Stops, Call, Alone, At, Asks, Gives, Went, moved_by, stops_at, made_stop, found_ready}
use Rattle.network_law.specs.Buffer.{Buffer, after_visit}
use Rattle.network_law.specs.Network.{Network, State, Event, IsEnabled, Follows, MayCall, Fits, call_of, buffers_after, happens, acts}
use Rattle.network_law.specs.Processes.{IsLawful}
use Rattle.network_law.specs.Kept.{StandsFor, IsReady, acts_at, passed, BuffersStand}
use Rattle.network_law.proofs.Numbers.{set-same, set-other}
use Rattle.network_law.proofs.Visits.{visit-stands}
use Rattle.network_law.proofs.Lasts.{stop_of, visit-stops}
use Rattle.network_law.proofs.Seats.{AreSame, same-own, moved-own, elsewhere-at, calls, is-seated, passed-after, stop-after}

-- ---- what stands at a buffer that isn't called
pub unlike : (b c : ℕ) (x of : Side) → (b ≡ c → ⊥) → AreSame b x c of → ⊥
unlike b c x of differ same = differ same.number

or-swap : (a b : Bool) → (a || b) ≡ (b || a)
or-swap true true = refl
or-swap true false = refl
or-swap false true = refl
or-swap false false = refl

pub or-tells : (a b : Bool) → (a || b) ≡ true → (a ≡ true) ⊎ (b ≡ true)
or-tells true b e = inl refl
or-tells false b e = inr e

module _ {Devices Action Entry Parcel : Type 0} {network : Network Devices Action Entry Parcel} (laws : IsLawful network) (s : State Devices Entry Parcel)
    (event : Event Entry)
    (follows : (q : ℕ) → Follows network q (s.histories q)) (stand : BuffersStand network s) (enabled : IsEnabled network s event) where
  abbrev p : ℕ
  p = event.process

  abbrev new : State Devices Entry Parcel
  new = happens network s event

  abbrev c : Call
  c = call_of network event.process event.entry

  abbrev w : Went Parcel
  w = network.went event.entry

  -- ---- the side that calls has not stopped
  pub not-yet : (b : ℕ) (side : Side) (visit : Visit) → c ≡ At b side visit → is_among side (s.buffers b).sides.stops ≡ false
  not-yet b side visit e =
      let seated = is-seated laws s event follows enabled b side visit e in
      (stand.hand_over b).stopped_first.each side ∙ stand.stops b side
      ∙ subst (λ q. made_stop b side (acts network q (s.histories q)) ≡ false) (sym seated)
      (laws.unstopped p (s.histories p) b side visit enabled.one (follows p) (calls laws s event follows enabled (At b side visit) e))

  -- what it moves was awaited
  moves-ready : (b : ℕ) (side : Side) (visit : Visit) → c ≡ At b side visit → visit ≡ Moves → IsReady (s.buffers b) side
  moves-ready b side visit e moves =
      let at : c ≡ At b side Moves = e ∙ ap (At b side) moves in
      let seated = is-seated laws s event follows enabled b side Moves at in
      stand.ready b side (subst (λ q. found_ready b side (acts network q (s.histories q)) ≡ true) (sym seated)
      (laws.found p (s.histories p) b side enabled.one (follows p) (calls laws s event follows enabled (At b side Moves) at)))

  pub may-at : (k : Call) → c ≡ k → MayCall s p k
  may-at k e = subst (MayCall s p) e enabled.may

  pub fits-at : (k : Call) → c ≡ k → Fits network.mark s k w
  fits-at k e = subst (λ k. Fits network.mark s k w) e enabled.fits

  -- ---- handing over
  abbrev StandsAt : Call → ℕ → Type 0
  StandsAt k b = StandsFor network.mark (passed network s b Sender ++ moved_by b Sender k w) (passed network s b Receiver ++ moved_by b Receiver k w)
      (buffers_after network.mark k p w s.buffers b)

  untouched : (b : ℕ) → StandsFor network.mark (passed network s b Sender ++ []) (passed network s b Receiver ++ []) (s.buffers b)
  untouched b = rw (append-nil (passed network s b Sender), append-nil (passed network s b Receiver)) (stand.hand_over b)

  stands-own : (b : ℕ) (side : Side) (visit : Visit) → c ≡ At b side visit → StandsAt (At b side visit) b
  stands-own b side visit e =
      rw (moved-own b Sender side visit w, moved-own b Receiver side visit w, set-same s.buffers b (after_visit network.mark visit side p w (s.buffers b)))
      (visit-stands network.mark (s.buffers b) p (passed network s b Sender) (passed network s b Receiver)
      (stand.hand_over b) side visit w (not-yet b side visit e) (moves-ready b side visit e) (may-at (At b side visit) e) (fits-at (At b side visit) e))

  stands-other : (b n : ℕ) (side : Side) (visit : Visit) → (b ≡ n → ⊥) → StandsAt (At n side visit) b
  stands-other b n side visit differ =
      rw (
        (elsewhere-at b n Sender side visit w (unlike b n Sender side differ)).moved,
        (elsewhere-at b n Receiver side visit w (unlike b n Receiver side differ)).moved,
        set-other s.buffers n (after_visit network.mark visit side p w (s.buffers n)) b differ,
      )
      (untouched b)

  stands-by : (k : Call) (b : ℕ) → c ≡ k → StandsAt k b
  stands-by Alone b e = untouched b
  stands-by Asks b e = untouched b
  stands-by Gives b e = untouched b
  stands-by (At n side visit) b e =
      elim (eqb_tells b n) as (λ _. StandsAt (At n side visit) b) [
        | inl own ↦ subst (λ m. c ≡ At m side visit → StandsAt (At m side visit) b) own.1 (stands-own b side visit) e
        | inr differ ↦ stands-other b n side visit differ.1
      ]

  pub keeps-hand_over : (b : ℕ) → StandsFor network.mark (passed network new b Sender) (passed network new b Receiver) (new.buffers b)
  keeps-hand_over b = rw (passed-after laws s event follows enabled b Sender, passed-after laws s event follows enabled b Receiver) (stands-by c b refl)

  -- ---- the stops
  stops-own : (b : ℕ) (side : Side) (visit : Visit) (x : Side) → is_one_of x ((s.buffers b).stops ++ stop_of visit side)
      ≡ (stops_at b x (At b side visit) || is_one_of x (s.buffers b).stops)
  stops-own b side Stops x = one_of-more (s.buffers b).stops side x ∙ or-swap (is_one_of x (s.buffers b).stops) (same_side x side)
      ∙ ap (λ t. t || is_one_of x (s.buffers b).stops) (sym (same-own b x side))
  stops-own b side Awaits x = ap (is_one_of x) (append-nil (s.buffers b).stops)
  stops-own b side Passes x = ap (is_one_of x) (append-nil (s.buffers b).stops)
  stops-own b side Moves x = ap (is_one_of x) (append-nil (s.buffers b).stops)

  abbrev StopsAt : Call → ℕ → Side → Type 0
  StopsAt k b x = is_one_of x (buffers_after network.mark k p w s.buffers b).stops ≡ (stops_at b x k || is_one_of x (s.buffers b).stops)

  stops-by : (k : Call) (b : ℕ) (x : Side) → StopsAt k b x
  stops-by Alone b x = refl
  stops-by Asks b x = refl
  stops-by Gives b x = refl
  stops-by (At n side visit) b x =
      elim (eqb_tells b n) as (λ _. StopsAt (At n side visit) b x) [
        | inl own ↦ subst (λ m. StopsAt (At m side visit) b x) own.1
            (ap (λ (buffer : Buffer Parcel). is_one_of x buffer.stops) (set-same s.buffers b (after_visit network.mark visit side p w (s.buffers b)))
            ∙ ap (is_one_of x) (visit-stops network.mark visit side p w (s.buffers b)) ∙ stops-own b side visit x)
        | inr differ ↦ ap (λ (buffer : Buffer Parcel). is_one_of x buffer.stops)
            (set-other s.buffers n (after_visit network.mark visit side p w (s.buffers n)) b differ.1)
            ∙ ap (λ t. t || is_one_of x (s.buffers b).stops) (sym (elsewhere-at b n x side visit w (unlike b n x side differ.1)).stops)
      ]

  pub keeps-stops : (b : ℕ) (x : Side) → is_one_of x (new.buffers b).stops ≡ made_stop b x (acts_at network new b x)
  keeps-stops b x = stops-by c b x ∙ ap (λ t. stops_at b x c || t) (stand.stops b x) ∙ sym (stop-after laws s event follows enabled b x)
