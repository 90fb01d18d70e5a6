-- What was awaited stays there, and who was told of a stop was told rightly, after each enabled event.
use Rattle.std.proofs.Common.{◌≡◌, ◌⊎◌, inl, inr, ℕ, Bool, true, List, [], ◌++◌, Some, refl, sym, ◌∙◌, ap, subst}
use Rattle.std.proofs.lemmas.Bool.Decides.{eqb_tells}
use Rattle.std.proofs.lemmas.List.{append-nil}
use Rattle.solo_base.specs.declared.outcome.Side.{Side}
use Rattle.solo_base.specs.declared.outcome.Side.TheVariants.{Sender, Receiver}
use Rattle.queue_var.specs.Sides.{stopped_by, other}
use Rattle.network_law.specs.Acts.{Visit, Awaits, Passes, Moves, Stops, Call, Alone, At, Asks, Gives, Went, Delayed, Told, Done, Moved, is_same, told_at, was_told, found_by, found_ready}
use Rattle.network_law.specs.Buffer.{Buffer, let_in, after_visit, Found, Ready, Lacking, Closed, found, awaited, PassFits}
use Rattle.network_law.specs.Network.{Network, State, Event, IsEnabled, Follows, Fits, call_of, buffers_after, happens}
use Rattle.network_law.specs.Processes.{IsLawful}
use Rattle.network_law.specs.Kept.{IsReady, WasToldRightly, acts_at, BuffersStand}
use Rattle.network_law.proofs.Numbers.{set-same, set-other, set-related}
use Rattle.network_law.proofs.Visits.{not_first, ready-is, closed-is}
use Rattle.network_law.proofs.Lasts.{stop_of, visit-stops, first-stays, other-ready, stays-empty}
use Rattle.network_law.proofs.Seats.{same-tells, is-seated, at-own, acts-other, told-after}
use Rattle.network_law.proofs.KeepsBuffers.{or-tells, not-yet, fits-at, keeps-hand_over, keeps-stops}

-- ---- what an answer tells of what was found
done-ready : {Parcel : Type 0} (went : Went Parcel) (finds : Found) → went ≡ Done → went ≡ awaited finds → finds ≡ Ready
done-ready went Ready is e = refl
done-ready went Lacking is e = absurd cc
done-ready went Closed is e = absurd cc

told-closed : {Parcel : Type 0} (went : Went Parcel) (finds : Found) → went ≡ Told → went ≡ awaited finds → finds ≡ Closed
told-closed went Ready is e = absurd cc
told-closed went Lacking is e = absurd cc
told-closed went Closed is e = refl

pass-closed : {Parcel : Type 0} (mark : Parcel → Bool) (side : Side) (buffer : Buffer Parcel) (finds : Found) → PassFits mark side buffer finds Told
    → finds ≡ Closed
pass-closed mark side buffer Ready fits = absurd fits
pass-closed mark side buffer Lacking fits = absurd fits
pass-closed mark side buffer Closed fits = refl

-- who waits changes nothing inside
delayed-ready : {Parcel : Type 0} (mark : Parcel → Bool) (visit : Visit) (side : Side) (p : ℕ) (x : Side) (buffer : Buffer Parcel) → IsReady buffer x
    → IsReady (after_visit mark visit side p Delayed buffer) x
delayed-ready mark Awaits side p Sender buffer ready = ready
delayed-ready mark Awaits side p Receiver buffer ready = ready
delayed-ready mark Passes side p Sender buffer ready = ready
delayed-ready mark Passes side p Receiver buffer ready = ready
delayed-ready mark Moves side p x buffer ready = ready
delayed-ready mark Stops side p Sender buffer ready = ready
delayed-ready mark Stops side p Receiver buffer ready = ready

entered-ready : {Parcel : Type 0} (buffer : Buffer Parcel) (side x : Side) → IsReady buffer x → IsReady (let_in side buffer) x
entered-ready buffer side Sender ready = ready
entered-ready buffer side Receiver ready = ready

pub other-side : (x side : Side) → (x ≡ side → ⊥) → other side ≡ x
other-side Sender Sender differ = absurd (differ refl)
other-side Receiver Receiver differ = absurd (differ refl)
other-side Sender Receiver differ = refl
other-side Receiver Sender differ = refl

pub side-tells : (x side : Side) → (x ≡ side) ⊎ (x ≡ side → ⊥)
side-tells Sender Sender = inl refl
side-tells Receiver Receiver = inl refl
side-tells Sender Receiver = inr (λ e. cc)
side-tells Receiver Sender = inr (λ e. cc)

module _ {Devices Action Entry Parcel : Type 0} {network : Network Devices Action Entry Parcel} (laws : IsLawful network) (s : State Devices Entry Parcel)
    (event : Event Entry)
    (follows : (q : ℕ) → Follows network q (s.histories q)) (stand : BuffersStand network s) (enabled : IsEnabled network s event) where
  abbrev p : ℕ
  p = event.process

  abbrev new : State Devices Entry Parcel
  new = happens network s event

  abbrev c : Call
  c = call_of network event.process event.entry

  abbrev w : Went Parcel
  w = network.went event.entry

  -- ---- what the process itself awaited
  found-ready : (n b : ℕ) (side x : Side) → c ≡ At n side Awaits → w ≡ Done → is_same b x n side ≡ true
      → IsReady (buffers_after network.mark (At n side Awaits) p Done s.buffers b) x
  found-ready n b side x e done same =
      let are = same-tells b x n side same in
      let fits = fits-at laws s event follows stand enabled (At n side Awaits) e in
      let ready = ready-is (s.buffers n) side (done-ready w (found (s.buffers n) side) done fits) (stand.hand_over n).marks.within in
      subst (λ b. IsReady (buffers_after network.mark (At n side Awaits) p Done s.buffers b) x) (sym are.number)
      (subst (λ buffer. IsReady buffer x) (sym (set-same s.buffers n (let_in side (s.buffers n))))
      (subst (λ x. IsReady (let_in side (s.buffers n)) x) (sym are.side) (entered-ready (s.buffers n) side side ready)))

  abbrev OwnReady : ℕ → Side → Bool → Call → Went Parcel → Type 0
  OwnReady b x before k went = found_by b x before k went ≡ true → IsReady (buffers_after network.mark k p went s.buffers b) x

  at-ready : (b : ℕ) (x : Side) (before : Bool) (n : ℕ) (side : Side) (visit : Visit) (went : Went Parcel) → c ≡ At n side visit → w ≡ went
      → (before ≡ true → IsReady (s.buffers b) x) → OwnReady b x before (At n side visit) went
  at-ready b x before n side visit Delayed e is old found_it =
      set-related (λ old new. IsReady old x → IsReady new x) (λ buffer ready. ready) s.buffers n _ b (delayed-ready network.mark visit side p x (s.buffers n))
      (old found_it)
  at-ready b x before n side Awaits Done e is old found_it = found-ready n b side x e is found_it
  at-ready b x before n side Passes Done e is old found_it = absurd cc
  at-ready b x before n side Moves Done e is old found_it = absurd cc
  at-ready b x before n side Stops Done e is old found_it = absurd cc
  at-ready b x before n side Awaits Told e is old found_it = absurd cc
  at-ready b x before n side Passes Told e is old found_it = absurd cc
  at-ready b x before n side Moves Told e is old found_it = absurd cc
  at-ready b x before n side Stops Told e is old found_it = absurd cc
  at-ready b x before n side Awaits (Moved parcel) e is old found_it = absurd cc
  at-ready b x before n side Passes (Moved parcel) e is old found_it = absurd cc
  at-ready b x before n side Moves (Moved parcel) e is old found_it = absurd cc
  at-ready b x before n side Stops (Moved parcel) e is old found_it = absurd cc

  away-ready : (b : ℕ) (x : Side) (before : Bool) (k : Call) (went : Went Parcel) → (before ≡ true → IsReady (s.buffers b) x)
      → found_by b x before k went ≡ before → (found_by b x before k went ≡ true → IsReady (s.buffers b) x)
  away-ready b x before k went old same found_it = old (sym same ∙ found_it)

  own-ready : (b : ℕ) (x : Side) (before : Bool) (k : Call) (went : Went Parcel) → c ≡ k → w ≡ went → (before ≡ true → IsReady (s.buffers b) x)
      → OwnReady b x before k went
  own-ready b x before (At n side visit) went e is old = at-ready b x before n side visit went e is old
  own-ready b x before Alone Delayed e is old = old
  own-ready b x before Alone Told e is old = old
  own-ready b x before Alone Done e is old = old
  own-ready b x before Alone (Moved parcel) e is old = old
  own-ready b x before Asks Delayed e is old = old
  own-ready b x before Asks Told e is old = old
  own-ready b x before Asks Done e is old = old
  own-ready b x before Asks (Moved parcel) e is old = old
  own-ready b x before Gives Delayed e is old = old
  own-ready b x before Gives Told e is old = old
  own-ready b x before Gives Done e is old = old
  own-ready b x before Gives (Moved parcel) e is old = old

  -- ---- what another process awaited
  others-ready : (b : ℕ) (x : Side) (k : Call) → c ≡ k → (network.seat b x ≡ p → ⊥) → IsReady (s.buffers b) x
      → IsReady (buffers_after network.mark k p w s.buffers b) x
  others-ready b x Alone e differ ready = ready
  others-ready b x Asks e differ ready = ready
  others-ready b x Gives e differ ready = ready
  others-ready b x (At n side visit) e differ ready =
      elim (eqb_tells b n) as (λ _. IsReady (buffers_after network.mark (At n side visit) p w s.buffers b) x) [
        | inr elsewhere ↦ subst (λ buffer. IsReady buffer x) (sym (set-other s.buffers n
            (after_visit network.mark visit side p w (s.buffers n)) b elsewhere.1)) ready
        | inl own ↦
            let not_mine : x ≡ side → ⊥ = λ same. differ (ap (λ b. network.seat b x) own.1 ∙ ap (network.seat n) same
            ∙ is-seated laws s event follows enabled n side visit e) in
            let turned = other-side x side not_mine in
            let at_n = subst (λ b. IsReady (s.buffers b) x) own.1 ready in
            subst (λ b. IsReady (buffers_after network.mark (At n side visit) p w s.buffers b) x) (sym own.1)
            (subst (λ buffer. IsReady buffer x) (sym (set-same s.buffers n (after_visit network.mark visit side p w (s.buffers n))))
            (subst (λ x. IsReady (after_visit network.mark visit side p w (s.buffers n)) x) turned
            (other-ready network.mark visit side p w (s.buffers n) (subst (λ x. IsReady (s.buffers n) x) (sym turned) at_n))))
      ]

  pub keeps-ready : (b : ℕ) (x : Side) → found_ready b x (acts_at network new b x) ≡ true → IsReady (new.buffers b) x
  keeps-ready b x found_it =
      elim (eqb_tells (network.seat b x) p) as (λ _. IsReady (new.buffers b) x) [
        | inl own ↦ own-ready b x (found_ready b x (acts_at network s b x)) c w refl refl (stand.ready b x)
            (sym (ap (found_ready b x) (at-own laws s event follows enabled b x own.1)) ∙ found_it)
        | inr other ↦ others-ready b x c refl other.1 (stand.ready b x (sym
            (ap (found_ready b x) (acts-other laws s event follows enabled (network.seat b x) other.1)) ∙ found_it))
      ]

  -- ---- who was told
  told-found : (n : ℕ) (side : Side) (visit : Visit) → c ≡ At n side visit → Fits network.mark s (At n side visit) Told → found (s.buffers n) side ≡ Closed
  told-found n side Awaits e fits = told-closed Told (found (s.buffers n) side) refl fits
  told-found n side Passes e fits = pass-closed network.mark side (s.buffers n) (found (s.buffers n) side) fits
  told-found n side Moves e fits = absurd fits
  told-found n side Stops e fits = absurd cc

  -- it was told rightly before it went in
  told-before : (b : ℕ) (x : Side) (k : Call) (went : Went Parcel) → c ≡ k → w ≡ went → told_at b x k went ≡ true → WasToldRightly (s.buffers b) x
  told-before b x (At n side visit) Told e is told =
      let are = same-tells b x n side told in
      let closed = closed-is (s.buffers n) side (told-found n side visit e
      (subst (λ went. Fits network.mark s (At n side visit) went) is (fits-at laws s event follows stand enabled (At n side visit) e))) in
      subst (λ b. WasToldRightly (s.buffers b) x) (sym are.number) (subst (λ x. WasToldRightly (s.buffers n) x) (sym are.side) closed)
  told-before b x (At n side visit) Delayed e is told = absurd cc
  told-before b x (At n side visit) Done e is told = absurd cc
  told-before b x (At n side visit) (Moved parcel) e is told = absurd cc
  told-before b x Alone went e is told = absurd cc
  told-before b x Asks went e is told = absurd cc
  told-before b x Gives went e is told = absurd cc

  -- ---- and it stays so
  more-stops : (b : ℕ) (k : Call) → (more : List Side) × ((buffers_after network.mark k p w s.buffers b).stops ≡ (s.buffers b).stops ++ more)
  more-stops b Alone = ([], sym (append-nil (s.buffers b).stops))
  more-stops b Asks = ([], sym (append-nil (s.buffers b).stops))
  more-stops b Gives = ([], sym (append-nil (s.buffers b).stops))
  more-stops b (At n side visit) =
      set-related (λ (old new : Buffer Parcel). (more : List Side) × (new.stops ≡ old.stops ++ more))
      (λ (buffer : Buffer Parcel). ([], sym (append-nil buffer.stops))) s.buffers n _ b
      (stop_of visit side, visit-stops network.mark visit side p w (s.buffers n))

  pub stopped-stays : (b : ℕ) (by : Side) → stopped_by (s.buffers b).sides ≡ Some by → stopped_by (new.buffers b).sides ≡ Some by
  stopped-stays b by e =
      let (more, is) = more-stops b c in
      first-stays (s.buffers b) (new.buffers b) more by (stand.hand_over b).stopped_first
      (keeps-hand_over laws s event follows stand enabled b).stopped_first is e

  empty-at : (n : ℕ) (side : Side) (visit : Visit) → c ≡ At n side visit → stopped_by (s.buffers n).sides ≡ Some Sender → (s.buffers n).marks ≡ []
      → (after_visit network.mark visit side p w (s.buffers n)).marks ≡ []
  empty-at n Sender visit e by empty = absurd (not_first (s.buffers n).sides.stops Sender (not-yet laws s event follows stand enabled n Sender visit e) by)
  empty-at n Receiver visit e by empty = stays-empty network.mark visit p w (s.buffers n) empty

  empty-by : (b : ℕ) (k : Call) → c ≡ k → stopped_by (s.buffers b).sides ≡ Some Sender → (s.buffers b).marks ≡ []
      → (buffers_after network.mark k p w s.buffers b).marks ≡ []
  empty-by b Alone e by empty = empty
  empty-by b Asks e by empty = empty
  empty-by b Gives e by empty = empty
  empty-by b (At n side visit) e by empty =
      set-related (λ (old new : Buffer Parcel). stopped_by old.sides ≡ Some Sender → old.marks ≡ [] → new.marks ≡ [])
      (λ buffer by empty. empty) s.buffers n _ b (empty-at n side visit e) by empty

  -- once the sender has stopped, a buffer that is empty stays so
  pub empty-stays : (b : ℕ) → stopped_by (s.buffers b).sides ≡ Some Sender → (s.buffers b).marks ≡ [] → (new.buffers b).marks ≡ []
  empty-stays b by empty = empty-by b c refl by empty

  lasts : (b : ℕ) (x : Side) → WasToldRightly (s.buffers b) x → WasToldRightly (new.buffers b) x
  lasts b Sender was = record { by_other = stopped-stays b Receiver was.by_other; empty = λ e. absurd cc }
  lasts b Receiver was = record { by_other = stopped-stays b Sender was.by_other; empty = λ e. empty-stays b was.by_other (was.empty e) }

  pub keeps-told : (b : ℕ) (x : Side) → was_told b x (acts_at network new b x) ≡ true → WasToldRightly (new.buffers b) x
  keeps-told b x told =
      lasts b x (elim (or-tells (told_at b x c w) (was_told b x (acts_at network s b x)) (sym (told-after laws s event follows enabled b x) ∙ told)) as
      (λ _. WasToldRightly (s.buffers b) x) [
        | inl now ↦ told-before b x c w refl refl now
        | inr before ↦ stand.told b x before
      ])

  pub keeps-buffers : BuffersStand network new
  keeps-buffers = record {
    hand_over = keeps-hand_over laws s event follows stand enabled;
    stops = keeps-stops laws s event follows stand enabled;
    ready = keeps-ready;
    told = keeps-told;
  }
