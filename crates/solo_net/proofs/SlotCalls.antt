-- What a call on one slot buffer is to the law's buffer.
use Rattle.std.proofs.Common.{◌≡◌, ◌≤◌, ◌==◌, ℕ, List, [], ◌∷◌, map, length, drop, Option, None, Some, refl, sym, subst, lit≤, arith}
use Rattle.solo_base.specs.declared.outcome.Side.{Side}
use Rattle.solo_base.specs.declared.outcome.Side.TheVariants.{Sender, Receiver}
use Rattle.queue_var.specs.Sides.{Sides, stopped_by}
use Rattle.slot_buffer.specs.declared.answers.Put.{Put}
use Rattle.slot_buffer.specs.declared.answers.Take.{Take}
use Rattle.slot_buffer.specs.Slot.{Slot, put_by, put_answer, after_put, take_by, take_answer, after_take}
use Rattle.slot_buffer.specs.Slot as slots
use Rattle.network_law.specs.Acts.{Visit, Passes, Stops, Went, Delayed, Told, Done, Moved}
use Rattle.network_law.specs.Buffer.{Buffer, room_found, parcel_found, PassFits, VisitFits, after_visit}
use Rattle.exchange_law.specs.Parcels.{Parcel, mark}
use Rattle.solo_net.specs.SixBuffers.{as_buffer, SlotStands}

-- how a put and a take went
abbrev pub put_went : {X : Type 0} → (X → Parcel) → X → Put X → Went Parcel
put_went of item Put.Done = Moved (of item)
put_went of item (Put.Delayed back) = Delayed
put_went of item (Put.Stopped back) = Told

abbrev pub take_went : {X : Type 0} → (X → Parcel) → Take X → Went Parcel
take_went of (Take.Item item) = Moved (of item)
take_went of Take.Delayed = Delayed
take_went of Take.Stopped = Told

-- The call goes as the law allows, and the slot stands for the buffer behind it.
pub record SlotVisited {X : Type 0} (of : X → Parcel) (old new : Slot X) (side : Side) (visit : Visit) (p : ℕ) (w : Went Parcel) : Type 0 where
  pub fits : (b : Buffer Parcel) → SlotStands of old b → VisitFits mark side b visit w
  pub after : (b : Buffer Parcel) → SlotStands of old b → SlotStands of new (after_visit mark visit side p w b)

abbrev slot_of : {X : Type 0} → List X → Sides → Slot X
slot_of inside sides = record { inside = inside; sides = sides }

module _ {X : Type 0} (of : X → Parcel) where
  -- ---- a put
  put-fits : (by : Option Side) (inside : List X) (item : X) (buffer : Buffer Parcel) → length inside ≤ 1
      → PassFits mark Sender buffer (room_found by (length (map mark (map of inside)) == 1)) (put_went of item (put_by by inside item))
  put-fits (Some Receiver) inside item buffer few = tt
  put-fits (Some Sender) [] item buffer few = tt
  put-fits None [] item buffer few = tt
  put-fits (Some Sender) (held ∷ []) item buffer few = tt
  put-fits None (held ∷ []) item buffer few = tt
  put-fits (Some Sender) (held ∷ next ∷ more) item buffer few = absurd (omega (arith, few))
  put-fits None (held ∷ next ∷ more) item buffer few = absurd (omega (arith, few))

  put-after : (by : Option Side) (inside : List X) (sides : Sides) (stops : List Side) (p : ℕ) (item : X) → length inside ≤ 1
      → SlotStands of (after_put (slot_of inside sides) p item (put_by by inside item))
      (after_visit mark Passes Sender p (put_went of item (put_by by inside item)) (as_buffer of (slot_of inside sides) stops))
  put-after (Some Receiver) inside sides stops p item few = record { is = refl; within = few }
  put-after (Some Sender) [] sides stops p item few = record { is = refl; within = lit≤ tt }
  put-after None [] sides stops p item few = record { is = refl; within = lit≤ tt }
  put-after (Some Sender) (held ∷ more) sides stops p item few = record { is = refl; within = few }
  put-after None (held ∷ more) sides stops p item few = record { is = refl; within = few }

  -- ---- a take
  take-fits : (by : Option Side) (inside : List X) (sides : Sides) (stops : List Side)
      → PassFits mark Receiver (as_buffer of (slot_of inside sides) stops) (parcel_found by (map mark (map of inside))) (take_went of (take_by by inside))
  take-fits by (item ∷ more) sides stops = record {
    marked = refl;
    told = λ all e. (let same : (of item ∷ map of more) ≡ all = cc in subst (λ all. all ≡ of item ∷ drop 1 all) same refl);
  }
  take-fits (Some Sender) [] sides stops = tt
  take-fits (Some Receiver) [] sides stops = tt
  take-fits None [] sides stops = tt

  take-after : (by : Option Side) (inside : List X) (sides : Sides) (stops : List Side) (p : ℕ) → length inside ≤ 1
      → SlotStands of (after_take (slot_of inside sides) p (take_by by inside))
      (after_visit mark Passes Receiver p (take_went of (take_by by inside)) (as_buffer of (slot_of inside sides) stops))
  take-after by (item ∷ more) sides stops p few = record { is = refl; within = omega (arith, few) }
  take-after (Some Sender) [] sides stops p few = record { is = refl; within = few }
  take-after (Some Receiver) [] sides stops p few = record { is = refl; within = few }
  take-after None [] sides stops p few = record { is = refl; within = few }

  module _ (slot : Slot X) (p : ℕ) where
    put-now : (item : X) → SlotVisited of slot (after_put slot p item (put_answer slot item)) Sender Passes p (put_went of item (put_answer slot item))
    put-now item = record {
      fits = λ b st. subst (λ b. VisitFits mark Sender b Passes (put_went of item (put_answer slot item))) (sym st.is)
          (put-fits (stopped_by slot.sides) slot.inside item (as_buffer of slot b.stops) st.within);
      after = λ b st. subst (λ b. SlotStands of (after_put slot p item (put_answer slot item))
          (after_visit mark Passes Sender p (put_went of item (put_answer slot item)) b)) (sym st.is)
          (put-after (stopped_by slot.sides) slot.inside slot.sides b.stops p item st.within);
    }

    pub put-visited : (item : X) (answer : Put X) (new : Slot X) → answer ≡ put_answer slot item → new ≡ after_put slot p item answer
        → SlotVisited of slot new Sender Passes p (put_went of item answer)
    put-visited item answer new is now =
        subst (λ answer. (new : Slot X) → new ≡ after_put slot p item answer → SlotVisited of slot new Sender Passes p (put_went of item answer)) (sym is)
        (λ new e. subst (λ new. SlotVisited of slot new Sender Passes p (put_went of item (put_answer slot item))) (sym e) (put-now item)) new now

    take-now : SlotVisited of slot (after_take slot p (take_answer slot)) Receiver Passes p (take_went of (take_answer slot))
    take-now = record {
      fits = λ b st. subst (λ b. VisitFits mark Receiver b Passes (take_went of (take_answer slot))) (sym st.is)
          (take-fits (stopped_by slot.sides) slot.inside slot.sides b.stops);
      after = λ b st. subst (λ b. SlotStands of (after_take slot p (take_answer slot))
          (after_visit mark Passes Receiver p (take_went of (take_answer slot)) b)) (sym st.is)
          (take-after (stopped_by slot.sides) slot.inside slot.sides b.stops p st.within);
    }

    pub take-visited : (answer : Take X) (new : Slot X) → answer ≡ take_answer slot → new ≡ after_take slot p answer
        → SlotVisited of slot new Receiver Passes p (take_went of answer)
    take-visited answer new is now =
        subst (λ answer. (new : Slot X) → new ≡ after_take slot p answer → SlotVisited of slot new Receiver Passes p (take_went of answer)) (sym is)
        (λ new e. subst (λ new. SlotVisited of slot new Receiver Passes p (take_went of (take_answer slot))) (sym e) take-now) new now

    -- ---- a stop
    pub stop-visited : (side : Side) (new : Slot X) → new ≡ slots.after_stop slot side → SlotVisited of slot new side Stops p Done
    stop-visited side new now = record {
      fits = λ b st. refl;
      after = λ b st. subst (λ new. SlotStands of new (after_visit mark Stops side p Done b)) (sym now)
          (subst (λ b. SlotStands of (slots.after_stop slot side) (after_visit mark Stops side p Done b)) (sym st.is)
          (record { is = refl; within = st.within }));
    }
