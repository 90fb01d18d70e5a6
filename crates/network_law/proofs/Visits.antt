-- What a call at a side of a buffer does to it.
use Rattle.std.proofs.Common.{◌≡◌, ℕ, ◌≤◌, ◌<◌, ◌==◌, Bool, true, false, List, [], ◌∷◌, ◌++◌, length, drop, map, Option, None, Some, refl, sym, ◌∙◌, ap, subst, append_assoc, option_map, arith}
use Rattle.std.proofs.lemmas.Bool.{eqb-true, eq-eqb}
use Rattle.std.proofs.lemmas.List.{append-nil, length_push}
use Rattle.solo_base.specs.declared.outcome.Side.{Side}
use Rattle.solo_base.specs.declared.outcome.Side.TheVariants.{Sender, Receiver}
use Rattle.queue_var.specs.declared.stops.Stops.{Stops}
use Rattle.queue_var.specs.declared.stops.Stops.TheVariants.{Neither, One, Both}
use Rattle.queue_var.specs.Sides.{MayEnter, MayStop, queue, stopped_by, is_among, first_of, stopped, same_side}
use Rattle.queue_var.specs.HandsOver.{Lacks}
use Rattle.queue_var.proofs.Waits.{waits-entered, waits-delayed, waits-continued, stops-more}
use Rattle.network_law.specs.Acts.{Visit, Awaits, Passes, Moves, Stops as Halts, Went, Delayed, Told, Done, Moved, if_at}
use Rattle.network_law.specs.Buffer.{Buffer, moved_through, let_in, after_wait, after_move, after_stop, after_visit, MayVisit, Found, Ready, Lacking, Closed, room_found, parcel_found, found, IsFirst, awaited, PassFits, MoveFits, VisitFits}
use Rattle.network_law.specs.Kept.{StandsFor, IsReady, WasToldRightly}

-- what a visit moved through the side x, where it was made at another or the same side
abbrev pub through : {Parcel : Type 0} → Side → Side → Went Parcel → List Parcel
through x side (Moved parcel) = if_at (same_side x side) parcel
through x side went = []

module _ {Parcel : Type 0} (mark : Parcel → Bool) where
  marks-more : (parcels : List Parcel) (parcel : Parcel) → map mark (parcels ++ parcel ∷ []) ≡ map mark parcels ++ mark parcel ∷ []
  marks-more [] parcel = refl
  marks-more (x ∷ parcels) parcel = ap (λ ms. mark x ∷ ms) (marks-more parcels parcel)

  inside-put : (told : Option (List Parcel)) (sent taken : List Parcel) (parcel : Parcel)
      → ((inside : List Parcel) → told ≡ Some inside → taken ++ inside ≡ sent)
      → (inside : List Parcel) → option_map (λ inside. inside ++ parcel ∷ []) told ≡ Some inside → taken ++ inside ≡ sent ++ parcel ∷ []
  inside-put None sent taken parcel all inside e = absurd cc
  inside-put (Some before) sent taken parcel all inside e =
      let is : before ++ parcel ∷ [] ≡ inside = cc in
      ap (λ i. taken ++ i) (sym is) ∙ sym (append_assoc taken before (parcel ∷ [])) ∙ ap (λ ps. ps ++ parcel ∷ []) (all before refl)

  inside-taken : (told : Option (List Parcel)) (sent taken : List Parcel) (parcel : Parcel)
      → ((inside : List Parcel) → told ≡ Some inside → taken ++ inside ≡ sent)
      → ((inside : List Parcel) → told ≡ Some inside → inside ≡ parcel ∷ drop 1 inside)
      → (inside : List Parcel) → option_map (drop 1) told ≡ Some inside → (taken ++ parcel ∷ []) ++ inside ≡ sent
  inside-taken None sent taken parcel all first inside e = absurd cc
  inside-taken (Some before) sent taken parcel all first inside e =
      let is : drop 1 before ≡ inside = cc in
      append_assoc taken (parcel ∷ []) inside ∙ ap (λ i. taken ++ (parcel ∷ i)) (sym is) ∙ ap (λ i. taken ++ i) (sym (first before refl)) ∙ all before refl

  -- a parcel more
  put-stands : (buffer : Buffer Parcel) (sent taken : List Parcel) (parcel : Parcel) → length buffer.marks < buffer.capacity → queue buffer.sides Sender ≡ None
      → StandsFor mark sent taken buffer → StandsFor mark (sent ++ parcel ∷ []) taken (moved_through mark Sender parcel buffer)
  put-stands buffer sent taken parcel room none h =
      let marks = buffer.marks ++ mark parcel ∷ [] in
      record {
        marks = record {
          in_order = sym (append_assoc (map mark taken) buffer.marks (mark parcel ∷ [])) ∙ ap (λ ms. ms ++ mark parcel ∷ []) h.marks.in_order
              ∙ sym (marks-more sent parcel);
          within = omega (arith, room, length_push buffer.marks (mark parcel));
          waits = waits-continued (Lacks buffer.capacity marks) buffer.sides Sender none;
        };
        parcels = inside-put buffer.inside sent taken parcel h.parcels;
        stopped_first = h.stopped_first;
      }

  shorter : (marks : List Bool) → length (drop 1 marks) ≤ length marks
  shorter [] = omega arith
  shorter (m ∷ marks) = omega arith

  -- the first is taken
  take-stands : (buffer : Buffer Parcel) (sent taken : List Parcel) (parcel : Parcel) → IsFirst mark buffer parcel → queue buffer.sides Receiver ≡ None
      → StandsFor mark sent taken buffer → StandsFor mark sent (taken ++ parcel ∷ []) (moved_through mark Receiver parcel buffer)
  take-stands buffer sent taken parcel first none h =
      let marks = drop 1 buffer.marks in
      record {
        marks = record {
          in_order = ap (λ ms. ms ++ marks) (marks-more taken parcel) ∙ append_assoc (map mark taken) (mark parcel ∷ []) marks
              ∙ ap (λ ms. map mark taken ++ ms) (sym first.marked) ∙ h.marks.in_order;
          within = (let within = h.marks.within in let less = shorter buffer.marks in omega arith);
          waits = waits-continued (Lacks buffer.capacity marks) buffer.sides Receiver none;
        };
        parcels = inside-taken buffer.inside sent taken parcel h.parcels first.told;
        stopped_first = h.stopped_first;
      }

  -- a process goes in
  enter-stands : (buffer : Buffer Parcel) (side : Side) (p : ℕ) (sent taken : List Parcel) → MayEnter buffer.sides side p → StandsFor mark sent taken buffer
      → StandsFor mark sent taken (let_in side buffer)
  enter-stands buffer side p sent taken may h =
      record {
        marks = record {
          in_order = h.marks.in_order;
          within = h.marks.within;
          waits = waits-entered (Lacks buffer.capacity buffer.marks) buffer.sides side p may h.marks.waits;
        };
        parcels = h.parcels;
        stopped_first = h.stopped_first;
      }

  -- it waits
  delay-stands : (buffer : Buffer Parcel) (side : Side) (p : ℕ) (sent taken : List Parcel) → MayEnter buffer.sides side p
      → Lacks buffer.capacity buffer.marks side → stopped_by buffer.sides ≡ None → StandsFor mark sent taken buffer
      → StandsFor mark sent taken (after_wait mark side p Delayed buffer)
  delay-stands buffer side p sent taken may lacks stop h =
      record {
        marks = record {
          in_order = h.marks.in_order;
          within = h.marks.within;
          waits = waits-delayed (Lacks buffer.capacity buffer.marks) buffer.sides side p may h.marks.waits lacks stop;
        };
        parcels = h.parcels;
        stopped_first = h.stopped_first;
      }

  -- it stops
  stop-stands : (buffer : Buffer Parcel) (side : Side) (sent taken : List Parcel) → queue buffer.sides side ≡ None → StandsFor mark sent taken buffer
      → StandsFor mark sent taken (after_stop side buffer)
  stop-stands buffer side sent taken none h =
      record {
        marks = record {
          in_order = h.marks.in_order;
          within = h.marks.within;
          waits = waits-continued (Lacks buffer.capacity buffer.marks) (stopped buffer.sides side) side none;
        };
        parcels = h.parcels;
        stopped_first = stops-more buffer.stops buffer.sides.stops side h.stopped_first;
      }

-- ---- what it finds tells how the buffer stands
pub not_first : (stops : Stops) (side : Side) → is_among side stops ≡ false → first_of stops ≡ Some side → ⊥
not_first Neither side n f = cc
not_first (One Sender) Sender n f = cc
not_first (One Sender) Receiver n f = cc
not_first (One Receiver) Sender n f = cc
not_first (One Receiver) Receiver n f = cc
not_first (Both first) side n f = cc

equal-false : (n m : ℕ) → (n == m) ≡ false → n ≡ m → ⊥
equal-false n m e same = let t = eq-eqb n m same in cc

pub record Wants {Parcel : Type 0} (buffer : Buffer Parcel) (side : Side) : Type 0 where
  pub lacks : Lacks buffer.capacity buffer.marks side
  pub not_stopped : stopped_by buffer.sides ≡ None

full-by : (by : Option Side) (full : Bool) → room_found by full ≡ Lacking → (by ≡ Some Sender → ⊥) → (full ≡ true) × (by ≡ None)
full-by None true e not = (refl, refl)
full-by None false e not = absurd cc
full-by (Some Sender) full e not = absurd (not refl)
full-by (Some Receiver) full e not = absurd cc

empty-by : (by : Option Side) (marks : List Bool) → parcel_found by marks ≡ Lacking → (by ≡ Some Receiver → ⊥) → (marks ≡ []) × (by ≡ None)
empty-by None [] e not = (refl, refl)
empty-by (Some Sender) [] e not = absurd cc
empty-by (Some Receiver) [] e not = absurd (not refl)
empty-by by (m ∷ marks) e not = absurd cc

pub lacking-wants : {Parcel : Type 0} (buffer : Buffer Parcel) (side : Side) → is_among side buffer.sides.stops ≡ false → found buffer side ≡ Lacking
    → Wants buffer side
lacking-wants buffer Sender not_yet e =
    let is = full-by (stopped_by buffer.sides) (length buffer.marks == buffer.capacity) e (not_first buffer.sides.stops Sender not_yet) in
    record { lacks = eqb-true (length buffer.marks) buffer.capacity is.0; not_stopped = is.1 }
lacking-wants buffer Receiver not_yet e =
    let is = empty-by (stopped_by buffer.sides) buffer.marks e (not_first buffer.sides.stops Receiver not_yet) in
    record { lacks = is.0; not_stopped = is.1 }

room-by : (by : Option Side) (full : Bool) → room_found by full ≡ Ready → full ≡ false
room-by None true e = absurd cc
room-by None false e = refl
room-by (Some Sender) true e = absurd cc
room-by (Some Sender) false e = refl
room-by (Some Receiver) full e = absurd cc

some-inside : (by : Option Side) (marks : List Bool) → parcel_found by marks ≡ Ready → 0 < length marks
some-inside None [] e = absurd cc
some-inside (Some Sender) [] e = absurd cc
some-inside (Some Receiver) [] e = absurd cc
some-inside by (m ∷ marks) e = omega arith

pub ready-is : {Parcel : Type 0} (buffer : Buffer Parcel) (side : Side) → found buffer side ≡ Ready → length buffer.marks ≤ buffer.capacity
    → IsReady buffer side
ready-is buffer Sender e within =
    let not = equal-false (length buffer.marks) buffer.capacity (room-by (stopped_by buffer.sides) (length buffer.marks == buffer.capacity) e) in
    omega (arith, not, within)
ready-is buffer Receiver e within = some-inside (stopped_by buffer.sides) buffer.marks e

closed-room : (by : Option Side) (full : Bool) → room_found by full ≡ Closed → by ≡ Some Receiver
closed-room None true e = absurd cc
closed-room None false e = absurd cc
closed-room (Some Sender) true e = absurd cc
closed-room (Some Sender) false e = absurd cc
closed-room (Some Receiver) full e = refl

closed-parcel : (by : Option Side) (marks : List Bool) → parcel_found by marks ≡ Closed → (by ≡ Some Sender) × (marks ≡ [])
closed-parcel None [] e = absurd cc
closed-parcel (Some Sender) [] e = (refl, refl)
closed-parcel (Some Receiver) [] e = absurd cc
closed-parcel by (m ∷ marks) e = absurd cc

pub closed-is : {Parcel : Type 0} (buffer : Buffer Parcel) (side : Side) → found buffer side ≡ Closed → WasToldRightly buffer side
closed-is buffer Sender e = record { by_other = closed-room (stopped_by buffer.sides) (length buffer.marks == buffer.capacity) e; empty = λ s. absurd cc }
closed-is buffer Receiver e = let is = closed-parcel (stopped_by buffer.sides) buffer.marks e in record { by_other = is.0; empty = λ s. is.1 }

-- ---- a visit and what it moved
module _ {Parcel : Type 0} (mark : Parcel → Bool) (buffer : Buffer Parcel) (p : ℕ) (sent taken : List Parcel) (h : StandsFor mark sent taken buffer) where
  abbrev After : Side → Went Parcel → Buffer Parcel → Type 0
  After side went new = StandsFor mark (sent ++ through Sender side went) (taken ++ through Receiver side went) new

  moves-nothing : (side : Side) (went : Went Parcel) (new : Buffer Parcel) → through Sender side went ≡ [] → through Receiver side went ≡ []
      → StandsFor mark sent taken new → After side went new
  moves-nothing side went new s t stands = rw (s, t, append-nil sent, append-nil taken) stands

  none-moved : (side : Side) (went : Went Parcel) (x : Side) → went ≡ Done → through x side went ≡ []
  none-moved side went x e = rw e refl

  passes : (side : Side) (finds : Found) (went : Went Parcel) → found buffer side ≡ finds → is_among side buffer.sides.stops ≡ false
      → MayEnter buffer.sides side p → PassFits mark side buffer finds went → After side went (after_wait mark side p went buffer)
  passes Sender Ready (Moved parcel) e not_yet may fits =
      rw (append-nil taken) (put-stands mark (let_in Sender buffer) sent taken parcel (ready-is buffer Sender e h.marks.within) refl
      (enter-stands mark buffer Sender p sent taken may h))
  passes Receiver Ready (Moved parcel) e not_yet may fits =
      rw (append-nil sent) (take-stands mark (let_in Receiver buffer) sent taken parcel record { marked = fits.marked; told = fits.told } refl
      (enter-stands mark buffer Receiver p sent taken may h))
  passes Sender Lacking Delayed e not_yet may fits =
      let wants = lacking-wants buffer Sender not_yet e in
      moves-nothing Sender Delayed _ refl refl (delay-stands mark buffer Sender p sent taken may wants.lacks wants.not_stopped h)
  passes Receiver Lacking Delayed e not_yet may fits =
      let wants = lacking-wants buffer Receiver not_yet e in
      moves-nothing Receiver Delayed _ refl refl (delay-stands mark buffer Receiver p sent taken may wants.lacks wants.not_stopped h)
  passes Sender Closed Told e not_yet may fits = moves-nothing Sender Told _ refl refl (enter-stands mark buffer Sender p sent taken may h)
  passes Receiver Closed Told e not_yet may fits = moves-nothing Receiver Told _ refl refl (enter-stands mark buffer Receiver p sent taken may h)
  passes side finds went e not_yet may fits = absurd fits

  awaits : (side : Side) (finds : Found) → found buffer side ≡ finds → is_among side buffer.sides.stops ≡ false → MayEnter buffer.sides side p
      → After side (awaited finds) (after_wait mark side p (awaited finds) buffer)
  awaits Sender Ready e not_yet may = moves-nothing Sender Done _ refl refl (enter-stands mark buffer Sender p sent taken may h)
  awaits Receiver Ready e not_yet may = moves-nothing Receiver Done _ refl refl (enter-stands mark buffer Receiver p sent taken may h)
  awaits Sender Lacking e not_yet may = passes Sender Lacking Delayed e not_yet may tt
  awaits Receiver Lacking e not_yet may = passes Receiver Lacking Delayed e not_yet may tt
  awaits Sender Closed e not_yet may = passes Sender Closed Told e not_yet may tt
  awaits Receiver Closed e not_yet may = passes Receiver Closed Told e not_yet may tt

  moves : (side : Side) (went : Went Parcel) → MayStop buffer.sides side → IsReady buffer side → MoveFits mark side buffer went
      → After side went (after_move mark side went buffer)
  moves Sender Done may ready fits = moves-nothing Sender Done _ refl refl h
  moves Receiver Done may ready fits = moves-nothing Receiver Done _ refl refl h
  moves Sender (Moved parcel) may ready fits = rw (append-nil taken) (put-stands mark buffer sent taken parcel ready may.1 h)
  moves Receiver (Moved parcel) may ready fits = rw (append-nil sent) (take-stands mark buffer sent taken parcel fits may.1 h)
  moves side Delayed may ready fits = absurd fits
  moves side Told may ready fits = absurd fits

  pub visit-stands : (side : Side) (visit : Visit) (went : Went Parcel) → is_among side buffer.sides.stops ≡ false → (visit ≡ Moves → IsReady buffer side)
      → MayVisit buffer.sides side p visit → VisitFits mark side buffer visit went → After side went (after_visit mark visit side p went buffer)
  visit-stands side Awaits went not_yet ready may fits =
      subst (λ went. After side went (after_wait mark side p went buffer)) (sym fits) (awaits side (found buffer side) refl not_yet may)
  visit-stands side Passes went not_yet ready may fits = passes side (found buffer side) went refl not_yet may fits
  visit-stands side Moves went not_yet ready may fits = moves side went may (ready refl) fits
  visit-stands side Halts went not_yet ready may fits =
      moves-nothing side went _ (none-moved side went Sender fits) (none-moved side went Receiver fits) (stop-stands mark buffer side sent taken may.1 h)
