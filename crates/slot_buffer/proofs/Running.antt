-- What an end finds inside its gate, and what it may do there.
use Rattle.std.proofs.Common.{◌≡◌, ◌⊎◌, inl, inr, ℕ, ◌≤◌, false, Option, None, Some, List, [], ◌∷◌, map, length, option_to_list, refl, sym, ap, ◌∙◌, subst, arith}
use Rattle.std.specs.declared.snapshot.Snapshot.{Snapshot}
use Rattle.solo_base.specs.declared.outcome.Side.{Side}
use Rattle.solo_base.specs.declared.outcome.Side.TheVariants.{Sender, Receiver}
use Rattle.queue_var.specs.Sides.{MayEnter, MayStop, has_stopped, stopped_by, entered, delayed}
use Rattle.queue_var.specs.HandsOver.{Lacks}
use Rattle.queue_var.specs.BetweenTwo.{CanGoOn, process_at, calls_of}
use Rattle.queue_var.proofs.BetweenTwo.{may-stop, may-resume, can-go-on}
use Rattle.monitor_gate.specs.Steps.{Found}
use Rattle.slot_buffer.specs.declared.answers.Put.{Put}
use Rattle.slot_buffer.specs.declared.answers.Take.{Take}
use Rattle.slot_buffer.specs.declared.call.SlotCall.{SlotCall}
use Rattle.slot_buffer.specs.Slot.{Slot, put_answer, put_by, after_put, take_answer, take_by, after_take}
use Rattle.slot_buffer.specs.Calls.{IsTied, Puts, Takes, Rests, has_stop, handed_to, is_waiting, IsWoken, value}
use Rattle.slot_buffer.specs.Calls.Rests.{put_rests}
use Rattle.slot_buffer.specs.Ends.{Finds}

module _ {T : Type 0} where
  -- what the gate gives to the process of a side
  pub finds : (side : Side) (opening : Slot T) (number : ℕ) (entries own : List (SlotCall (Snapshot T))) (state : Slot T)
      → Found (λ opening state lists. IsTied (calls_of value lists) state) opening number entries state → number ≡ process_at side → entries ≡ own → Finds side (map value own) state
  finds side opening number entries own state found is same = record {
    calls = calls_of value found.lists;
    own_calls = ap (map value) (ap found.lists (sym is) ∙ found.mine ∙ same);
    tied = found.tied;
  }

  runs : (side : Side) (own : List (SlotCall T)) (state : Slot T) → Finds side own state → has_stop own ≡ false → has_stopped state.sides side ≡ false
  runs side own state found none = found.tied.sides.stopped side ∙ ap has_stop found.own_calls ∙ none

  -- A process that enters finds the turn free, and nobody in the queue of its side.
  pub lets_in : (side : Side) (own : List (SlotCall T)) (number : ℕ) (state : Slot T) → Finds side own state → number ≡ process_at side → handed_to state ≡ None → is_waiting number state ≡ false → MayStop state.sides side
  lets_in side own number state found is free out = may-stop state.sides side found.tied.sides.between found.tied.stands.hands_over.waits.named free (rw (sym is) out)

  pub enters : (side : Side) (own : List (SlotCall T)) (number : ℕ) (state : Slot T) → Finds side own state → number ≡ process_at side → handed_to state ≡ None → is_waiting number state ≡ false → has_stop own ≡ false
      → MayEnter state.sides side (process_at side) × (has_stopped state.sides side ≡ false)
  enters side own number state found is free out none = (inl (lets_in side own number state found is free out), runs side own state found none)

  -- A process that resumes finds that it can go on.
  pub resumes : (side : Side) (own : List (SlotCall T)) (number : ℕ) (state : Slot T) → Finds side own state → number ≡ process_at side → handed_to state ≡ Some number → has_stop own ≡ false
      → MayEnter state.sides side (process_at side) × (has_stopped state.sides side ≡ false)
  resumes side own number state found is handed none = (inr (may-resume state.sides side found.tied.sides.between (handed ∙ ap Some is)), runs side own state found none)

  pub goes_on : (side : Side) (own : List (SlotCall T)) (number : ℕ) (state : Slot T) → Finds side own state → number ≡ process_at side → IsWoken number state → CanGoOn (Lacks 1 state.inside) state.sides side
  goes_on side own number state found is woken = can-go-on (Lacks 1 state.inside) state.sides side found.tied.sides.between (rw (sym is) woken)

  -- ---- the answers to a put
  refused_item : (by : Option Side) (inside : List T) (item back : T) → Put.Stopped back ≡ put_by by inside item → back ≡ item
  refused_item (Some Receiver) inside item back is = cc
  refused_item (Some Sender) [] item back is = cc
  refused_item (Some Sender) (held ∷ more) item back is = cc
  refused_item None [] item back is = cc
  refused_item None (held ∷ more) item back is = cc

  pub stopped_answer : (by : Option Side) (inside : List T) (item : T) → by ≡ Some Receiver → Put.Stopped item ≡ put_by by inside item
  stopped_answer by inside item is = rw is refl

  -- the buffer is empty at a put that is neither delayed nor refused
  goes_in : (by : Option Side) (inside : List T) (item : T) → ((back : T) → Put.Delayed back ≡ put_by by inside item → ⊥) → (by ≡ Some Receiver → ⊥) → (inside ≡ []) × (Put.Done ≡ put_by by inside item)
  goes_in (Some Receiver) inside item waits refused = absurd (refused refl)
  goes_in (Some Sender) [] item waits refused = (refl, refl)
  goes_in (Some Sender) (held ∷ more) item waits refused = absurd (waits item refl)
  goes_in None [] item waits refused = (refl, refl)
  goes_in None (held ∷ more) item waits refused = absurd (waits item refl)

  pub has_room : (now : Slot T) (item : T) → ((back : T) → Put.Delayed back ≡ put_answer now item → ⊥) → (stopped_by now.sides ≡ Some Receiver → ⊥) → (now.inside ≡ []) × (Put.Done ≡ put_answer now item)
  has_room now item waits refused = goes_in (stopped_by now.sides) now.inside item waits refused

  none_held : (slot : Option T) → option_to_list slot ≡ [] → slot ≡ None
  none_held None e = refl
  none_held (Some held) e = absurd cc

  pub empty_room : (now : Slot T) (slot : Option T) (item : T) → now.inside ≡ option_to_list slot → ((back : T) → Put.Delayed back ≡ put_answer now item → ⊥) → (stopped_by now.sides ≡ Some Receiver → ⊥) → slot ≡ None
  empty_room now slot item is waits refused = none_held slot (sym is ∙ (has_room now item waits refused).0)

  -- an item of a buffer that isn't empty
  held_in : (inside : List T) → (inside ≡ [] → ⊥) → T
  held_in [] full = absurd (full refl)
  held_in (held ∷ more) full = held

  -- a sender that can go on isn't delayed
  pub put_goes_on : (by : Option Side) (inside : List T) (item back : T) → length inside ≤ 1 → (Lacks 1 inside Sender → ⊥) ⊎ (by ≡ Some Receiver) → Put.Delayed back ≡ put_by by inside item → ⊥
  put_goes_on (Some Receiver) inside item back few can is = cc
  put_goes_on (Some Sender) [] item back few can is = cc
  put_goes_on (Some Sender) (held ∷ more) item back few (inl room) is = room (omega arith)
  put_goes_on (Some Sender) (held ∷ more) item back few (inr stopped) is = cc
  put_goes_on None [] item back few can is = cc
  put_goes_on None (held ∷ more) item back few (inl room) is = room (omega arith)
  put_goes_on None (held ∷ more) item back few (inr stopped) is = cc

  pub take_goes_on : (by : Option Side) (inside : List T) → (Lacks 1 inside Receiver → ⊥) ⊎ (by ≡ Some Sender) → Take.Delayed ≡ take_by by inside → ⊥
  take_goes_on by (item ∷ more) can is = cc
  take_goes_on (Some Sender) [] can is = cc
  take_goes_on (Some Receiver) [] (inl some) is = some refl
  take_goes_on (Some Receiver) [] (inr stopped) is = cc
  take_goes_on None [] (inl some) is = some refl
  take_goes_on None [] (inr stopped) is = cc

  -- ---- the entries, as the monitor answered them
  module _ (number : ℕ) (state now after : Slot T) (item seen : T) (is : number ≡ 1) (same : now ≡ state) (seen_is : seen ≡ item) (may : MayEnter state.sides Sender 1 × (has_stopped state.sides Sender ≡ false)) where
    pub has_put : Put.Done ≡ put_answer now item → after ≡ after_put now 1 item Put.Done → Puts number state seen Put.Done after
    has_put answer then = rw (is, seen_is) record { process = refl; may_enter = may.0; not_stopped = may.1; answer_is = rw (sym same) answer; after_is = rw (sym same) then }

    pub was_refused_put : (back : T) → Put.Stopped back ≡ put_answer now item → after ≡ after_put now 1 item (Put.Stopped back) → Puts number state seen (Put.Stopped seen) after
    was_refused_put back answer then =
        let same_item = refused_item (stopped_by now.sides) now.inside item back answer in
        rw (is, seen_is) record { process = refl; may_enter = may.0; not_stopped = may.1; answer_is = rw (sym same) (subst (λ b. Put.Stopped b ≡ put_answer now item) same_item answer); after_is = rw (sym same) then }

  -- a put that waits: any item would, and the one inside is one
  pub waits_to_put : (number : ℕ) (state now after : Slot T) → number ≡ 1 → now ≡ state → MayEnter state.sides Sender 1 × (has_stopped state.sides Sender ≡ false) → (now.inside ≡ [] → ⊥) → ((item : T) → Put.Delayed item ≡ put_answer now item)
      → after ≡ record { inside = now.inside; sides = delayed (entered now.sides Sender) Sender 1 } → Rests number state after
  waits_to_put number state now after is same may full waits then =
      let item = held_in now.inside full in
      put_rests item (rw is record { process = refl; may_enter = may.0; not_stopped = may.1; answer_is = rw (sym same) (waits item); after_is = rw (sym same) then })

  module _ (number : ℕ) (state now after : Slot T) (is : number ≡ 2) (same : now ≡ state) (may : MayEnter state.sides Receiver 2 × (has_stopped state.sides Receiver ≡ false)) where
    pub has_taken : (answer : Take T) → answer ≡ take_answer now → after ≡ after_take now 2 answer → Takes number state answer after
    has_taken answer given then = rw is record { process = refl; may_enter = may.0; not_stopped = may.1; answer_is = rw (sym same) given; after_is = rw (sym same) then }
