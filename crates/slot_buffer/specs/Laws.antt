-- The two laws of a running buffer: each entry keeps the tie, and whoever gets the turn can go on.
use Rattle.std.specs.Prelude.{◌≡◌, ℕ, ◌≤◌, length, drop, true, false, List, [], ◌∷◌, ◌++◌, Option, Some, None}
use Rattle.std.specs.declared.snapshot.Snapshot.{Snapshot}
use Rattle.std.proofs.Common.{refl, sym, ap, ◌∙◌, subst, arith, length-drop}
use Rattle.solo_base.specs.declared.outcome.Side.{Side}
use Rattle.solo_base.specs.declared.outcome.Side.TheVariants.{Sender, Receiver}
use Rattle.queue_var.specs.Sides.{has_stopped, stopped_by, other, entered, continued, delayed}
use Rattle.queue_var.specs.HandsOver.{Lacks}
use Rattle.queue_var.specs.BetweenTwo.{LetsOut, LetsWait, process_at, calls_of, with_call}
use Rattle.queue_var.proofs.BetweenTwo.{entered-between, continued-between, delayed-between, entered-lets_out, entered-continues, stopped-lets_out, delayed-lets_wait, any-same, gives-more, gives-same, calls-with, two-apart, some_inside, tied-waits, tied-called, tied-stopped}
use Rattle.queue_var.proofs.Waits.{not_first}
use Rattle.monitor_gate.specs.Kind.{with_entry, Completes, Suspends}
use Rattle.monitor_gate.specs.Lists.{with_entry_same, with_entry_other}
use Rattle.slot_buffer.specs.declared.answers.Put.{Put}
use Rattle.slot_buffer.specs.declared.answers.Take.{Take}
use Rattle.slot_buffer.specs.declared.call.SlotCall.{SlotCall}
use Rattle.slot_buffer.specs.declared.call.SlotCall.TheVariants as call
use Rattle.slot_buffer.specs.Slot.{Slot, StandsFor, put_by, sent_with, take_by, taken_with}
use Rattle.slot_buffer.specs.History.{put-stands, take-stands, stop-stands}
use Rattle.slot_buffer.specs.Calls.{sent_of, taken_of, was_refused, item_put, item_taken, is_stop, is_refusal, handed_to, is_waiting, IsWoken, IsTied, Puts, Takes, Stops, Moves, Rests, value}
use Rattle.slot_buffer.specs.Calls.Rests.{put_rests, take_rests}

-- ---- what the answers say
put-refused : {T : Type 0} (by : Option Side) (inside : List T) (item back : T) → Put.Stopped back ≡ put_by by inside item → by ≡ Some Receiver
put-refused (Some Receiver) inside item back is = refl
put-refused (Some Sender) [] item back is = absurd cc
put-refused (Some Sender) (held ∷ more) item back is = absurd cc
put-refused None [] item back is = absurd cc
put-refused None (held ∷ more) item back is = absurd cc

take-refused : {T : Type 0} (by : Option Side) (inside : List T) → Take.Stopped ≡ take_by by inside → (by ≡ Some Sender) × (inside ≡ [])
take-refused by (item ∷ more) is = absurd cc
take-refused (Some Sender) [] is = (refl, refl)
take-refused (Some Receiver) [] is = absurd cc
take-refused None [] is = absurd cc

none_left : {T : Type 0} (inside : List T) → length inside ≤ 1 → length (drop 1 inside) ≡ 1 → ⊥
none_left inside few e = let less = length-drop 1 inside in omega arith

module _ {T : Type 0} (before after : Slot T) (p : ℕ) (calls : Side → List (SlotCall T)) where
  completes : LetsOut (Lacks 1 after.inside) p before.sides after.sides → Completes handed_to is_waiting IsWoken p before after
  completes let_out = record { out = let_out.out; others = let_out.others; woken = let_out.woken }

  suspends : LetsWait p before.sides after.sides → Suspends handed_to is_waiting p before after
  suspends waits = record { waiting = waits.waiting; others = waits.others; free = waits.free }

  -- ---- the tie
  put_stands : (item : T) (answer : Put T) (tied : IsTied calls before) → Puts p before item answer after → StandsFor (sent_with (sent_of (calls Sender)) item answer) (taken_of (calls Receiver)) tied.stops after
  put_stands item answer tied moved =
      put-stands before after p item answer moved.may_enter moved.not_stopped moved.answer_is moved.after_is (sent_of (calls Sender)) (taken_of (calls Receiver)) tied.stops tied.stands

  -- a sender that hasn't stopped: the receiver wasn't told of a stop
  none_told : IsTied calls before → has_stopped before.sides Sender ≡ false → was_refused (calls Receiver) ≡ true → ⊥
  none_told tied running told = not_first before.sides.stops Sender running (tied.sides.told Receiver told)

  put_tied : (item : T) → IsTied calls before → Puts p before item Put.Done after → IsTied (with_call calls Sender (call.Put item)) after
  put_tied item tied moved =
      let done = call.Put item in record {
        stops = tied.stops;
        stands = subst (λ sent. StandsFor sent (taken_of (calls Receiver)) tied.stops after) (sym (gives-more item_put calls Sender done)) (put_stands item Put.Done tied moved);
        sides = rw moved.after_is (tied-called is_stop is_refusal calls before.sides tied.sides (continued (entered before.sides Sender) Receiver) Sender done
            (continued-between (entered before.sides Sender) Receiver (entered-between before.sides Sender tied.sides.between)) refl refl (λ e. absurd cc));
        nothing_left = λ told. absurd (none_told tied moved.not_stopped told);
      }

  refused_tied : (item : T) → IsTied calls before → Puts p before item (Put.Stopped item) after → IsTied (with_call calls Sender (call.PutRefused item)) after
  refused_tied item tied moved =
      let done = call.PutRefused item in record {
        stops = tied.stops;
        stands = subst (λ sent. StandsFor sent (taken_of (calls Receiver)) tied.stops after) (sym (gives-same item_put calls Sender done refl Sender)) (put_stands item (Put.Stopped item) tied moved);
        sides = rw moved.after_is (tied-called is_stop is_refusal calls before.sides tied.sides (entered before.sides Sender) Sender done
            (entered-between before.sides Sender tied.sides.between) refl refl (λ e. put-refused (stopped_by before.sides) before.inside item item moved.answer_is));
        nothing_left = λ told. absurd (none_told tied moved.not_stopped told);
      }

  take_stands : (answer : Take T) (tied : IsTied calls before) → Takes p before answer after → StandsFor (sent_of (calls Sender)) (taken_with (taken_of (calls Receiver)) answer) tied.stops after
  take_stands answer tied moved =
      take-stands before after p answer moved.may_enter moved.not_stopped moved.answer_is moved.after_is (sent_of (calls Sender)) (taken_of (calls Receiver)) tied.stops tied.stands

  take_tied : (item : T) → IsTied calls before → Takes p before (Take.Item item) after → IsTied (with_call calls Receiver (call.Take item)) after
  take_tied item tied moved =
      let done = call.Take item in record {
        stops = tied.stops;
        stands = subst (λ taken. StandsFor (sent_of (calls Sender)) taken tied.stops after) (sym (gives-more item_taken calls Receiver done)) (take_stands (Take.Item item) tied moved);
        sides = rw moved.after_is (tied-called is_stop is_refusal calls before.sides tied.sides (continued (entered before.sides Receiver) Sender) Receiver done
            (continued-between (entered before.sides Receiver) Sender (entered-between before.sides Receiver tied.sides.between)) refl refl (λ e. absurd cc));
        nothing_left = λ told. rw moved.after_is (ap (drop 1) (tied.nothing_left (sym (any-same is_refusal calls Receiver done refl Receiver) ∙ told)));
      }

  ended_tied : IsTied calls before → Takes p before Take.Stopped after → IsTied (with_call calls Receiver call.TakeRefused) after
  ended_tied tied moved =
      let done = call.TakeRefused in
      let refused = take-refused (stopped_by before.sides) before.inside moved.answer_is in record {
        stops = tied.stops;
        stands = subst (λ taken. StandsFor (sent_of (calls Sender)) taken tied.stops after) (sym (gives-same item_taken calls Receiver done refl Receiver)) (take_stands Take.Stopped tied moved);
        sides = rw moved.after_is (tied-called is_stop is_refusal calls before.sides tied.sides (entered before.sides Receiver) Receiver done
            (entered-between before.sides Receiver tied.sides.between) refl refl (λ e. refused.0));
        nothing_left = λ told. rw moved.after_is refused.1;
      }

  stop_tied : (side : Side) → IsTied calls before → Stops p before side after → IsTied (with_call calls side (call.Stop side)) after
  stop_tied side tied moved =
      let done = call.Stop side in record {
        stops = tied.stops ++ side ∷ [];
        stands = subst (λ sent. StandsFor sent (taken_of (with_call calls side done Receiver)) (tied.stops ++ side ∷ []) after) (sym (gives-same item_put calls side done refl Sender))
            (subst (λ taken. StandsFor (sent_of (calls Sender)) taken (tied.stops ++ side ∷ []) after) (sym (gives-same item_taken calls side done refl Receiver))
            (stop-stands before after side moved.may_stop.1 moved.after_is (sent_of (calls Sender)) (taken_of (calls Receiver)) tied.stops tied.stands));
        sides = rw moved.after_is (tied-stopped is_stop is_refusal calls before.sides tied.sides side done moved.may_stop.1 refl refl);
        nothing_left = λ told. rw moved.after_is (tied.nothing_left (sym (any-same is_refusal calls side done refl Receiver) ∙ told));
      }

  put_waits : (item : T) → IsTied calls before → Puts p before item (Put.Delayed item) after → IsTied calls after
  put_waits item tied moved = record {
    stops = tied.stops;
    stands = put_stands item (Put.Delayed item) tied moved;
    sides = rw (moved.after_is, moved.process) (tied-waits is_stop is_refusal calls before.sides tied.sides (delayed (entered before.sides Sender) Sender 1) (delayed-between before.sides Sender tied.sides.between moved.not_stopped) refl);
    nothing_left = λ told. rw moved.after_is (tied.nothing_left told);
  }

  take_waits : IsTied calls before → Takes p before Take.Delayed after → IsTied calls after
  take_waits tied moved = record {
    stops = tied.stops;
    stands = take_stands Take.Delayed tied moved;
    sides = rw (moved.after_is, moved.process) (tied-waits is_stop is_refusal calls before.sides tied.sides (delayed (entered before.sides Receiver) Receiver 2) (delayed-between before.sides Receiver tied.sides.between moved.not_stopped) refl);
    nothing_left = λ told. rw moved.after_is (tied.nothing_left told);
  }

  -- ---- who waits, and who gets the turn
  pub moves_done : (done : SlotCall T) → IsTied calls before → Moves p before done after → Completes handed_to is_waiting IsWoken p before after
  moves_done (call.Put item) tied moved = completes (rw (moved.after_is, moved.process) (entered-continues (Lacks 1 (before.inside ++ item ∷ [])) before.sides Sender tied.sides.between (some_inside before.inside item)))
  moves_done (call.PutRefused item) tied moved = completes (rw (moved.after_is, moved.process) (entered-lets_out (Lacks 1 before.inside) before.sides Sender tied.sides.between))
  moves_done (call.Take item) tied moved = completes (rw (moved.after_is, moved.process) (entered-continues (Lacks 1 (drop 1 before.inside)) before.sides Receiver tied.sides.between (none_left before.inside tied.stands.hands_over.within)))
  moves_done call.TakeRefused tied moved = completes (rw (moved.after_is, moved.process) (entered-lets_out (Lacks 1 before.inside) before.sides Receiver tied.sides.between))
  moves_done (call.Stop side) tied moved =
      completes (rw (moved.after_is, moved.process) (stopped-lets_out (Lacks 1 before.inside) (Lacks 1 before.inside) before.sides side tied.sides.between tied.stands.hands_over.waits moved.may_stop))

  pub rests_tied : IsTied calls before → Rests p before after → IsTied calls after
  rests_tied tied (put_rests item moved) = put_waits item tied moved
  rests_tied tied (take_rests moved) = take_waits tied moved

  pub rests_done : IsTied calls before → Rests p before after → Suspends handed_to is_waiting p before after
  rests_done tied (put_rests item moved) = suspends (rw (moved.after_is, moved.process) (delayed-lets_wait before.sides Sender tied.sides.between))
  rests_done tied (take_rests moved) = suspends (rw (moved.after_is, moved.process) (delayed-lets_wait before.sides Receiver tied.sides.between))

-- the lists of both processes, once one has an entry more
one_more : {T : Type 0} (lists : ℕ → List (SlotCall (Snapshot T))) (p : ℕ) (side : Side) (entry : SlotCall (Snapshot T)) → p ≡ process_at side
    → calls_of value (with_entry lists p entry) ≡ with_call (calls_of value lists) side (value entry)
one_more lists p side entry is =
    rw is (calls-with value lists (with_entry lists (process_at side) entry) side entry (with_entry_same lists (process_at side) entry) (with_entry_other lists (process_at side) entry (process_at (other side)) (two-apart side)))

module _ {T : Type 0} (before after : Slot T) (lists : ℕ → List (SlotCall (Snapshot T))) (p : ℕ) where
  by_side : (side : Side) (entry : SlotCall (Snapshot T)) → p ≡ process_at side → IsTied (with_call (calls_of value lists) side (value entry)) after → IsTied (calls_of value (with_entry lists p entry)) after
  by_side side entry is tied = subst (λ calls. IsTied calls after) (sym (one_more lists p side entry is)) tied

  pub moves_tied : (entry : SlotCall (Snapshot T)) → IsTied (calls_of value lists) before → Moves p before (value entry) after → IsTied (calls_of value (with_entry lists p entry)) after
  moves_tied (call.Put item) tied moved = by_side Sender (call.Put item) moved.process (put_tied before after p (calls_of value lists) item.value tied moved)
  moves_tied (call.PutRefused item) tied moved = by_side Sender (call.PutRefused item) moved.process (refused_tied before after p (calls_of value lists) item.value tied moved)
  moves_tied (call.Take item) tied moved = by_side Receiver (call.Take item) moved.process (take_tied before after p (calls_of value lists) item.value tied moved)
  moves_tied call.TakeRefused tied moved = by_side Receiver call.TakeRefused moved.process (ended_tied before after p (calls_of value lists) tied moved)
  moves_tied (call.Stop side) tied moved = by_side side (call.Stop side) moved.process (stop_tied before after p (calls_of value lists) side tied moved)
