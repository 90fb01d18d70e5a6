-- What contracts see of the ends of a running buffer, and of its gate.
use Rattle.std.specs.Prelude.{◌≡◌, true, false, Option, None, Some, Result, Ok, Err, List, [], ◌++◌, option_to_list}
use Rattle.std.proofs.Common.{sym, ap, ◌∙◌}
use Rattle.std.proofs.lemmas.Bool.{false_from_ne_true}
use Rattle.std.proofs.lemmas.List.{append-nil}
use Rattle.solo_base.specs.declared.outcome.Side.{Side}
use Rattle.solo_base.specs.declared.outcome.Side.TheVariants.{Sender, Receiver}
use Rattle.queue_var.specs.Sides.{nobody}
use Rattle.queue_var.specs.BetweenTwo.{WhoStopped}
use Rattle.slot_buffer.specs.declared.answers.Put.{Put}
use Rattle.slot_buffer.specs.declared.answers.Take.{Take}
use Rattle.slot_buffer.specs.declared.answers.Stopped.{Stopped}
use Rattle.slot_buffer.specs.declared.answers.Ended.{Ended}
use Rattle.slot_buffer.specs.declared.call.SlotCall.{SlotCall}
use Rattle.slot_buffer.specs.declared.call.SlotCall.TheVariants as call
use Rattle.slot_buffer.specs.Slot.{Slot}
use Rattle.slot_buffer.specs.Calls.{IsTied, sent_of, taken_of, has_stop, was_refused, TookAll}

-- an empty buffer at which nobody waits
abbrev pub empty_slot : {T : Type 0} → Slot T
empty_slot = record { inside = []; sides = nobody }

-- An entry of this side finds the buffer in such a state: it is tied to the calls of this side so far, and to some
-- calls of the other side.
pub record Finds {T : Type 0} (side : Side) (own : List (SlotCall T)) (state : Slot T) : Type 0 where
  pub calls : Side → List (SlotCall T)
  pub own_calls : calls side ≡ own
  pub tied : IsTied calls state

-- the call that a put was, by what it gave
abbrev pub put_call : {T : Type 0} → T → Result (Unit {0}) (Stopped T) → SlotCall T
put_call item (Ok done) = call.Put item
put_call item (Err stopped) = call.PutRefused item

-- the answer of the monitor that a put gave
abbrev pub put_given : {T : Type 0} → T → Result (Unit {0}) (Stopped T) → Put T
put_given item (Ok done) = Put.Done
put_given item (Err stopped) = Put.Stopped item

-- the call that a take was, by what it gave
abbrev pub take_call : {T : Type 0} → Result T Ended → SlotCall T
take_call (Ok item) = call.Take item
take_call (Err ended) = call.TakeRefused

-- the answer of the monitor that a take gave
abbrev pub take_given : {T : Type 0} → Result T Ended → Take T
take_given (Ok item) = Take.Item item
take_given (Err ended) = Take.Stopped

-- the answer of the monitor to a take that doesn't wait, by what came out of the slot
abbrev pub taken_out : {T : Type 0} → Option T → Take T
taken_out (Some item) = Take.Item item
taken_out None = Take.Stopped

-- What stands when both ends have met: what was taken and what rests is what was put, it is known who stopped first, and a
-- receiver that was told of a stop leaves nothing.
pub record Meets {T : Type 0} (calls : Side → List (SlotCall T)) (rest : Option T) (stopped_by : Option Side) : Type 0 where
  pub in_order : taken_of (calls Receiver) ++ option_to_list rest ≡ sent_of (calls Sender)
  pub stopped : WhoStopped (λ side. has_stop (calls side)) (λ side. was_refused (calls side)) stopped_by
  pub nothing_left : was_refused (calls Receiver) ≡ true → rest ≡ None

-- Who took until it was told that no more comes took all that was put, and its sender was refused nothing.
pub took_all : {T : Type 0} (calls : Side → List (SlotCall T)) (rest : Option T) (stopped_by : Option Side) → Meets calls rest stopped_by
    → TookAll (calls Receiver) → (taken_of (calls Receiver) ≡ sent_of (calls Sender)) × (was_refused (calls Sender) ≡ false)
took_all calls rest stopped_by met all = (
  sym (append-nil (taken_of (calls Receiver))) ∙ ap (λ left. taken_of (calls Receiver) ++ option_to_list left) (sym (met.nothing_left all.0)) ∙ met.in_order,
  false_from_ne_true (was_refused (calls Sender)) (λ refused. (
      let did = met.stopped.did Receiver (met.stopped.told Sender refused) in let runs = all.1 in absurd cc)),
)
