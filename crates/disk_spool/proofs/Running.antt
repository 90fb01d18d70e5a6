-- What an end of a spool finds inside its gate, and what it may do there.
use Rattle.std.proofs.Common.{◌≡◌, inl, inr, ℕ, Bool, true, false, Option, None, Some, List, [], ◌∷◌, ◌++◌, map, refl, sym, ap, ◌∙◌}
use Rattle.std.specs.Prelude.{Result, Ok, Err, OnOk}
use Rattle.std.proofs.lemmas.List.{map_push}
use Rattle.std.specs.declared.snapshot.Snapshot.{Snapshot}
use Rattle.solo_base.specs.declared.outcome.Side.{Side}
use Rattle.solo_base.specs.declared.outcome.Side.TheVariants.{Sender, Receiver}
use Rattle.solo_base.specs.declared.page.Page.{Page}
use Rattle.queue_var.specs.Sides.{MayEnter, MayStop, has_stopped}
use Rattle.queue_var.specs.BetweenTwo.{process_at, calls_of}
use Rattle.queue_var.proofs.BetweenTwo.{may-stop, may-resume}
use Rattle.monitor_gate.specs.Steps.{Found}
use Rattle.solo_devices.specs.Area.{ReadsFrom, Writes, CountsFaults}
use Rattle.solo_devices.specs.declared.area.Moved.{Moved}
use Rattle.disk_spool.specs.declared.answers.Await.{Await}
use Rattle.disk_spool.specs.declared.answers.Fetched.{Fetched}
use Rattle.disk_spool.specs.declared.call.SpoolCall.{SpoolCall}
use Rattle.disk_spool.specs.Ring.{next_place}
use Rattle.disk_spool.specs.Spool.{Spool, mark, moved, AnswersFirst, after_await, after_put, after_take, after_stop}
use Rattle.disk_spool.specs.Calls.{IsTied, Awaits, MayMove, Puts, Takes, Stops, await_answer, has_stop, is_ready, is_await, ready_after, handed_to, is_waiting, value}
use Rattle.monitor_gate.specs.Ends.{PassView}
use Rattle.monitor_gate.specs.Calls.{HasCalled, calls_in}
use Rattle.disk_spool.specs.declared.answers.Ended.{Ended}
use Rattle.disk_spool.specs.Ends.{Finds, await_call}

module _ {A : Type 0} (told_by : A → Option (List (List ℕ))) (faults : A → ℕ) where
  -- what the gate gives to the process of a side
  pub finds : (side : Side) (opening : Spool A) (number : ℕ) (entries own : List (SpoolCall (Snapshot Page))) (state : Spool A)
      → Found (λ (opening state : Spool A) lists. IsTied told_by faults opening.ring.capacity opening.area (calls_of value lists) state) opening number entries state → number ≡ process_at side → entries ≡ own → Finds told_by faults opening.area side (map value own) state
  finds side opening number entries own state found is same = record {
    calls = calls_of value found.lists;
    own_calls = ap (map value) (ap found.lists (sym is) ∙ found.mine ∙ same);
    room = opening.ring.capacity;
    tied = found.tied;
  }

  module _ (opening : A) (side : Side) (own : List (SpoolCall (List ℕ))) (number : ℕ) (state : Spool A) (found : Finds told_by faults opening side own state) (is : number ≡ process_at side) where
    runs : has_stop own ≡ false → has_stopped state.sides side ≡ false
    runs none = found.tied.sides.stopped side ∙ ap has_stop found.own_calls ∙ none

    -- A process that enters finds the turn free, and nobody in the queue of its side.
    pub lets_in : handed_to state ≡ None → is_waiting number state ≡ false → MayStop state.sides side
    lets_in free out = may-stop state.sides side found.tied.sides.between found.tied.stands.marks.waits.named free (rw (sym is) out)

    pub enters : handed_to state ≡ None → is_waiting number state ≡ false → has_stop own ≡ false → MayEnter state.sides side (process_at side) × (has_stopped state.sides side ≡ false)
    enters free out none = (inl (lets_in free out), runs none)

    pub resumes : handed_to state ≡ Some number → has_stop own ≡ false → MayEnter state.sides side (process_at side) × (has_stopped state.sides side ≡ false)
    resumes handed none = (inr (may-resume state.sides side found.tied.sides.between (handed ∙ ap Some is)), runs none)

    -- It finds what its latest await found.
    pub may_move : handed_to state ≡ None → is_waiting number state ≡ false → has_stop own ≡ false → is_ready own ≡ true → MayMove number state side
    may_move free out none ready = record {
      process = is;
      may = lets_in free out;
      not_stopped = runs none;
      has = found.tied.ready side (ap is_ready found.own_calls ∙ ready);
    }

  -- the entries, as the monitor answered them
  pub awaits : (side : Side) (number : ℕ) (state now after : Spool A) (answer : Await) → number ≡ process_at side → now ≡ state → MayEnter state.sides side (process_at side) × (has_stopped state.sides side ≡ false)
      → answer ≡ await_answer side now → after ≡ after_await now side (process_at side) answer → Awaits number state side answer after
  awaits side number state now after answer is same may given then = rw is record { process = refl; may_enter = may.0; not_stopped = may.1; answer_is = rw (sym same) given; after_is = rw (sym same) then }

  pub stops : (side : Side) (number : ℕ) (state now after : Spool A) → number ≡ process_at side → now ≡ state → MayStop state.sides side → after ≡ after_stop now side → Stops number state side after
  stops side number state now after is same may then = record { process = is; may_stop = may; after_is = rw (sym same) then }

  module _ (number number' : ℕ) (state now after : Spool A) (page seen : List ℕ) (same_number : number' ≡ number) (same : now ≡ state) (seen_is : seen ≡ page) where
    pub puts : (answer : Moved) → MayMove number state Sender → Writes (told_by now.area) (told_by after.area) (next_place now.ring) answer page → CountsFaults (faults now.area) (faults after.area) answer
        → after ≡ after_put now after.area (mark page) answer → Puts told_by faults number' state seen answer after
    puts answer may area cause then = rw (same_number, seen_is, sym same) record { may = rw same may; area = area; cause = cause; after_is = then }

    pub takes : (answer : Fetched) → MayMove number state Receiver → ReadsFrom (told_by now.area) (told_by after.area) now.ring.first (moved answer) page → CountsFaults (faults now.area) (faults after.area) (moved answer)
        → AnswersFirst now.ring.marks answer → after ≡ after_take now after.area answer → Takes told_by faults number' state seen answer after
    takes answer may area cause last then = rw (same_number, seen_is, sym same) record { may = rw same may; area = area; cause = cause; last = last; after_is = then }

ready-push : (ready : Bool) (calls : List (SpoolCall (List ℕ))) (call : SpoolCall (List ℕ)) → ready_after ready (calls ++ call ∷ []) ≡ is_await call
ready-push ready [] call = refl
ready-push ready (first ∷ later) call = ready-push (is_await first) later call

-- where an await gave Ok, it is the latest call, and found what it wanted
pub ready-given : {S : Type 0} (side : Side) (old new : PassView S (SpoolCall (Snapshot Page))) (result : Result (Unit {0}) Ended) → HasCalled value old new (await_call side result) → OnOk result (is_ready (calls_in value new) ≡ true)
ready-given side old new result called = given result (calls_in value old) (calls_in value new) side
    (ap (calls_in value) called.left_is ∙ map_push value old.view.entries called.entry ∙ ap (λ call. calls_in value old ++ call ∷ []) called.call_is) where
      given : (result : Result (Unit {0}) Ended) (own calls : List (SpoolCall (List ℕ))) (side : Side) → calls ≡ own ++ await_call side result ∷ [] → OnOk result (is_ready calls ≡ true)
      given (Ok ready) own calls side is = ap is_ready is ∙ ready-push false own (await_call side (Ok ready))
      given (Err ended) own calls side is = tt
