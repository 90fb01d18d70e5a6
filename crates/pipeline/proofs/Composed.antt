-- What follows where the processes at a buffer have met.
use Rattle.std.proofs.Common.{◌≡◌, Bool, true, false, Option, Some, option_to_list, Result, Ok, Err, List, [], refl, sym, ap, ◌∙◌}
use Rattle.std.specs.Prelude.{OnOk, OnErr, IfErr}
use Rattle.solo_base.specs.declared.no_memory.NoMemory.{NoMemory}
use Rattle.solo_base.specs.declared.outcome.Side.{Side}
use Rattle.solo_base.specs.declared.outcome.Side.TheVariants.{Sender, Receiver}
use Rattle.queue_var.specs.BetweenTwo.{by_side}
use Rattle.slot_buffer.specs.declared.call.SlotCall.{SlotCall}
use Rattle.slot_buffer.specs.Calls.{has_stop, sent_of, taken_of, was_refused}
use Rattle.slot_buffer.specs.Ends.{Meets}
use Rattle.pipeline.specs.declared.cause.Cause.{Cause}
use Rattle.pipeline.specs.declared.cause.Cause.TheVariants as cause
use Rattle.pipeline.specs.declared.cause.Failed.{Failed}
use Rattle.pipeline.specs.declared.parcel.Parcel.{Parcel}
use Rattle.pipeline.specs.First.{IsFirst}
use Rattle.pipeline.specs.Came.{CameThrough, IsTold, as_memory}
use Rattle.pipeline.specs.Rows.{items, whole, Worked, Fed, Comes, with_stage, with_source}
use Rattle.pipeline.proofs.Parts.{first_of_first, none_first}

-- ---- at a buffer whose ends have met
module _ {T : Type 0} (sender receiver : List (SlotCall T)) (rest : Option T) (by : Option Side) (met : Meets (by_side sender receiver) rest by) where
  pub met_first : IsFirst (taken_of receiver) (sent_of sender)
  met_first = record { later = option_to_list rest; all_are = sym met.in_order }

  -- a sender whose receiver stopped nothing was told nothing, and the other way round
  pub sender_heard : has_stop receiver ≡ false → was_refused sender ≡ false
  sender_heard runs = unheard (was_refused sender) refl
    where
      unheard : (told : Bool) → was_refused sender ≡ told → told ≡ false
      unheard false is = refl
      unheard true is = let did = met.stopped.did Receiver (met.stopped.told Sender is) in absurd cc

  pub receiver_heard : has_stop sender ≡ false → was_refused receiver ≡ false
  receiver_heard runs = unheard (was_refused receiver) refl
    where
      unheard : (told : Bool) → was_refused receiver ≡ told → told ≡ false
      unheard false is = refl
      unheard true is = let did = met.stopped.did Sender (met.stopped.told Receiver is) in absurd cc

-- ---- how two parts end together
pub both_ok : {P Q R : Type 0} (stage : Result (Unit {0}) NoMemory) (behind : Result (Unit {0}) Cause) → OnOk stage P → OnOk behind Q → (P → Q → R) → OnOk (with_stage stage behind) R
both_ok (Ok done) (Ok all) p q so = so p q
both_ok (Ok done) (Err cause) p q so = tt
both_ok (Err lacks) behind p q so = tt

pub behind_told : (X : Type 0) (stage : Result (Unit {0}) NoMemory) (behind ended : Result (Unit {0}) Cause) → ended ≡ with_stage stage behind → IfErr behind (IsTold ⊥ X) → IfErr ended (IsTold ⊥ X)
behind_told X (Ok done) behind ended is told = rw is told
behind_told X (Err lacks) behind ended is told = rw is tt

pub source_ok : {P Q R : Type 0} (source : Result (Unit {0}) Failed) (behind : Result (Unit {0}) Cause) → OnOk source P → OnOk behind Q → (P → Q → R) → OnOk (with_source source behind) R
source_ok (Ok done) (Ok all) p q so = so p q
source_ok (Ok done) (Err cause) p q so = tt
source_ok (Err failed) behind p q so = tt

either_told : (X Y : Type 0) (cause : Cause) → IsTold ⊥ Y cause → IsTold X Y cause
either_told X Y cause.NoMemory told = tt
either_told X Y cause.NoThread told = tt
either_told X Y cause.Source told = absurd told
either_told X Y cause.Sink told = told

pub ends_told : (X Y : Type 0) (source : Result (Unit {0}) Failed) (behind ended : Result (Unit {0}) Cause) → ended ≡ with_source source behind → OnErr source X → IfErr behind (IsTold ⊥ Y)
    → IfErr ended (IsTold X Y)
ends_told X Y (Ok done) (Ok all) ended is failed told = rw is tt
ends_told X Y (Ok done) (Err cause) ended is failed told = rw is (either_told X Y cause told)
ends_told X Y (Err fault) behind ended is failed told = rw is failed

-- ---- a stage, and those behind it
pub comes_then : {I M O : Type 0} (gives : List I → List M) (again : List M → List O) (taker : List (SlotCall (Parcel I))) (putter receiver : List (SlotCall (Parcel M)))
    (rest : Option (Parcel M)) (by : Option Side) (out : List O) (stage : Result (Unit {0}) NoMemory) (behind ended : Result (Unit {0}) Cause) → ended ≡ with_stage stage behind
    → Worked gives taker putter stage → Meets (by_side putter receiver) rest by → Comes again receiver out behind → Comes (λ xs. again (gives xs)) taker out ended
comes_then {I = I} {M = M} gives again taker putter receiver rest by out stage behind ended is worked met comes =
    let first = met_first putter receiver rest by met in record {
      first = λ all f. comes.first (gives all) (first_of_first (taken_of receiver) (sent_of putter) (whole (gives all)) first (worked.leads all f));
      heeds = rw is (both_ok stage behind worked.heeds comes.heeds (λ heeds runs. heeds (sender_heard putter receiver rest by met runs)));
      all = rw is (all_ok stage behind worked.goes_on comes.heeds comes.all);
    }
  where
    all_ok : (stage : Result (Unit {0}) NoMemory) (behind : Result (Unit {0}) Cause) → OnOk stage (was_refused putter ≡ false → was_refused taker ≡ false → has_stop putter ≡ false)
        → OnOk behind (has_stop receiver ≡ false) → OnOk behind (was_refused receiver ≡ false → (all : List M) → IsFirst (taken_of receiver) (whole all) → out ≡ again all)
        → OnOk (with_stage stage behind) (was_refused taker ≡ false → (all : List I) → IsFirst (taken_of taker) (whole all) → out ≡ again (gives all))
    all_ok (Ok done) (Ok all) goes_on runs came = λ unheard every f.
        came (receiver_heard putter receiver rest by met (goes_on (sender_heard putter receiver rest by met runs) unheard)) (gives every)
        (first_of_first (taken_of receiver) (sent_of putter) (whole (gives every)) (met_first putter receiver rest by met) (worked.leads every f))
    all_ok (Ok done) (Err cause) goes_on runs came = tt
    all_ok (Err lacks) behind goes_on runs came = tt

-- something was refused
pub comes_nothing : {I O C : Type 0} (gives : List I → List O) (taker : List (SlotCall (Parcel I))) (out : List O) (ended : Result (Unit {0}) C) (cause : C) → out ≡ [] → ended ≡ Err cause
    → Comes gives taker out ended
comes_nothing gives taker out ended cause none broke = rw (none, broke) (record { first = λ all f. none_first (gives all); heeds = tt; all = tt })

-- ---- the first process, and those behind it
pub came_through : {I O : Type 0} (gives : List I → List O) (tells : Option (List I)) (gave : List I) (putter taker : List (SlotCall (Parcel I))) (rest : Option (Parcel I)) (by : Option Side)
    (out : List O) (source : Result (Unit {0}) Failed) (behind ended : Result (Unit {0}) Cause) → ended ≡ with_source source behind
    → Fed tells gave putter source → Meets (by_side putter taker) rest by → Comes gives taker out behind → CameThrough gives tells gave out ended
came_through {I = I} gives tells gave putter taker rest by out source behind ended is fed met comes =
    let first = met_first putter taker rest by met in record {
      first = comes.first gave (first_of_first (taken_of taker) (sent_of putter) (whole gave) first fed.first);
      told = λ all tell. comes.first all (first_of_first (taken_of taker) (sent_of putter) (whole all) first (fed.told all tell));
      all = rw is (all_ok source behind fed.goes_on comes.all);
      over = rw is (source_ok source behind fed.over comes.heeds (λ over runs. over (sender_heard putter taker rest by met runs)));
    }
  where
    all_ok : (source : Result (Unit {0}) Failed) (behind : Result (Unit {0}) Cause) → OnOk source (has_stop putter ≡ false)
        → OnOk behind (was_refused taker ≡ false → (all : List I) → IsFirst (taken_of taker) (whole all) → out ≡ gives all) → OnOk (with_source source behind) (out ≡ gives gave)
    all_ok (Ok done) (Ok all) runs came = came (receiver_heard putter taker rest by met runs) gave (first_of_first (taken_of taker) (sent_of putter) (whole gave) (met_first putter taker rest by met) fed.first)
    all_ok (Ok done) (Err cause) runs came = tt
    all_ok (Err fault) behind runs came = tt

pub nothing_came : {I O C : Type 0} (gives : List I → List O) (tells : Option (List I)) (gave : List I) (out : List O) (ended : Result (Unit {0}) C) (cause : C) → out ≡ [] → ended ≡ Err cause
    → CameThrough gives tells gave out ended
nothing_came gives tells gave out ended cause none broke =
    rw (none, broke) (record { first = none_first (gives gave); told = λ all tell. none_first (gives all); all = tt; over = tt })

-- ---- a run of items that are there, into a vector
module _ {I O : Type 0} (gives : List I → List O) (given gave : List I) (out items : List O) (ended : Result (Unit {0}) Cause) (same : items ≡ out) (tells : Option (List I)) (told : tells ≡ Some given)
    (came : CameThrough gives tells gave out ended) where
  pub vector_first : IsFirst items (gives given)
  vector_first = rw same (came.told given told)

  pub vector_all : (now : Result (Unit {0}) Cause) → now ≡ as_memory ended → OnOk now (items ≡ gives given)
  vector_all now is = rw is (all_ok ended came.all came.over)
    where
      all_ok : (ended : Result (Unit {0}) Cause) → OnOk ended (out ≡ gives gave) → OnOk ended ((all : List I) → tells ≡ Some all → gave ≡ all) → OnOk (as_memory ended) (items ≡ gives given)
      all_ok (Ok done) all over = same ∙ all ∙ ap gives (over given told)
      all_ok (Err cause.Sink) all over = tt
      all_ok (Err cause.NoMemory) all over = tt
      all_ok (Err cause.NoThread) all over = tt
      all_ok (Err cause.Source) all over = tt
