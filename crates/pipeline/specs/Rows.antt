-- What the processes of a pipeline did, by their calls at the buffers.
use Rattle.std.specs.Prelude.{◌≡◌, false, Option, Some, Result, Ok, Err, OnOk, List, [], ◌∷◌, ◌++◌}
use Rattle.slot_buffer.specs.declared.call.SlotCall.{SlotCall}
use Rattle.slot_buffer.specs.Calls.{has_stop, sent_of, taken_of, was_refused}
use Rattle.solo_base.specs.declared.no_memory.NoMemory.{NoMemory}
use Rattle.pipeline.specs.declared.cause.Cause.{Cause}
use Rattle.pipeline.specs.declared.cause.Cause.TheVariants as cause
use Rattle.pipeline.specs.declared.cause.Failed.{Failed}
use Rattle.pipeline.specs.declared.parcel.Parcel.{Parcel}
use Rattle.pipeline.specs.declared.parcel.Parcel.TheVariants.{Item, End}
use Rattle.pipeline.specs.First.{IsFirst}

-- these items
abbrev pub items : {T : Type 0} → List T → List (Parcel T)
items [] = []
items (x ∷ xs) = Item x ∷ items xs

-- these items, and that no more come
abbrev pub whole : {T : Type 0} → List T → List (Parcel T)
whole [] = End ∷ []
whole (x ∷ xs) = Item x ∷ whole xs

-- ---- one process
-- Of whatever the first part is that was taken, what was sent is a first part of what is given of the whole.
abbrev pub Leads : {I O : Type 0} → (List I → List O) → List (Parcel I) → List (Parcel O) → Type 0
Leads gives taken sent = (all : _) → IsFirst taken (whole all) → IsFirst sent (whole (gives all))

-- A stage between its two buffers. Where no memory was refused to it, it stopped the buffer in front only if
-- it was told of a stop behind, and the one behind only if it was told of a stop at either.
pub record Worked {I O E : Type 0} (gives : List I → List O) (taker : List (SlotCall (Parcel I)))
    (putter : List (SlotCall (Parcel O))) (ended : Result (Unit {0}) E) : Type 0 where
  pub leads : Leads gives (taken_of taker) (sent_of putter)
  pub heeds : OnOk ended (was_refused putter ≡ false → has_stop taker ≡ false)
  pub goes_on : OnOk ended (was_refused putter ≡ false → was_refused taker ≡ false → has_stop putter ≡ false)

-- The first process, over a source that gave these, and tells those. Where the source didn't fail, it stopped
-- nothing, and unless it was told of a stop it gave all.
pub record Fed {I F : Type 0} (tells : Option (List I)) (gave : List I) (putter : List (SlotCall (Parcel I)))
    (ended : Result (Unit {0}) F) : Type 0 where
  pub first : IsFirst (sent_of putter) (whole gave)
  pub told : (all : List I) → tells ≡ Some all → IsFirst (sent_of putter) (whole all)
  pub goes_on : OnOk ended (has_stop putter ≡ false)
  pub over : OnOk ended (was_refused putter ≡ false → (all : List I) → tells ≡ Some all → gave ≡ all)

-- All processes behind a buffer. Of whatever the first part is that was taken there, what came out is a first
-- part of what is given of the whole. Where nothing was in the way they stopped nothing, and unless they were
-- told of a stop all came.
pub record Comes {I O C : Type 0} (gives : List I → List O) (taker : List (SlotCall (Parcel I)))
    (out : List O) (ended : Result (Unit {0}) C) : Type 0 where
  pub first : (all : List I) → IsFirst (taken_of taker) (whole all) → IsFirst out (gives all)
  pub heeds : OnOk ended (has_stop taker ≡ false)
  pub all : OnOk ended (was_refused taker ≡ false → (all : List I) → IsFirst (taken_of taker) (whole all)
      → out ≡ gives all)

-- how a stage ended, and those behind it
abbrev pub with_stage : Result (Unit {0}) NoMemory → Result (Unit {0}) Cause → Result (Unit {0}) Cause
with_stage (Ok done) behind = behind
with_stage (Err lacks) behind = Err cause.NoMemory

-- how the first process ended, and those behind it
abbrev pub with_source : Result (Unit {0}) Failed → Result (Unit {0}) Cause → Result (Unit {0}) Cause
with_source (Ok done) behind = behind
with_source (Err failed) behind = Err cause.Source

-- ---- a stage on its way
-- It took these items and gave those; of what it takes from here on it gives what is left.
pub record Goes {I O : Type 0} (gives left : List I → List O) (taken : List (Parcel I))
    (sent : List (Parcel O)) : Type 0 where
  pub took : List I
  pub gave : List O
  pub taken_is : taken ≡ items took
  pub sent_is : sent ≡ items gave
  pub ahead : (later : List I) → gives (took ++ later) ≡ gave ++ left later

-- It took all items and gave those; what it has still to give is what is left.
pub record Closes {I O : Type 0} (gives : List I → List O) (left : List O) (taken : List (Parcel I))
    (sent : List (Parcel O)) : Type 0 where
  pub took : List I
  pub gave : List O
  pub taken_is : taken ≡ whole took
  pub sent_is : sent ≡ items gave
  pub ahead : gives took ≡ gave ++ left

-- Of these items to give it put a first part behind what it had put before, and these rest.
pub record Gave {T : Type 0} (outs rest : List T) (before after : List (Parcel T)) : Type 0 where
  pub part : List T
  pub are : outs ≡ part ++ rest
  pub sent : after ≡ before ++ items part
