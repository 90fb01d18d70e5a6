-- The calls of a running buffer, and what they have to do with its state.
use Rattle.std.specs.Prelude.{◌≡◌, ℕ, Bool, true, false, Option, List, [], ◌∷◌, ◌++◌}
use Rattle.std.specs.List.{flat_map, list_any}
use Rattle.std.specs.declared.snapshot.Snapshot.{Snapshot}
use Rattle.solo_base.specs.declared.outcome.Side.{Side}
use Rattle.solo_base.specs.declared.outcome.Side.TheVariants.{Sender, Receiver}
use Rattle.queue_var.specs.Sides.{MayEnter, MayStop, has_stopped}
use Rattle.queue_var.specs.HandsOver.{Lacks}
use Rattle.queue_var.specs.BetweenTwo as two
use Rattle.queue_var.specs.BetweenTwo.{IsTiedToCalls, process_at}
use Rattle.slot_buffer.specs.declared.answers.Put.{Put}
use Rattle.slot_buffer.specs.declared.answers.Take.{Take}
use Rattle.slot_buffer.specs.declared.call.SlotCall.{SlotCall}
use Rattle.slot_buffer.specs.declared.call.SlotCall.TheVariants as call
use Rattle.slot_buffer.specs.Slot.{Slot, StandsFor, put_answer, after_put, take_answer, after_take, after_stop}

-- ---- what the calls of an end were
-- the item that a call put, if any
abbrev pub item_put : {T : Type 0} → SlotCall T → List T
item_put (call.Put item) = item ∷ []
item_put _ = []

-- the item that a call took, if any
abbrev pub item_taken : {T : Type 0} → SlotCall T → List T
item_taken (call.Take item) = item ∷ []
item_taken _ = []

abbrev pub is_stop : {T : Type 0} → SlotCall T → Bool
is_stop (call.Stop side) = true
is_stop _ = false

-- the call was told that the other side had stopped first
abbrev pub is_refusal : {T : Type 0} → SlotCall T → Bool
is_refusal (call.PutRefused item) = true
is_refusal call.TakeRefused = true
is_refusal _ = false

-- the items that these calls put, the oldest first
abbrev pub sent_of : {T : Type 0} → List (SlotCall T) → List T
sent_of calls = flat_map item_put calls

-- the items that these calls took, the oldest first
abbrev pub taken_of : {T : Type 0} → List (SlotCall T) → List T
taken_of calls = flat_map item_taken calls

abbrev pub has_stop : {T : Type 0} → List (SlotCall T) → Bool
has_stop calls = list_any is_stop calls

abbrev pub was_refused : {T : Type 0} → List (SlotCall T) → Bool
was_refused calls = list_any is_refusal calls

-- The receiver took until it was told that no more comes.
abbrev pub TookAll : {T : Type 0} → List (SlotCall T) → Type 0
TookAll calls = (was_refused calls ≡ true) × (has_stop calls ≡ false)

-- The sender put all of these items behind those of before, and then stopped.
abbrev pub PutAll : {T : Type 0} → List T → List (SlotCall T) → List (SlotCall T) → Type 0
PutAll items before after = (sent_of after ≡ sent_of before ++ items) × (has_stop after ≡ true)

-- It put the first of these items, behind those of before.
pub record PutFirst {T : Type 0} (items : List T) (before after : List (SlotCall T)) : Type 0 where
  pub put : List T
  pub later : List T
  pub first_are : items ≡ put ++ later
  pub sent : sent_of after ≡ sent_of before ++ put

-- ---- the tie
-- The buffer stands where it does after the calls of both ends: what was taken, and then what is inside, is what
-- was put; who stopped first is known, and only the other end was told so, the receiver only where nothing was left.
pub record IsTied {T : Type 0} (calls : Side → List (SlotCall T)) (state : Slot T) : Type 0 where
  pub stops : List Side
  pub stands : StandsFor (sent_of (calls Sender)) (taken_of (calls Receiver)) stops state
  pub sides : IsTiedToCalls (λ side. has_stop (calls side)) (λ side. was_refused (calls side)) state.sides
  pub nothing_left : was_refused (calls Receiver) ≡ true → state.inside ≡ []

-- ---- the queues and the turn
abbrev pub handed_to : {T : Type 0} → Slot T → Option ℕ
handed_to state = two.handed_to state.sides

abbrev pub is_waiting : {T : Type 0} → ℕ → Slot T → Bool
is_waiting p state = two.is_waiting p state.sides

-- The turn is handed to the process, and there is room for it, or an item, or the other side stopped first.
abbrev pub IsWoken : {T : Type 0} → ℕ → Slot T → Type 0
IsWoken p state = two.IsWoken (Lacks 1 state.inside) p state.sides

-- ---- the entries
-- a put of the sender, with its answer
pub record Puts {T : Type 0} (p : ℕ) (before : Slot T) (item : T) (answer : Put T) (after : Slot T) : Type 0 where
  pub process : p ≡ 1
  pub may_enter : MayEnter before.sides Sender p
  pub not_stopped : has_stopped before.sides Sender ≡ false
  pub answer_is : answer ≡ put_answer before item
  pub after_is : after ≡ after_put before p item answer

-- a take of the receiver, with its answer
pub record Takes {T : Type 0} (p : ℕ) (before : Slot T) (answer : Take T) (after : Slot T) : Type 0 where
  pub process : p ≡ 2
  pub may_enter : MayEnter before.sides Receiver p
  pub not_stopped : has_stopped before.sides Receiver ≡ false
  pub answer_is : answer ≡ take_answer before
  pub after_is : after ≡ after_take before p answer

-- a stop of a side
pub record Stops {T : Type 0} (p : ℕ) (before : Slot T) (side : Side) (after : Slot T) : Type 0 where
  pub process : p ≡ process_at side
  pub may_stop : MayStop before.sides side
  pub after_is : after ≡ after_stop before side

-- an entry of the process that completes this call leads from the one state to the other
abbrev pub Moves : {T : Type 0} → ℕ → Slot T → SlotCall T → Slot T → Type 0
Moves p before (call.Put item) after = Puts p before item Put.Done after
Moves p before (call.PutRefused item) after = Puts p before item (Put.Stopped item) after
Moves p before (call.Take item) after = Takes p before (Take.Item item) after
Moves p before call.TakeRefused after = Takes p before Take.Stopped after
Moves p before (call.Stop side) after = Stops p before side after

-- an entry of the process that ends in a delay leads from the one state to the other
pub data Rests {T : Type 0} (p : ℕ) (before after : Slot T) : Type 0 where
  put_rests : (item : T) → Puts p before item (Put.Delayed item) after → Rests p before after
  take_rests : Takes p before Take.Delayed after → Rests p before after

-- ---- as contracts see them
-- a call, with the items that it spoke of
abbrev pub value : {T : Type 0} → SlotCall (Snapshot T) → SlotCall T
value (call.Put item) = call.Put item.value
value (call.PutRefused item) = call.PutRefused item.value
value (call.Take item) = call.Take item.value
value call.TakeRefused = call.TakeRefused
value (call.Stop side) = call.Stop side
