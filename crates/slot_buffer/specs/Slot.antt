-- What a one-slot buffer answers, and how it stands afterwards.
use Rattle.std.specs.Prelude.{ℕ, Option, Some, List, [], ◌∷◌, ◌++◌, drop}
use Rattle.solo_base.specs.declared.outcome.Side.{Side}
use Rattle.solo_base.specs.declared.outcome.Side.TheVariants.{Sender, Receiver}
use Rattle.queue_var.specs.Sides.{Sides, stopped_by, entered, delayed, continued, stopped, other}
use Rattle.queue_var.specs.HandsOver.{HandsOver, StoppedFirst}
use Rattle.slot_buffer.specs.declared.answers.Put.{Put}
use Rattle.slot_buffer.specs.declared.answers.Take.{Take}

-- what is inside, at most one item, and its two sides
pub record Slot (T : Type 0) : Type 0 where
  pub inside : List T
  pub sides : Sides

-- What was put, what was taken, and which sides have stopped, in order: the buffer stands where it does
-- after them.
pub record StandsFor {T : Type 0} (sent taken : List T) (stops : List Side) (slot : Slot T) : Type 0 where
  pub hands_over : HandsOver 1 sent taken slot.inside slot.sides
  pub stopped_first : StoppedFirst stops slot.sides.stops

-- by who stopped first, and by what is inside
abbrev pub put_by : {T : Type 0} → Option Side → List T → T → Put T
put_by (Some Receiver) inside item = Put.Stopped item
put_by by [] item = Put.Done
put_by by (held ∷ more) item = Put.Delayed item

abbrev pub put_answer : {T : Type 0} → Slot T → T → Put T
put_answer slot item = put_by (stopped_by slot.sides) slot.inside item

abbrev pub after_put : {T : Type 0} → Slot T → ℕ → T → Put T → Slot T
after_put slot p item Put.Done = record { inside = slot.inside ++ item ∷ []; sides = continued (entered slot.sides Sender) Receiver }
after_put slot p item (Put.Delayed back) = record { inside = slot.inside; sides = delayed (entered slot.sides Sender) Sender p }
after_put slot p item (Put.Stopped back) = record { inside = slot.inside; sides = entered slot.sides Sender }

-- what was sent, with this put
abbrev pub sent_with : {T : Type 0} → List T → T → Put T → List T
sent_with sent item Put.Done = sent ++ item ∷ []
sent_with sent item (Put.Delayed back) = sent
sent_with sent item (Put.Stopped back) = sent

abbrev pub take_by : {T : Type 0} → Option Side → List T → Take T
take_by by (item ∷ more) = Take.Item item
take_by (Some Sender) [] = Take.Stopped
take_by by [] = Take.Delayed

abbrev pub take_answer : {T : Type 0} → Slot T → Take T
take_answer slot = take_by (stopped_by slot.sides) slot.inside

abbrev pub after_take : {T : Type 0} → Slot T → ℕ → Take T → Slot T
after_take slot p (Take.Item item) = record { inside = drop 1 slot.inside; sides = continued (entered slot.sides Receiver) Sender }
after_take slot p Take.Delayed = record { inside = slot.inside; sides = delayed (entered slot.sides Receiver) Receiver p }
after_take slot p Take.Stopped = record { inside = slot.inside; sides = entered slot.sides Receiver }

abbrev pub taken_with : {T : Type 0} → List T → Take T → List T
taken_with taken (Take.Item item) = taken ++ item ∷ []
taken_with taken Take.Delayed = taken
taken_with taken Take.Stopped = taken

abbrev pub after_stop : {T : Type 0} → Slot T → Side → Slot T
after_stop slot side = record { inside = slot.inside; sides = continued (stopped slot.sides side) (other side) }
