-- Each entry of a one-slot buffer keeps its history.
use Rattle.std.proofs.Common.{◌≡◌, ℕ, Option, None, Some, false, List, [], ◌∷◌, ◌++◌, refl, sym, ◌∙◌, ap, append_assoc, append-nil, lit≤, arith}
use Rattle.solo_base.specs.declared.outcome.Side.{Side}
use Rattle.solo_base.specs.declared.outcome.Side.TheVariants.{Sender, Receiver}
use Rattle.queue_var.specs.Sides.{Sides, MayEnter, queue, stopped_by, has_stopped, entered, stopped}
use Rattle.queue_var.specs.HandsOver.{HandsOver, StoppedFirst, Lacks}
use Rattle.queue_var.proofs.Waits.{waits-turned_away, waits-delayed, waits-continued, stops-more, not_first}
use Rattle.slot_buffer.specs.declared.answers.Put.{Put}
use Rattle.slot_buffer.specs.declared.answers.Take.{Take}
use Rattle.slot_buffer.specs.Slot.{Slot, StandsFor, put_by, put_answer, after_put, sent_with, take_by, take_answer, after_take, taken_with, after_stop}

put_into : {T : Type 0} (sent taken : List T) (stops : List Side) (inside : List T) (sides : Sides) (by : Option Side) (p : ℕ) (item : T) → stopped_by sides ≡ by → MayEnter sides Sender p → has_stopped sides Sender ≡ false → HandsOver 1 sent taken inside sides → StoppedFirst stops sides.stops → StandsFor (sent_with sent item (put_by by inside item)) taken stops (after_put record { inside = inside; sides = sides } p item (put_by by inside item))
put_into sent taken stops inside sides (Some Receiver) p item is may not_yet h s =
    record { hands_over = record { in_order = h.in_order; within = h.within; waits = waits-turned_away (Lacks 1 inside) (Lacks 1 inside) sides Sender p Receiver may h.waits is }; stopped_first = s }
put_into sent taken stops inside sides (Some Sender) p item is may not_yet h s = absurd (not_first sides.stops Sender not_yet is)
put_into sent taken stops [] sides None p item is may not_yet h s =
    record { hands_over = record { in_order = ap (λ xs. xs ++ item ∷ []) (sym (append-nil taken) ∙ h.in_order); within = lit≤ tt; waits = waits-continued (Lacks 1 (item ∷ [])) (entered sides Sender) Sender refl }; stopped_first = s }
put_into sent taken stops (held ∷ more) sides None p item is may not_yet h s =
    record { hands_over = record { in_order = h.in_order; within = h.within; waits = waits-delayed (Lacks 1 (held ∷ more)) sides Sender p may h.waits (let within = h.within in omega arith) is }; stopped_first = s }

-- what a put does to the history that a buffer stood for
pub put-stands : {T : Type 0} (slot new : Slot T) (p : ℕ) (item : T) (answer : Put T) → MayEnter slot.sides Sender p → has_stopped slot.sides Sender ≡ false → answer ≡ put_answer slot item → new ≡ after_put slot p item answer → (sent taken : List T) (stops : List Side) → StandsFor sent taken stops slot → StandsFor (sent_with sent item answer) taken stops new
put-stands slot new p item answer may not_yet a n sent taken stops h =
    rw (n, a) (put_into sent taken stops slot.inside slot.sides (stopped_by slot.sides) p item refl may not_yet h.hands_over h.stopped_first)

take_from : {T : Type 0} (sent taken : List T) (stops : List Side) (inside : List T) (sides : Sides) (by : Option Side) (p : ℕ) → stopped_by sides ≡ by → MayEnter sides Receiver p → has_stopped sides Receiver ≡ false → HandsOver 1 sent taken inside sides → StoppedFirst stops sides.stops → StandsFor sent (taken_with taken (take_by by inside)) stops (after_take record { inside = inside; sides = sides } p (take_by by inside))
take_from sent taken stops (item ∷ more) sides by p is may not_yet h s =
    record { hands_over = record { in_order = append_assoc taken (item ∷ []) more ∙ h.in_order; within = let within = h.within in omega arith; waits = waits-continued (Lacks 1 more) (entered sides Receiver) Receiver refl }; stopped_first = s }
take_from sent taken stops [] sides (Some Sender) p is may not_yet h s =
    record { hands_over = record { in_order = h.in_order; within = h.within; waits = waits-turned_away (Lacks 1 []) (Lacks 1 []) sides Receiver p Sender may h.waits is }; stopped_first = s }
take_from sent taken stops [] sides (Some Receiver) p is may not_yet h s = absurd (not_first sides.stops Receiver not_yet is)
take_from sent taken stops [] sides None p is may not_yet h s =
    record { hands_over = record { in_order = h.in_order; within = h.within; waits = waits-delayed (Lacks 1 []) sides Receiver p may h.waits refl is }; stopped_first = s }

-- what a take does to it
pub take-stands : {T : Type 0} (slot new : Slot T) (p : ℕ) (answer : Take T) → MayEnter slot.sides Receiver p → has_stopped slot.sides Receiver ≡ false → answer ≡ take_answer slot → new ≡ after_take slot p answer → (sent taken : List T) (stops : List Side) → StandsFor sent taken stops slot → StandsFor sent (taken_with taken answer) stops new
take-stands slot new p answer may not_yet a n sent taken stops h =
    rw (n, a) (take_from sent taken stops slot.inside slot.sides (stopped_by slot.sides) p refl may not_yet h.hands_over h.stopped_first)

-- what a stop does to it
pub stop-stands : {T : Type 0} (slot new : Slot T) (side : Side) → queue slot.sides side ≡ None → new ≡ after_stop slot side → (sent taken : List T) (stops : List Side) → StandsFor sent taken stops slot → StandsFor sent taken (stops ++ side ∷ []) new
stop-stands slot new side none n sent taken stops h =
    rw n
    record {
      hands_over = record { in_order = h.hands_over.in_order; within = h.hands_over.within; waits = waits-continued (Lacks 1 slot.inside) (stopped slot.sides side) side none };
      stopped_first = stops-more stops slot.sides.stops side h.stopped_first;
    }
