use Rattle.std.proofs.Common.{◌≡◌, ℕ, true, List, [], ◌∷◌, ◌++◌, Result, Ok, Err, take, drop, refl, sym, ap, ◌∙◌}
use Rattle.std.specs.Result.{is_err}
use Rattle.std.proofs.lemmas.Grind.{flat_map-append}
use Rattle.std.proofs.lemmas.List.{append-nil, take-append-drop}
use Rattle.slot_buffer.specs.declared.answers.Stopped.{Stopped}
use Rattle.slot_buffer.specs.declared.call.SlotCall.{SlotCall}
use Rattle.slot_buffer.specs.declared.call.SlotCall.TheVariants as call
use Rattle.solo_base.specs.declared.outcome.Side.TheVariants.{Sender}
use Rattle.slot_buffer.specs.Calls.{PutFirst, item_put, sent_of}
use Rattle.slot_buffer.specs.Ends.{put_call}
use Rattle.slot_buffer.proofs.send_end.SendEnd.put_all.Goals as goal

-- a call that put nothing leaves what was sent
no-more : {T : Type 0} (calls : List (SlotCall T)) (call : SlotCall T) → item_put call ≡ [] → sent_of (calls ++ call ∷ []) ≡ sent_of calls
no-more calls call none = flat_map-append item_put calls (call ∷ []) ∙ ap (λ put. sent_of calls ++ (put ++ [])) none ∙ append-nil (sent_of calls)

refused-none : {T : Type 0} (item : T) (result : Result (Unit {0}) (Stopped T)) → is_err result ≡ true → item_put (put_call item result) ≡ []
refused-none item (Ok done) e = absurd cc
refused-none item (Err back) e = refl

-- behind the first so many of these items
first-of : {T : Type 0} (n : ℕ) (items : List T) (before after : List (SlotCall T)) → sent_of after ≡ sent_of before ++ take n items
    → PutFirst items before after
first-of n items before after sent = record { put = take n items; later = drop n items; first_are = sym (take-append-drop n items); sent = sent }

pub returns-then-is_err-clause-first : goal.returns-then-is_err-clause-first
returns-then-is_err-clause-first g c =
    first-of c.loop-item.item-index c.args.items.now c.args.self.now.calls c.put.new.self.calls
    (ap (λ end. sent_of end.calls) c.put.ensures.call
    ∙ no-more c.loop-item.self.calls (put_call c.item-item.result c.put.result)
    (refused-none c.item-item.result c.put.result (sym c.is_err.ensures.value ∙ c.if-is_err.true))
    ∙ c.loop-item.invariant.2)

pub returns-clause-first : goal.returns-clause-first
returns-clause-first g c =
    first-of c.loop-item.item-index c.args.items.now c.args.self.now.calls c.stop.new.self.calls
    (ap (λ end. sent_of end.calls) c.stop.ensures ∙ no-more c.loop-item.self.calls (call.Stop Sender) refl ∙ c.loop-item.invariant.2)
