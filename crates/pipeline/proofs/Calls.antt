-- What a call more does to what was put and taken.
use Rattle.std.proofs.Common.{◌≡◌, Bool, true, false, ◌||◌, List, [], ◌∷◌, ◌++◌, Result, Ok, Err, refl, ap, ◌∙◌, append-nil}
use Rattle.std.specs.Prelude.{OnOk, OnErr}
use Rattle.std.specs.Result.{is_err}
use Rattle.std.proofs.lemmas.Grind.{flat_map-append}
use Rattle.solo_base.specs.declared.outcome.Side.{Side}
use Rattle.slot_buffer.specs.declared.answers.Stopped.{Stopped}
use Rattle.slot_buffer.specs.declared.answers.Ended.{Ended}
use Rattle.slot_buffer.specs.declared.call.SlotCall.{SlotCall}
use Rattle.slot_buffer.specs.declared.call.SlotCall.TheVariants as call
use Rattle.slot_buffer.specs.Calls.{is_refusal, item_put, item_taken, sent_of, taken_of, was_refused}
use Rattle.slot_buffer.specs.Ends.{put_call, take_call}

pub sent_behind : {T : Type 0} (calls : List (SlotCall T)) (call : SlotCall T) → sent_of (calls ++ call ∷ []) ≡ sent_of calls ++ item_put call
sent_behind calls call = flat_map-append item_put calls (call ∷ []) ∙ ap (λ put. sent_of calls ++ put) (append-nil (item_put call))

pub taken_behind : {T : Type 0} (calls : List (SlotCall T)) (call : SlotCall T) → taken_of (calls ++ call ∷ []) ≡ taken_of calls ++ item_taken call
taken_behind calls call = flat_map-append item_taken calls (call ∷ []) ∙ ap (λ took. taken_of calls ++ took) (append-nil (item_taken call))

pub put_one : {T : Type 0} (calls : List (SlotCall T)) (item : T) (result : Result (Unit {0}) (Stopped T)) → is_err result ≡ false
    → sent_of (calls ++ put_call item result ∷ []) ≡ sent_of calls ++ item ∷ []
put_one calls item (Ok done) e = sent_behind calls (call.Put item)
put_one calls item (Err back) e = absurd cc

pub put_none : {T : Type 0} (calls : List (SlotCall T)) (item : T) (result : Result (Unit {0}) (Stopped T)) → is_err result ≡ true
    → sent_of (calls ++ put_call item result ∷ []) ≡ sent_of calls
put_none calls item (Ok done) e = absurd cc
put_none calls item (Err back) e = sent_behind calls (call.PutRefused item) ∙ append-nil (sent_of calls)

pub when_ok : {A E : Type 0} {P : Type 0} (result : Result A E) → OnOk result P → is_err result ≡ false → P
when_ok (Ok done) p e = p
when_ok (Err refused) p e = absurd cc

pub when_err : {A E : Type 0} {P : Type 0} (result : Result A E) → OnErr result P → is_err result ≡ true → P
when_err (Ok done) p e = absurd cc
when_err (Err refused) p e = p

pub take_one : {T : Type 0} (calls : List (SlotCall T)) (item : T) (result : Result T Ended) → result ≡ Ok item
    → taken_of (calls ++ take_call result ∷ []) ≡ taken_of calls ++ item ∷ []
take_one calls item result is = ap (λ r. taken_of (calls ++ take_call r ∷ [])) is ∙ taken_behind calls (call.Take item)

pub take_none : {T : Type 0} (calls : List (SlotCall T)) (ended : Ended) (result : Result T Ended) → result ≡ Err ended
    → taken_of (calls ++ take_call result ∷ []) ≡ taken_of calls
take_none calls ended result is = ap (λ r. taken_of (calls ++ take_call r ∷ [])) is ∙ taken_behind calls call.TakeRefused ∙ append-nil (taken_of calls)

pub stop_put : {T : Type 0} (calls : List (SlotCall T)) (side : Side) → sent_of (calls ++ call.Stop side ∷ []) ≡ sent_of calls
stop_put calls side = sent_behind calls (call.Stop side) ∙ append-nil (sent_of calls)

pub stop_took : {T : Type 0} (calls : List (SlotCall T)) (side : Side) → taken_of (calls ++ call.Stop side ∷ []) ≡ taken_of calls
stop_took calls side = taken_behind calls (call.Stop side) ∙ append-nil (taken_of calls)

-- ---- what a call more does to stops and refusals
or-true : (b : Bool) → (b || true) ≡ true
or-true true = refl
or-true false = refl

pub refusal_behind : {T : Type 0} (calls : List (SlotCall T)) (call : SlotCall T) → is_refusal call ≡ true → was_refused (calls ++ call ∷ []) ≡ true
refusal_behind [] call is = ap (λ b. b || false) is
refusal_behind (first ∷ calls) call is = rw (refusal_behind calls call is) (or-true (is_refusal first))

pub put_refused : {T : Type 0} (calls : List (SlotCall T)) (item : T) (result : Result (Unit {0}) (Stopped T)) → is_err result ≡ true
    → was_refused (calls ++ put_call item result ∷ []) ≡ true
put_refused calls item (Ok done) e = absurd cc
put_refused calls item (Err back) e = refusal_behind calls (call.PutRefused item) refl

pub take_refused : {T : Type 0} (calls : List (SlotCall T)) (ended : Ended) (result : Result T Ended) → result ≡ Err ended
    → was_refused (calls ++ take_call result ∷ []) ≡ true
take_refused calls ended result is = ap (λ r. was_refused (calls ++ take_call r ∷ [])) is ∙ refusal_behind calls call.TakeRefused refl

-- what is so isn't otherwise
pub unheard : {P : Type 0} (told : Bool) → told ≡ true → told ≡ false → P
unheard told is isnt = absurd cc
