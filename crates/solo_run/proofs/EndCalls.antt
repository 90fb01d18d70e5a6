-- The calls at an end, with one call more, are those of a history with one act more.
use Rattle.std.proofs.Common.{◌≡◌, ℕ, ◌≤◌, ◌||◌, Bool, true, false, Option, None, Some, List, [], ◌∷◌, ◌++◌, map, length, option_to_list, refl, sym, ◌∙◌, ap, lit≤}
use Rattle.std.specs.List.{list_any}
use Rattle.std.proofs.lemmas.Grind.{flat_map-append}
use Rattle.std.proofs.lemmas.List.{append-nil, map-append}
use Rattle.std.proofs.lemmas.List.Folds.{list_any-append}
use Rattle.std.proofs.Math.Bool.{or_comm}
use Rattle.solo_base.specs.declared.outcome.Side.{Side}
use Rattle.solo_base.specs.declared.outcome.Side.TheVariants.{Sender, Receiver}
use Rattle.queue_var.specs.BetweenTwo.{by_side}
use Rattle.slot_buffer.specs.declared.call.SlotCall.{SlotCall}
use Rattle.slot_buffer.specs.Calls.{item_put, item_taken, taken_of, is_stop, is_refusal, has_stop, was_refused}
use Rattle.slot_buffer.specs.Ends.{Meets}
use Rattle.network_law.specs.Acts.{Act, moved, moved_by, made_stop, stops_at, was_told, told_at}
use Rattle.exchange_law.specs.Parcels.{Parcel}
use Rattle.solo_law.specs.Solo.{SoloEntry}
use Rattle.solo_threads.specs.Threads.{acts_by, HaveMet}
use Rattle.solo_run.specs.Ends.{moved_by_calls, AreCalls}

module _ {T : Type 0} (wrap : T → Parcel) (b : ℕ) where
  pub calls-first : (side : Side) → AreCalls wrap b side [] []
  calls-first Sender = record { moves = refl; stops = refl; told = refl }
  calls-first Receiver = record { moves = refl; stops = refl; told = refl }

  moved-more : (side : Side) (calls more : List (SlotCall T)) → moved_by_calls side (calls ++ more) ≡ moved_by_calls side calls ++ moved_by_calls side more
  moved-more Sender calls more = flat_map-append item_put calls more
  moved-more Receiver calls more = flat_map-append item_taken calls more

  last-or : (t : Bool) → (t || false) ≡ t
  last-or true = refl
  last-or false = refl

  any-more : (test : SlotCall T → Bool) (calls : List (SlotCall T)) (call : SlotCall T)
      → list_any test (calls ++ call ∷ []) ≡ (test call || list_any test calls)
  any-more test calls call =
      list_any-append test calls (call ∷ []) ∙ ap (λ t. list_any test calls || t) (last-or (test call)) ∙ or_comm (list_any test calls) (test call)

  -- an act that is this call
  pub record IsCall (side : Side) (act : Act Parcel) (call : SlotCall T) : Type 0 where
    pub moves : map wrap (moved_by_calls side (call ∷ [])) ≡ moved_by b side act.call act.went
    pub stops : is_stop call ≡ stops_at b side act.call
    pub told : is_refusal call ≡ told_at b side act.call act.went

  pub calls-more : (side : Side) (act : Act Parcel) (acts : List (Act Parcel)) (calls : List (SlotCall T)) (call : SlotCall T) → IsCall side act call
      → AreCalls wrap b side acts calls → AreCalls wrap b side (act ∷ acts) (calls ++ call ∷ [])
  calls-more side act acts calls call is are = record {
    moves = ap (map wrap) (moved-more side calls (call ∷ [])) ∙ map-append wrap (moved_by_calls side calls) (moved_by_calls side (call ∷ []))
        ∙ ap (λ l. l ++ map wrap (moved_by_calls side (call ∷ []))) are.moves ∙ ap (λ l. moved b side acts ++ l) is.moves;
    stops = any-more is_stop calls call ∙ ap (λ t. t || has_stop calls) is.stops ∙ ap (λ t. stops_at b side act.call || t) are.stops;
    told = any-more is_refusal calls call ∙ ap (λ t. t || was_refused calls) is.told ∙ ap (λ t. told_at b side act.call act.went || t) are.told;
  }

  -- an act elsewhere
  pub calls-same : (side : Side) (act : Act Parcel) (acts : List (Act Parcel)) (calls : List (SlotCall T)) → moved_by b side act.call act.went ≡ []
      → stops_at b side act.call ≡ false → told_at b side act.call act.went ≡ false → AreCalls wrap b side acts calls → AreCalls wrap b side (act ∷ acts) calls
  calls-same side act acts calls moves stops told are = record {
    moves = are.moves ∙ sym (append-nil (moved b side acts)) ∙ ap (λ l. moved b side acts ++ l) (sym moves);
    stops = are.stops ∙ ap (λ t. t || made_stop b side acts) (sym stops);
    told = are.told ∙ ap (λ t. t || was_told b side acts) (sym told);
  }

  -- ---- both ends have met
  few-rest : (rest : Option T) → length (map wrap (option_to_list rest)) ≤ 1
  few-rest None = lit≤ tt
  few-rest (Some item) = lit≤ tt

  pub have-met : (histories : ℕ → List SoloEntry) (sender receiver : List (SlotCall T)) (rest : Option T) (by : Option Side)
      → Meets (by_side sender receiver) rest by → AreCalls wrap b Sender (acts_by histories b Sender) sender
      → AreCalls wrap b Receiver (acts_by histories b Receiver) receiver → HaveMet histories b by
  have-met histories sender receiver rest by meets sends takes =
      let stop : (side : Side) → has_stop (by_side sender receiver side) ≡ made_stop b side (acts_by histories b side) = stop-at in
      let told : (side : Side) → was_refused (by_side sender receiver side) ≡ was_told b side (acts_by histories b side) = told-at in
      record {
        rest = map wrap (option_to_list rest);
        in_order = ap (λ l. l ++ map wrap (option_to_list rest)) (sym takes.moves) ∙ sym (map-append wrap (taken_of receiver) (option_to_list rest))
            ∙ ap (map wrap) meets.in_order ∙ sends.moves;
        within = few-rest rest;
        stopped = record {
          neither = λ none side. sym (stop side) ∙ meets.stopped.neither none side;
          did = λ side is. sym (stop side) ∙ meets.stopped.did side is;
          told = λ side is. meets.stopped.told side (told side ∙ is);
        };
        nothing_left = λ is. ap (λ rest. map wrap (option_to_list rest)) (meets.nothing_left (takes.told ∙ is));
      } where
        stop-at : (side : Side) → has_stop (by_side sender receiver side) ≡ made_stop b side (acts_by histories b side)
        stop-at Sender = sends.stops
        stop-at Receiver = takes.stops

        told-at : (side : Side) → was_refused (by_side sender receiver side) ≡ was_told b side (acts_by histories b side)
        told-at Sender = sends.told
        told-at Receiver = takes.told
