-- What the first process of a pipeline did, and the last.
use Rattle.std.proofs.Common.{◌≡◌, false, Option, Some, Result, Ok, Err, List, [], ◌∷◌, ◌++◌, sym, ap, ◌∙◌, append-nil, subst}
use Rattle.std.specs.Prelude.{OnOk}
use Rattle.slot_buffer.specs.declared.answers.Stopped.{Stopped}
use Rattle.slot_buffer.specs.declared.call.SlotCall.{SlotCall}
use Rattle.slot_buffer.specs.Calls.{has_stop, sent_of, taken_of, was_refused}
use Rattle.slot_buffer.specs.Ends.{put_call}
use Rattle.pipeline.specs.declared.parcel.Parcel.{Parcel}
use Rattle.pipeline.specs.declared.parcel.Parcel.TheVariants.{End}
use Rattle.pipeline.specs.First.{IsFirst}
use Rattle.pipeline.specs.Rows.{items, whole, Fed, Comes}
use Rattle.pipeline.proofs.Calls.{sent_behind}
use Rattle.pipeline.proofs.Parts.{first_of_first, first_whole, end_behind, items_first, whole_first}

abbrev pub Within : {T : Type 0} → Option (List T) → List T → Type 0
Within tells gave = (all : _) → tells ≡ Some all → IsFirst gave all

abbrev pub Over : {T : Type 0} → Option (List T) → List T → Type 0
Over tells gave = (all : _) → tells ≡ Some all → gave ≡ all

pub on_ok : {A E P Q : Type 0} (result : Result A E) → OnOk result P → (P → Q) → OnOk result Q
on_ok (Ok done) p so = so p
on_ok (Err refused) p so = tt

pub all_first : {T : Type 0} (all : List T) → IsFirst all all
all_first all = record { later = []; all_are = sym (append-nil all) }

module _ {T F : Type 0} (tells : Option (List T)) (gave : List T) (calls : List (SlotCall (Parcel T))) (ended : Result (Unit {0}) F) where
  -- the first of what the source gave were put
  pub fed_part : (part : List T) → sent_of calls ≡ items part → IsFirst part gave → Within tells gave → OnOk ended (has_stop calls ≡ false)
      → OnOk ended (was_refused calls ≡ false → Over tells gave) → Fed tells gave calls ended
  fed_part part sent f within runs over = record {
    first = subst (λ s. IsFirst s (whole gave)) (sym sent) (first_whole part gave f);
    told = λ all tell. subst (λ s. IsFirst s (whole all)) (sym sent) (first_whole part all (first_of_first part gave all f (within all tell)));
    goes_on = runs;
    over = over;
  }

  -- all that the source gave was put, and the end
  pub fed_whole : sent_of calls ≡ whole gave → Over tells gave → OnOk ended (has_stop calls ≡ false) → OnOk ended (was_refused calls ≡ false → Over tells gave)
      → Fed tells gave calls ended
  fed_whole sent over runs ok = record {
    first = subst (λ s. IsFirst s (whole gave)) (sym sent) (all_first (whole gave));
    told = λ all tell. subst (λ s. IsFirst s (whole all)) (sym sent) (subst (λ every. IsFirst (whole gave) (whole every)) (over all tell) (all_first (whole gave)));
    goes_on = runs;
    over = ok;
  }

ok_any : {A E P : Type 0} (result : Result A E) → P → OnOk result P
ok_any (Ok done) p = p
ok_any (Err refused) p = tt

-- the end was put, or the receiver takes no more
pub fed_end : {T F : Type 0} (tells : Option (List T)) (gave : List T) (before after : List (SlotCall (Parcel T))) (result : Result (Unit {0}) (Stopped (Parcel T)))
    → after ≡ before ++ put_call End result ∷ [] → sent_of before ≡ items gave → has_stop after ≡ false → Within tells gave → Over tells gave
    → (ended : Result (Unit {0}) F) → Fed tells gave after ended
fed_end {T = T} tells gave before after result is sent runs within over ended =
    put_end result is
  where
    put_end : (result : Result (Unit {0}) (Stopped (Parcel T))) → after ≡ before ++ put_call End result ∷ [] → Fed tells gave after ended
    put_end (Ok done) is = fed_whole tells gave after ended (ap sent_of is ∙ sent_behind before _ ∙ ap (λ s. s ++ End ∷ []) sent ∙ end_behind gave) over (ok_any ended runs) (ok_any ended (λ unheard. over))
    put_end (Err back) is = fed_part tells gave after ended gave (ap sent_of is ∙ sent_behind before _ ∙ append-nil (sent_of before) ∙ sent) (all_first gave) within (ok_any ended runs) (ok_any ended (λ unheard. over))

-- these items were taken for the sink, and then this
pub collected : {T C : Type 0} (took : List T) (more : List (Parcel T)) (calls : List (SlotCall (Parcel T))) (ended : Result (Unit {0}) C) → taken_of calls ≡ items took ++ more
    → OnOk ended (has_stop calls ≡ false) → OnOk ended (was_refused calls ≡ false → more ≡ End ∷ []) → Comes (λ xs. xs) calls took ended
collected took more calls ended taken runs last = record {
  first = λ all f. items_first took all (first_of_first (items took) (taken_of calls) (whole all) (record { later = more; all_are = taken }) f);
  heeds = runs;
  all = on_ok ended last (λ last unheard every f. sym (whole_first took every
      (subst (λ t. IsFirst t (whole every)) (taken ∙ ap (λ m. items took ++ m) (last unheard) ∙ end_behind took) f)));
}
