use Rattle.std.proofs.Common.{◌≡◌, ℕ, ◌+◌, ◌<◌, List, ◌∷◌, drop, length, ap, sym, subst, ◌∙◌, add-one, drop-cons}
use Rattle.std.specs.Prelude.{slice_index_or}
use Rattle.std.proofs.lemmas.List.{length-set}
use Rattle.pascal_code.specs.Statements.{jump}
use Rattle.pascal_compile.specs.Landed.{all_landed, AreBefore}
use Rattle.pascal_compile.proofs.statements.land_all.Goals as goal

-- what is left of the places, from the next one on
next_place : (places : List ℕ) (k : ℕ) → k < length places → drop k places ≡ slice_index_or places k 0 ∷ drop (k + 1) places
next_place places k within =
    drop-cons places k 0 within ∙ ap (λ i. slice_index_or places k 0 ∷ drop i places) (sym (add-one k))

pub land_jump-requires : goal.land_jump-requires
land_jump-requires c =
    let places = c.args.places.now in
    let k = c.loop-place.place-index in
    let x = slice_index_or places k 0 in
    (subst (AreBefore (length c.loop-place.code)) (next_place places k c.loop-place-test.true) c.loop-place.invariant.before).0

pub loop-place-preserved : goal.loop-place-preserved
loop-place-preserved c =
    let places = c.args.places.now in
    let k = c.loop-place.place-index in
    let x = slice_index_or places k 0 in
    let code = c.loop-place.code in
    let split : drop k places ≡ x ∷ drop (k + 1) places = next_place places k c.loop-place-test.true in
    record {
      code = ap (λ w. all_landed w (drop (k + 1) places)) c.land_jump.ensures
          ∙ ap (all_landed code) (sym split) ∙ c.loop-place.invariant.code;
      before = subst (λ n. AreBefore n (drop (k + 1) places))
          (sym (ap length c.land_jump.ensures ∙ length-set code x (jump (length code))))
          (subst (AreBefore (length code)) split c.loop-place.invariant.before).1;
    }
