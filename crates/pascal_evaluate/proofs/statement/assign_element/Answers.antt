use Rattle.std.proofs.Common.{◌≡◌, ◌∙◌, ap, rules, arith}
use Rattle.std.proofs.lemmas.Int.{to_z-of_z}
use Rattle.std.specs.Int.{w16, w32}
use mir.Val.{SFits, to_z, of_z}
use Rattle.pascal_tree.specs.SeenExpression.{seen_expr, seen_index}
use Rattle.pascal_evaluate.specs.SeenStore.{situation, seen_extent}
use Rattle.pascal_evaluate.specs.SeenSetting.{seen_setting}
use Rattle.pascal_evaluate.proofs.Parts.{passed_on}
use Rattle.pascal_evaluate.proofs.Openings.{place_stops, value_stops, value_stored}
use Rattle.pascal_evaluate.proofs.statement.assign_element.Goals as goal

pub returns-in_err-at : goal.returns-in_err-at
returns-in_err-at g c =
    let x = c.args.name.now in
    let letters : c.bytes-letters.result.now ≡ x.letters = search rules in
    let array = rw (c.find-sense.ensures, letters) at (c.array_named-array.ensures x.letters) in
    passed_on _ _ _ _ c.from_residual.ensures.1
    (place_stops (seen_setting g.L.Level.free c.args.setting.now) x (seen_index c.args.place.now) (seen_extent c.array_named-array.result x.letters)
    (situation c.args.run.now) array (seen_expr c.args.e.now) _ _ c.in_err-at.ensures)

pub returns-in_err-value : goal.returns-in_err-value
returns-in_err-value g c =
    let x = c.args.name.now in
    let letters : c.bytes-letters.result.now ≡ x.letters = search rules in
    let array = rw (c.find-sense.ensures, letters) at (c.array_named-array.ensures x.letters) in
    passed_on _ _ _ _ c.from_residual-in_err-value.ensures.1
    (value_stops (seen_setting g.L.Level.free c.args.setting.now) x (seen_index c.args.place.now) (seen_extent c.array_named-array.result x.letters)
    (situation c.args.run.now) array (seen_expr c.args.e.now) _ _ c.in_ok-at.ensures _ _ c.in_err-value.ensures)

pub returns : goal.returns
returns g c =
    let x = c.args.name.now in
    let letters : c.bytes-letters.result.now ≡ x.letters = search rules in
    let array = rw (c.find-sense.ensures, letters) at (c.array_named-array.ensures x.letters) in
    let word : SFits w16 c.in_ok-at.at = search rules in
    let value_word : SFits w16 c.in_ok-value.value = search rules in
    let wide : SFits w32 c.in_ok-at.at = search (rules, arith) in
    let at_is : to_z w32 (of_z w32 c.from.result) ≡ c.in_ok-at.at =
    ap (λ z. to_z w32 (of_z w32 z)) (c.from.ensures ∙ to_z-of_z w16 c.in_ok-at.at word) ∙ to_z-of_z w32 c.in_ok-at.at wide in
    let stored = rw (at_is, to_z-of_z w16 c.in_ok-value.value value_word, letters) at c.in_ok-store_element.ensures in
    rw stored
    (value_stored (seen_setting g.L.Level.free c.args.setting.now) x (seen_index c.args.place.now) (seen_extent c.array_named-array.result x.letters)
    (situation c.args.run.now) array (seen_expr c.args.e.now) _ _ c.in_ok-at.ensures _ _ c.in_ok-value.ensures)
