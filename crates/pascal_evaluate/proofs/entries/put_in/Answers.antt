use Rattle.std.proofs.Common.{◌≡◌, Some, sym, ◌∙◌, ap}
use Rattle.std.specs.Int.{w16, w32}
use Rattle.std.proofs.lemmas.Int.{to_z-of_z}
use Rattle.pascal_evaluate.specs.SeenStore.{value_in, entry_place, with_value}
use Rattle.pascal_evaluate.proofs.Replaced.{value_in-replaced, written_back}
use Rattle.pascal_evaluate.proofs.entries.put_in.Goals as goal

pub returns-in-Some : goal.returns-in-Some
returns-in-Some c x i =
    let es = c.args.entries.now.items in
    let letters = c.args.letters.now in
    let index_is = to_z-of_z w32 c.args.index c.ranges.index in
    let value_is = to_z-of_z w16 c.args.value c.ranges.value in
    let found : entry_place es letters c.args.index ≡ Some c.in-Some.place = cc (index_is, c.in-Some.ensures.place, c.deref.ensures.value) in
    let new : c.replace.new.entries ≡ with_value es c.in-Some.place c.args.value = cc (c.replace.ensures, c.deref_mut.ensures.value, value_is) in
    let back = written_back es c.replace.new.entries c.args.entries.now.len c.in-Some.place c.args.value (sym c.args.entries.now.ok.0) new in
    ap (λ l. value_in l x i) back ∙ value_in-replaced es letters c.args.index c.in-Some.place c.args.value found x i
