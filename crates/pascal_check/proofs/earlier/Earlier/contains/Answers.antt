use Rattle.std.proofs.Common.{◌≡◌, ℤ, ap, ◌∙◌}
use Rattle.std.specs.Int.{w16}
use mir.Val.{to_z, of_z}
use Rattle.std.specs.List.{list_any}
use Rattle.std.specs.Ordering.{int_eq}
use Rattle.std.proofs.lemmas.Int.{to_z-of_z}
use Rattle.pascal_check.proofs.earlier.Earlier.contains.Goals as goal

pub returns : goal.returns
returns c =
    let v = to_z w16 (of_z w16 c.args.value) in
    let same : v ≡ c.args.value = to_z-of_z w16 c.args.value c.ranges.value in
    c.contains_key.ensures ∙ c.self.invariant.0 v ∙ ap (list_any (int_eq v)) c.self.view_is ∙ ap (λ (w : ℤ). list_any (int_eq w) c.args.self.now) same
