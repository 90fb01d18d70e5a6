use Rattle.std.proofs.Common.{◌≡◌, ℕ, ℤ, false, ◌∷◌, [], ◌++◌, sym, ap, subst, ◌∙◌}
use Rattle.std.specs.Int.{w16}
use mir.Val.{to_z, of_z}
use Rattle.std.specs.List.{list_any}
use Rattle.std.specs.Ordering.{int_eq}
use Rattle.std.proofs.lemmas.Int.{to_z-of_z}
use Rattle.pascal_check.specs.Listed.{values_added, AreNumbered, AreAmong}
use Rattle.pascal_check.proofs.Named.{value_behind, values_numbered, all_among}
use Rattle.pascal_check.proofs.earlier.Earlier.add.Goals as goal

pub invariant_of-self-2 : goal.invariant_of-self-2
invariant_of-self-2 c =
    let es = c.self.inside.entries.entries in
    let v = to_z w16 (of_z w16 c.args.value) in
    let same : v ≡ c.args.value = to_z-of_z w16 c.args.value c.ranges.value in
    let next = c.len-before.ensures.len in
    let absent : list_any (int_eq v) (values_added es) ≡ false =
    ap (list_any (int_eq v)) c.self.view_is ∙ ap (λ (w : ℤ). list_any (int_eq w) c.args.self.now) same ∙ c.requires in
    subst (λ all. AreAmong all × AreNumbered (λ (e : ℤ × ℕ). e.1) (λ (e : ℤ × ℕ). e.0) all) (sym c.in_ok-insert.ensures.entries) (
      all_among es v c.len-before.result next c.self.invariant.1 c.self.invariant.0 absent,
      values_numbered es v c.len-before.result next c.self.invariant.1 c.self.invariant.0 absent,
    )

pub returns : goal.returns
returns c =
    let es = c.self.inside.entries.entries in
    let v = to_z w16 (of_z w16 c.args.value) in
    let same : v ≡ c.args.value = to_z-of_z w16 c.args.value c.ranges.value in
    let absent : list_any (int_eq v) (values_added es) ≡ false =
    ap (list_any (int_eq v)) c.self.view_is ∙ ap (λ (w : ℤ). list_any (int_eq w) c.args.self.now) same ∙ c.requires in
    ap values_added c.in_ok-insert.ensures.entries
    ∙ value_behind es v c.len-before.result c.len-before.ensures.len c.self.invariant.1 c.self.invariant.0 absent
    ∙ ap (λ vs. vs ++ v ∷ []) c.self.view_is
    ∙ ap (λ (w : ℤ). c.args.self.now ++ w ∷ []) same
