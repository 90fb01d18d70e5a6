use Rattle.std.proofs.Common.{◌≡◌, ◌&&◌, false, ℤ, sym, ◌∙◌, subst}
use Rattle.std.specs.Prelude.{int_le}
use Rattle.std.specs.Int.{w16}
use Rattle.std.proofs.lemmas.Int.{to_z-of_z}
use Rattle.solo_base.specs.declared.outcome.ProgResult.TheVariants as result
use Rattle.pascal_mean.specs.Situation.{Gives}
use Rattle.pascal_evaluate.proofs.Parts.{ends_else}
use Rattle.pascal_evaluate.proofs.operators.within.Goals as goal

pub returns-else-is_within : goal.returns-else-is_within
returns-else-is_within c now =
    let low = c.args.bounds.low in
    let high = c.args.bounds.high in
    let outside : (int_le low c.args.value && int_le c.args.value high) ≡ false =
    subst (λ (v : ℤ). (int_le low v && int_le v high) ≡ false) (to_z-of_z w16 c.args.value c.ranges.value) (sym c.is_within.ensures ∙ c.if-is_within.false) in
    ends_else (int_le low c.args.value && int_le c.args.value high) (Gives c.args.value) result.RangeError now outside
