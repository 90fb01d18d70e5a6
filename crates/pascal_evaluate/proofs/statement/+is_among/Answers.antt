use Rattle.std.proofs.Common.{◌≡◌, false, ◌∙◌, rules, arith}
use Rattle.std.proofs.lemmas.Grind.{common_steps}
use Rattle.std.proofs.lemmas.Int.{to_z-of_z}
use Rattle.std.specs.Int.{w16}
use Rattle.std.specs.Ordering.{int_eq}
use Rattle.pascal_mean.specs.Scope.{constant_number}
use Rattle.pascal_evaluate.specs.SeenNames.{seen_scope}
use Rattle.pascal_evaluate.proofs.Turned.{any_other}
use Rattle.pascal_evaluate.proofs.statement.+is_among.Goals as goal

pub returns-else-number-value : goal.returns-else-number-value
returns-else-number-value t c =
    let behind = simp (to_z-of_z w16 c.args.value c.ranges.value) at c.is_among.ensures in
    let none : int_eq (constant_number (seen_scope c.args.scope.now) c.index-labels-0.result.1) c.args.value ≡ false =
    first_of (search rules, grind (arith, common_steps)) in
    behind ∙ any_other (λ l. int_eq (constant_number (seen_scope c.args.scope.now) l.1) c.args.value) c.args.labels.now c.index-labels-0.result
    c.in-len1-up.len_at_least c.index-labels-0.is none
