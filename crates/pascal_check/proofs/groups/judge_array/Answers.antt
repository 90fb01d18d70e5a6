use Rattle.std.proofs.Common.{ℕ, not, ◌++◌, ◌∷◌, [], ◌∙◌}
use Rattle.std.proofs.lemmas.Result.{err_from_is_err_and}
use Rattle.pascal_tree.specs.Word.{NameAt}
use Rattle.pascal_tree.specs.Scopes.{Scope}
use Rattle.pascal_tree.specs.ExpressionRules.{Judged, breaks}
use Rattle.pascal_tree.specs.StatementRules.{value_of, judged_constant}
use Rattle.pascal_tree.specs.DeclarationRules.{are_bounds, judged_type_name}
use Rattle.pascal_tree.specs.declared.constant.Constant.{Constant}
use Rattle.pascal_check.proofs.Firsts.{first_behind, first_here}
use Rattle.pascal_check.proofs.groups.judge_array.Goals as goal

-- what is judged behind the upper bound
abbrev behind_bounds : Scope → ℕ → Constant → Constant → NameAt → Judged
behind_bounds s l a b n = judged_type_name s n ∷ breaks 5 (not (are_bounds (value_of s a) (value_of s b))) l ∷ []

pub returns-in_err-from-clause-broken : goal.returns-in_err-from-clause-broken
returns-in_err-from-clause-broken c =
    let fault = err_from_is_err_and c.from_residual.result c.from_residual.ensures.1 in
    let s = c.args.scope.now in
    rw (fault.1, fault.2)
    (first_here (judged_constant s c.args.low.now)
    (judged_constant s c.args.high.now ++ behind_bounds s c.args.line c.args.low.now c.args.high.now c.args.element.now)
    c.in_err-from.field-0.0 c.in_err-from.ensures.broken)

pub returns-in_err-to-clause-broken : goal.returns-in_err-to-clause-broken
returns-in_err-to-clause-broken c =
    let fault = err_from_is_err_and c.from_residual-in_err-to.result c.from_residual-in_err-to.ensures.1 in
    let s = c.args.scope.now in
    let later = behind_bounds s c.args.line c.args.low.now c.args.high.now c.args.element.now in
    rw (fault.1, fault.2)
    (first_behind (judged_constant s c.args.low.now) (judged_constant s c.args.high.now ++ later) c.in_ok-from.ensures.ok
    ∙ first_here (judged_constant s c.args.high.now) later c.in_err-to.field-0.0 c.in_err-to.ensures.broken)
