use Rattle.std.proofs.Common.{◌++◌, sym, subst}
use Rattle.std.proofs.lemmas.Result.{err_from_is_err_and, IfErr-weaker}
use Rattle.pascal_tree.specs.SeenProgram.{seen_group}
use Rattle.pascal_tree.specs.DeclarationRules.{judged_kind, judged_variable, judged_group, one_by_one, type_of_kind, all_names}
use Rattle.pascal_tree.specs.declared.means.Means.TheVariants as means
use Rattle.pascal_check.specs.Faults.{IsFault}
use Rattle.pascal_check.proofs.Firsts.{first_here}
use Rattle.pascal_check.proofs.Faulty.{fault_behind}
use Rattle.pascal_check.proofs.groups.judge_group.Goals as goal

pub returns-in_err-judge_kind-clause-broken : goal.returns-in_err-judge_kind-clause-broken
returns-in_err-judge_kind-clause-broken c =
    let fault = err_from_is_err_and c.from_residual.result c.from_residual.ensures.1 in
    let s = c.args.scope.now in
    let g = seen_group c.args.group.now in
    let names = one_by_one judged_variable s (means.Variable (type_of_kind s g.kind)) (all_names g.names) in
    rw (fault.1, fault.2)
    (first_here (judged_kind s g.kind) names c.in_err-judge_kind.field-0.0 c.in_err-judge_kind.ensures.broken)

pub returns-clause-broken : goal.returns-clause-broken
returns-clause-broken c =
    let s = c.args.scope.now in
    let g = seen_group c.args.group.now in
    let found = c.in_ok-judge_kind.field-0 in
    let names = one_by_one judged_variable s (means.Variable found) (all_names g.names) in
    IfErr-weaker c.declare_names.result (IsFault names) (IsFault (judged_group s g))
    (λ f bad. subst (λ t. IsFault (judged_kind s g.kind ++ one_by_one judged_variable s (means.Variable t) (all_names g.names)) f)
    (sym c.in_ok-judge_kind.ensures.typed) (fault_behind (judged_kind s g.kind) names f c.in_ok-judge_kind.ensures.ok bad))
    c.declare_names.ensures.broken
