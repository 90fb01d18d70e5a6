use Rattle.std.proofs.lemmas.Result.{err_from_is_err_and}
use Rattle.pascal_tree.specs.DeclarationRules.{judged_definition, judged_definitions, behind_definition}
use Rattle.pascal_check.proofs.Faulty.{fault_here}
use Rattle.pascal_check.proofs.definitions.judge_consts.Goals as goal

pub returns-in_err-judge_definition-clause-broken : goal.returns-in_err-judge_definition-clause-broken
returns-in_err-judge_definition-clause-broken c =
    let fault = err_from_is_err_and c.from_residual.result c.from_residual.ensures.1 in
    let s = c.args.scope.now in
    let consts = c.in-Some.consts in
    rw (fault.1, fault.2, c.in-Some.is)
    (fault_here (judged_definition s consts.first) (judged_definitions (behind_definition s consts.first) (consts.rest).items)
    c.in_err-judge_definition.field-0.0 c.in_err-judge_definition.ensures.broken)
