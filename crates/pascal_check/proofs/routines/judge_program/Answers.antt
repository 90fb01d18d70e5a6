use Rattle.std.proofs.Common.{◌++◌, subst}
use Rattle.std.proofs.lemmas.Result.{err_from_is_err_and}
use Rattle.pascal_tree.specs.SeenProgram.{seen_program}
use Rattle.pascal_tree.specs.StatementRules.{judged_body}
use Rattle.pascal_tree.specs.DeclarationRules.{judged_consts, judged_vars, judged_routines, behind_consts, behind_vars, behind_routines, empty_scope}
use Rattle.pascal_check.specs.Faults.{IsFault}
use Rattle.pascal_check.proofs.Faulty.{fault_here}
use Rattle.pascal_check.proofs.routines.judge_program.Goals as goal

pub returns-in_err-judge_consts-clause-broken : goal.returns-in_err-judge_consts-clause-broken
returns-in_err-judge_consts-clause-broken c =
    let fault = err_from_is_err_and c.from_residual.result c.from_residual.ensures.1 in
    let p = seen_program c.args.program.now in
    let constants = behind_consts empty_scope p.consts in
    let variables = behind_vars constants p.vars in
    let f = c.in_err-judge_consts.field-0.0 in
    rw (fault.1, fault.2)
    (fault_here (judged_consts empty_scope p.consts)
    (judged_vars constants p.vars ++ (judged_routines variables 0 p.routines ++ judged_body (behind_routines variables p.routines) p.body)) f
    (subst (λ s. IsFault (judged_consts s p.consts) f) c.requires c.in_err-judge_consts.ensures.broken))
