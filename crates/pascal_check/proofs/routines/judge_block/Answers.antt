use Rattle.std.proofs.Common.{◌++◌, subst}
use Rattle.std.proofs.lemmas.Result.{err_from_is_err_and}
use Rattle.pascal_tree.specs.SeenProgram.{seen_block}
use Rattle.pascal_tree.specs.StatementRules.{judged_body}
use Rattle.pascal_tree.specs.DeclarationRules.{judged_consts, judged_vars, behind_consts, behind_vars}
use Rattle.pascal_check.specs.Faults.{IsFault}
use Rattle.pascal_check.proofs.Faulty.{fault_here, fault_behind}
use Rattle.pascal_check.proofs.routines.judge_block.Goals as goal

pub returns-in_err-judge_vars-clause-broken : goal.returns-in_err-judge_vars-clause-broken
returns-in_err-judge_vars-clause-broken c =
    let fault = err_from_is_err_and c.from_residual-in_err-judge_vars.result c.from_residual-in_err-judge_vars.ensures.1 in
    let s = c.args.scope.now in
    let b = seen_block c.args.block.now in
    let t = behind_consts s b.consts in
    let f = c.in_err-judge_vars.field-0.0 in
    let body = judged_body (behind_vars t b.vars) b.body in
    rw (fault.1, fault.2)
    (fault_behind (judged_consts s b.consts) (judged_vars t b.vars ++ body) f c.in_ok-judge_consts.ensures.ok
    (fault_here (judged_vars t b.vars) body f
    (subst (λ u. IsFault (judged_vars u b.vars) f) c.in_ok-judge_consts.ensures.scope c.in_err-judge_vars.ensures.broken)))
