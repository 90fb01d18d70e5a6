use Rattle.std.proofs.Common.{Some, None, option_map, sym, ap, subst, ◌∙◌}
use Rattle.std.proofs.lemmas.Result.{err_from_is_err_and}
use Rattle.pascal_tree.specs.SeenProgram.{seen_parameters, seen_block}
use Rattle.pascal_tree.specs.Program.{procedure}
use Rattle.pascal_tree.specs.DeclarationRules.{judged_routine, judged_block, block_scope, routine_means, first_broken}
use Rattle.pascal_check.specs.Faults.{IsFault}
use Rattle.pascal_check.proofs.Faulty.{fault_of, fault_same}
use Rattle.pascal_check.proofs.Headings.{procedure_is, procedure_twice, procedure_past, procedure_scope, left_is}
use Rattle.pascal_check.proofs.routines.judge_procedure.Goals as goal

pub returns-in_err-judge_routine_name-clause-broken : goal.returns-in_err-judge_routine_name-clause-broken
returns-in_err-judge_routine_name-clause-broken c =
    let fault = err_from_is_err_and c.from_residual-in_err-judge_routine_name.result c.from_residual-in_err-judge_routine_name.ensures.1 in
    let p = c.args.scope.now in
    let t = c.judge_parameters.new.scope in
    let ps = option_map seen_parameters c.args.parameters.now in
    let b = seen_block c.args.block.now in
    let whole = judged_routine p c.args.before (procedure 0 c.args.name.now ps 0 b 0) in
    let broken = c.in_err-judge_routine_name.ensures.broken in
    rw fault.1
    (fault_of whole c.in_err-judge_routine_name.field-0.0 fault.0
    (procedure_twice p c.enter.new.self t ps c.args.name.now c.enter.ensures c.in_ok-used.ensures.ok c.in_ok-used.ensures.scope
    c.args.before b broken.0 ∙ sym (ap Some broken.1)) fault.2)

pub returns-in_err-judge_count-clause-broken : goal.returns-in_err-judge_count-clause-broken
returns-in_err-judge_count-clause-broken c =
    let fault = err_from_is_err_and c.from_residual-in_err-judge_count.result c.from_residual-in_err-judge_count.ensures.1 in
    let p = c.args.scope.now in
    let t = c.judge_parameters.new.scope in
    let ps = option_map seen_parameters c.args.parameters.now in
    let b = seen_block c.args.block.now in
    let whole = judged_routine p c.args.before (procedure 0 c.args.name.now ps 0 b 0) in
    let broken = c.in_err-judge_count.ensures.broken in
    rw fault.1
    (fault_of whole c.in_err-judge_count.field-0.0 fault.0
    (procedure_past p c.enter.new.self t ps c.args.name.now c.enter.ensures c.in_ok-used.ensures.ok c.in_ok-used.ensures.scope
    c.args.before b c.in_ok-judge_routine_name.ensures.ok broken.0 ∙ sym (ap Some broken.1)) fault.2)

pub returns-in_err-judge_block-clause-broken : goal.returns-in_err-judge_block-clause-broken
returns-in_err-judge_block-clause-broken c =
    let fault = err_from_is_err_and c.from_residual-in_err-judge_block.result c.from_residual-in_err-judge_block.ensures.1 in
    let p = c.args.scope.now in
    let t = c.judge_parameters.new.scope in
    let ps = option_map seen_parameters c.args.parameters.now in
    let b = seen_block c.args.block.now in
    let whole = judged_routine p c.args.before (procedure 0 c.args.name.now ps 0 b 0) in
    let at = procedure_scope p c.enter.new.self t ps c.args.name.now c.enter.ensures c.in_ok-used.ensures.ok c.in_ok-used.ensures.scope
    c.declare_outside.new.self b c.new-wanted.result c.judge_parameters.new.wanted
    c.new-wanted.ensures c.in_ok-used.ensures.wanted c.in_ok-declare_outside.ensures in
    let is = procedure_is p c.enter.new.self t ps c.args.name.now c.enter.ensures c.in_ok-used.ensures.ok c.in_ok-used.ensures.scope
    c.args.before b c.in_ok-judge_routine_name.ensures.ok c.in_ok-judge_count.ensures.ok in
    let f = c.in_err-judge_block.field-0.0 in
    rw (fault.1, fault.2)
    (fault_same whole (judged_block (block_scope p (procedure 0 c.args.name.now ps 0 b 0) ps None) b) f is
    (subst (λ u. IsFault (judged_block u b) f) at c.in_err-judge_block.ensures.broken))

pub returns-clause-ok : goal.returns-clause-ok
returns-clause-ok c =
    let p = c.args.scope.now in
    let t = c.judge_parameters.new.scope in
    let ps = option_map seen_parameters c.args.parameters.now in
    let b = seen_block c.args.block.now in
    let at = procedure_scope p c.enter.new.self t ps c.args.name.now c.enter.ensures c.in_ok-used.ensures.ok c.in_ok-used.ensures.scope
    c.declare_outside.new.self b c.new-wanted.result c.judge_parameters.new.wanted
    c.new-wanted.ensures c.in_ok-used.ensures.wanted c.in_ok-declare_outside.ensures in
    let is = procedure_is p c.enter.new.self t ps c.args.name.now c.enter.ensures c.in_ok-used.ensures.ok c.in_ok-used.ensures.scope
    c.args.before b c.in_ok-judge_routine_name.ensures.ok c.in_ok-judge_count.ensures.ok in
    is ∙ ap (λ u. first_broken (judged_block u b)) (sym at) ∙ c.in_ok-judge_block.ensures.ok

pub returns-clause-scope : goal.returns-clause-scope
returns-clause-scope c =
    let p = c.args.scope.now in
    let t = c.judge_parameters.new.scope in
    let ps = option_map seen_parameters c.args.parameters.now in
    let b = seen_block c.args.block.now in
    let at = procedure_scope p c.enter.new.self t ps c.args.name.now c.enter.ensures c.in_ok-used.ensures.ok c.in_ok-used.ensures.scope
    c.declare_outside.new.self b c.new-wanted.result c.judge_parameters.new.wanted
    c.new-wanted.ensures c.in_ok-used.ensures.wanted c.in_ok-declare_outside.ensures in
    c.leave.ensures
    ∙ left_is p c.judge_block.new.scope c.args.name.now.letters (routine_means p (procedure 0 c.args.name.now ps 0 b 0)) c.requires
    (c.in_ok-judge_block.ensures.outer ∙ ap (λ u. u.outer) at)
