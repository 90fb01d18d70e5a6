use Rattle.std.proofs.Common.{◌++◌, option_map, refl, sym, ◌∙◌}
use Rattle.std.proofs.lemmas.Result.{on_ok_weaker, IfErr-weaker}
use Rattle.pascal_tree.specs.SeenProgram.{seen_parameter_group, seen_parameters}
use Rattle.pascal_tree.specs.DeclarationRules.{judged_parameter_group, judged_parameter_groups, behind_parameter_group, behind_parameter_groups, parameters_wanted, all_groups, first_broken}
use Rattle.pascal_check.specs.Faults.{IsFault}
use Rattle.pascal_check.proofs.Faulty.{err_is, fault_same}
use Rattle.pascal_check.proofs.ParameterTurns.{seen_groups, all_groups_are, parameters_more}
use Rattle.pascal_check.proofs.Turns.{turn_judged, turn_fault, turn_behind}
use Rattle.pascal_check.proofs.parameters.judge_parameters.Goals as goal

pub returns-in_err-used-clause-broken : goal.returns-in_err-used-clause-broken
returns-in_err-used-clause-broken c =
    let all = all_groups (option_map seen_parameters c.args.parameters.now) in
    let rest = (c.in-Some.parameters.rest).items in
    let s = c.args.scope.now in
    let fault = c.in_err-used.field-0.0 in
    err_is c.from_residual.result (IsFault (judged_parameter_groups s all)) fault c.from_residual.ensures.1
    (turn_fault judged_parameter_group judged_parameter_groups behind_parameter_group (λ s g more. refl) s (seen_parameter_group c.in-Some.parameters.first)
    all (seen_groups rest) (judged_parameter_groups s all) fault (all_groups_are c.args.parameters.now c.in-Some.parameters rest c.in-Some.is refl) refl
    c.in_err-used.ensures.broken)

pub returns-clause-ok : goal.returns-clause-ok
returns-clause-ok c =
    let all = all_groups (option_map seen_parameters c.args.parameters.now) in
    let first = seen_parameter_group c.in-Some.parameters.first in
    let split = all_groups_are c.args.parameters.now c.in-Some.parameters c.deref.result.now c.in-Some.is c.deref.ensures.value in
    let same = turn_judged judged_parameter_group judged_parameter_groups behind_parameter_group (λ s g more. refl)
    c.args.scope.now c.judge_parameter_group.new.scope first all (seen_groups c.deref.result.now)
    (first_broken (judged_parameter_groups c.args.scope.now all)) split c.in_ok-used.ensures.ok c.in_ok-used.ensures.scope refl in
    on_ok_weaker c.judge_more_parameters.result (λ none. sym same ∙ none) c.judge_more_parameters.ensures.ok

pub returns-clause-scope : goal.returns-clause-scope
returns-clause-scope c =
    let all = all_groups (option_map seen_parameters c.args.parameters.now) in
    let first = seen_parameter_group c.in-Some.parameters.first in
    let split = all_groups_are c.args.parameters.now c.in-Some.parameters c.deref.result.now c.in-Some.is c.deref.ensures.value in
    let same = turn_behind behind_parameter_groups behind_parameter_group (λ s g more. refl)
    c.args.scope.now c.judge_parameter_group.new.scope (behind_parameter_groups c.args.scope.now all)
    first all (seen_groups c.deref.result.now) split c.in_ok-used.ensures.scope refl in
    on_ok_weaker c.judge_more_parameters.result (λ at. at ∙ same) c.judge_more_parameters.ensures.scope

pub returns-clause-wanted : goal.returns-clause-wanted
returns-clause-wanted c =
    let all = all_groups (option_map seen_parameters c.args.parameters.now) in
    let first = seen_parameter_group c.in-Some.parameters.first in
    let split = all_groups_are c.args.parameters.now c.in-Some.parameters c.deref.result.now c.in-Some.is c.deref.ensures.value in
    let same = parameters_more c.args.scope.now c.judge_parameter_group.new.scope first all (seen_groups c.deref.result.now)
    c.args.wanted.now c.judge_parameter_group.new.wanted (c.args.wanted.now ++ parameters_wanted c.args.scope.now all)
    split c.in_ok-used.ensures.scope c.in_ok-used.ensures.wanted refl in
    on_ok_weaker c.judge_more_parameters.result (λ is. is ∙ same) c.judge_more_parameters.ensures.wanted

pub returns-clause-broken : goal.returns-clause-broken
returns-clause-broken c =
    let all = all_groups (option_map seen_parameters c.args.parameters.now) in
    let first = seen_parameter_group c.in-Some.parameters.first in
    let more = seen_groups c.deref.result.now in
    let split = all_groups_are c.args.parameters.now c.in-Some.parameters c.deref.result.now c.in-Some.is c.deref.ensures.value in
    let s = c.args.scope.now in
    let t = c.judge_parameter_group.new.scope in
    let same = turn_judged judged_parameter_group judged_parameter_groups behind_parameter_group (λ s g more. refl) s t first all more
    (first_broken (judged_parameter_groups s all)) split c.in_ok-used.ensures.ok c.in_ok-used.ensures.scope refl in
    IfErr-weaker c.judge_more_parameters.result (IsFault (judged_parameter_groups t more)) (IsFault (judged_parameter_groups s all))
    (λ f bad. fault_same (judged_parameter_groups s all) (judged_parameter_groups t more) f (sym same) bad) c.judge_more_parameters.ensures.broken
