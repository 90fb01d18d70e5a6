use Rattle.std.proofs.Common.{◌≡◌, ◌∷◌, ◌+◌, ◌++◌, drop, refl, ap}
use Rattle.std.proofs.lemmas.Result.{err_from_is_err_and}
use Rattle.pascal_tree.specs.SeenProgram.{seen_parameter_group}
use Rattle.pascal_tree.specs.DeclarationRules.{judged_parameter_group, judged_parameter_groups, behind_parameter_group, behind_parameter_groups, parameters_wanted, first_broken}
use Rattle.pascal_check.proofs.Turns.{next_item, turn_judged, turn_behind, turn_fault}
use Rattle.pascal_check.proofs.ParameterTurns.{seen_groups, parameters_more}
use Rattle.pascal_check.proofs.parameters.judge_more_parameters.Goals as goal

pub returns-in_err-total-clause-broken : goal.returns-in_err-total-clause-broken
returns-in_err-total-clause-broken c =
    let fault = err_from_is_err_and c.from_residual.result c.from_residual.ensures.1 in
    let all = c.args.groups.now in
    let i = c.loop-group.group-index in
    let split = ap seen_groups (next_item all i c.loop-group-item.result c.loop-group-item.is c.loop-group-test.true) in
    rw (fault.1, fault.2)
    (turn_fault judged_parameter_group judged_parameter_groups behind_parameter_group (λ s g more. refl)
    c.loop-group.scope (seen_parameter_group (c.loop-group-item.result).1) (seen_groups (drop i all)) (seen_groups (drop (i + 1) all))
    (judged_parameter_groups c.args.scope.now (seen_groups all)) c.in_err-total.field-0.0 split c.loop-group.invariant.judged c.in_err-total.ensures.broken)

pub loop-group-preserved : goal.loop-group-preserved
loop-group-preserved c =
    let all = c.args.groups.now in
    let i = c.loop-group.group-index in
    let g = seen_parameter_group (c.loop-group-item.result).1 in
    let left = seen_groups (drop i all) in
    let more = seen_groups (drop (i + 1) all) in
    let split : left ≡ g ∷ more = ap seen_groups (next_item all i c.loop-group-item.result c.loop-group-item.is c.loop-group-test.true) in
    let s = c.loop-group.scope in
    let t = c.judge_parameter_group.new.scope in
    let first = c.args.scope.now in
    let ensures = c.in_ok-total.ensures in
    record {
      used = ensures.used;
      most = ensures.most;
      judged = turn_judged judged_parameter_group judged_parameter_groups behind_parameter_group (λ s g more. refl) s t g left more
          (first_broken (judged_parameter_groups first (seen_groups all)))
          split ensures.ok ensures.scope c.loop-group.invariant.judged;
      behind = turn_behind behind_parameter_groups behind_parameter_group (λ s g more. refl) s t (behind_parameter_groups first (seen_groups all)) g left more
          split ensures.scope c.loop-group.invariant.behind;
      wanted = parameters_more s t g left more c.loop-group.wanted c.judge_parameter_group.new.wanted
          (c.args.wanted.now ++ parameters_wanted first (seen_groups all))
          split ensures.scope ensures.wanted c.loop-group.invariant.wanted;
    }
