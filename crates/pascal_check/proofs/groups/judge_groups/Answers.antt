use Rattle.std.proofs.Common.{◌≡◌, ◌∷◌, ◌+◌, map, drop, refl, ap}
use Rattle.std.proofs.lemmas.Result.{err_from_is_err_and}
use Rattle.pascal_tree.specs.SeenProgram.{seen_group}
use Rattle.pascal_tree.specs.DeclarationRules.{judged_group, judged_groups, behind_group, behind_groups, first_broken}
use Rattle.pascal_check.proofs.Turns.{next_item, turn_judged, turn_behind, turn_fault}
use Rattle.pascal_check.proofs.groups.judge_groups.Goals as goal

pub returns-in_err-used-clause-broken : goal.returns-in_err-used-clause-broken
returns-in_err-used-clause-broken c =
    let fault = err_from_is_err_and c.from_residual.result c.from_residual.ensures.1 in
    let all = c.args.groups.now in
    let i = c.loop-group.group-index in
    let split = ap (map seen_group) (next_item all i c.group-item.result c.group-item.is c.loop-group-test.true) in
    rw (fault.1, fault.2)
    (turn_fault judged_group judged_groups behind_group (λ s g more. refl)
    c.loop-group.scope (seen_group c.group-item.result) (map seen_group (drop i all)) (map seen_group (drop (i + 1) all))
    (judged_groups c.args.scope.now (map seen_group all)) c.in_err-used.field-0.0 split c.loop-group.invariant.judged c.in_err-used.ensures.broken)

pub loop-group-preserved : goal.loop-group-preserved
loop-group-preserved c =
    let all = c.args.groups.now in
    let i = c.loop-group.group-index in
    let g = seen_group c.group-item.result in
    let left = map seen_group (drop i all) in
    let more = map seen_group (drop (i + 1) all) in
    let split : left ≡ g ∷ more = ap (map seen_group) (next_item all i c.group-item.result c.group-item.is c.loop-group-test.true) in
    let s = c.loop-group.scope in
    let t = c.judge_group.new.scope in
    record {
      used = c.in_ok-used.ensures.used;
      most = c.in_ok-used.ensures.most;
      judged = turn_judged judged_group judged_groups behind_group (λ s g more. refl) s t g left more
          (first_broken (judged_groups c.args.scope.now (map seen_group all)))
          split c.in_ok-used.ensures.ok c.in_ok-used.ensures.scope c.loop-group.invariant.judged;
      behind = turn_behind behind_groups behind_group (λ s g more. refl) s t (behind_groups c.args.scope.now (map seen_group all)) g left more
          split c.in_ok-used.ensures.scope c.loop-group.invariant.behind;
    }
