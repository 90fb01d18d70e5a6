use Rattle.std.proofs.Common.{◌≡◌, ◌∷◌, ◌+◌, drop, refl}
use Rattle.std.proofs.lemmas.Result.{err_from_is_err_and}
use Rattle.pascal_tree.specs.DeclarationRules.{judged_definition, judged_definitions, behind_definition, behind_definitions, first_broken}
use Rattle.pascal_check.proofs.Turns.{next_item, turn_judged, turn_behind, turn_fault}
use Rattle.pascal_check.proofs.definitions.judge_definitions.Goals as goal

pub returns-in_err-judge_definition-clause-broken : goal.returns-in_err-judge_definition-clause-broken
returns-in_err-judge_definition-clause-broken c =
    let fault = err_from_is_err_and c.from_residual.result c.from_residual.ensures.1 in
    let all = c.args.definitions.now in
    let i = c.loop-definition.definition-index in
    let split = next_item all i c.definition-item.result c.definition-item.is c.loop-definition-test.true in
    rw (fault.1, fault.2)
    (turn_fault judged_definition judged_definitions behind_definition (λ s d more. refl)
    c.loop-definition.scope c.definition-item.result (drop i all) (drop (i + 1) all)
    (judged_definitions c.args.scope.now all) c.in_err-judge_definition.field-0.0 split c.loop-definition.invariant.judged
    c.in_err-judge_definition.ensures.broken)

pub loop-definition-preserved : goal.loop-definition-preserved
loop-definition-preserved c =
    let all = c.args.definitions.now in
    let i = c.loop-definition.definition-index in
    let d = c.definition-item.result in
    let left = drop i all in
    let more = drop (i + 1) all in
    let split : left ≡ d ∷ more = next_item all i d c.definition-item.is c.loop-definition-test.true in
    let s = c.loop-definition.scope in
    let t = c.judge_definition.new.scope in
    record {
      judged = turn_judged judged_definition judged_definitions behind_definition (λ s d more. refl) s t d left more
          (first_broken (judged_definitions c.args.scope.now all))
          split c.in_ok-judge_definition.ensures.ok c.in_ok-judge_definition.ensures.scope c.loop-definition.invariant.judged;
      behind = turn_behind behind_definitions behind_definition (λ s d more. refl) s t (behind_definitions c.args.scope.now all) d left more
          split c.in_ok-judge_definition.ensures.scope c.loop-definition.invariant.behind;
    }
