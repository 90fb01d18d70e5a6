use Rattle.std.proofs.Common.{◌≡◌, ℕ, ◌<◌, ◌∷◌, ◌+◌, List, length, map, drop, refl, ap, ◌∙◌, arith}
use Rattle.std.proofs.lemmas.Result.{err_from_is_err_and}
use Rattle.pascal_tree.specs.Scopes.{Scope}
use Rattle.pascal_tree.specs.Program.{Routine}
use Rattle.pascal_tree.specs.SeenProgram.{seen_routine}
use Rattle.pascal_tree.specs.ExpressionRules.{Judged}
use Rattle.pascal_tree.specs.DeclarationRules.{judged_routine, judged_routines, behind_heading, behind_routines, first_broken}
use Rattle.pascal_check.proofs.Turns.{next_item, turn_judged, turn_behind, turn_fault}
use Rattle.pascal_check.proofs.routines.judge_routines.Goals as goal

-- a program's scope, and how many routines stand before
abbrev Place : Type 0
Place = Scope × ℕ

abbrev one : Place → Routine → Judged
one at r = judged_routine at.0 at.1 r

abbrev several : Place → List Routine → Judged
several at rs = judged_routines at.0 at.1 rs

abbrev behind_one : Place → Routine → Place
behind_one at r = (behind_heading at.0 r, at.1 + 1)

pub returns-in_err-judge_routine-clause-broken : goal.returns-in_err-judge_routine-clause-broken
returns-in_err-judge_routine-clause-broken c =
    let fault = err_from_is_err_and c.from_residual.result c.from_residual.ensures.1 in
    let all = c.args.routines.now in
    let i = c.loop-place.place in
    let within : i < length all = omega arith in
    let split = ap (map seen_routine) (next_item all i c.index-routines-place.result c.index-routines-place.is within) in
    rw (fault.1, fault.2)
    (turn_fault one several behind_one (λ at r more. refl)
    (c.loop-place.scope, i) (seen_routine c.index-routines-place.result) (map seen_routine (drop i all)) (map seen_routine (drop (i + 1) all))
    (judged_routines c.args.scope.now 0 (map seen_routine all)) c.in_err-judge_routine.field-0.0 split c.loop-place.invariant.judged
    c.in_err-judge_routine.ensures.broken)

pub loop-place-preserved : goal.loop-place-preserved
loop-place-preserved c =
    let all = c.args.routines.now in
    let i = c.loop-place.place in
    let r = seen_routine c.index-routines-place.result in
    let left = map seen_routine (drop i all) in
    let more = map seen_routine (drop (i + 1) all) in
    let within : i < length all = omega arith in
    let split : left ≡ r ∷ more = ap (map seen_routine) (next_item all i c.index-routines-place.result c.index-routines-place.is within) in
    let s = c.loop-place.scope in
    let t = c.judge_routine.new.scope in
    let at = c.in_ok-judge_routine.ensures.scope in
    let before = c.loop-place.invariant in
    record {
      of_program = (ap (λ u. u.outer) at ∙ before.of_program.0, ap (λ u. u.within) at ∙ before.of_program.1);
      judged = turn_judged one several behind_one (λ at r more. refl) (s, i) (t, i + 1) r left more
          (first_broken (judged_routines c.args.scope.now 0 (map seen_routine all)))
          split c.in_ok-judge_routine.ensures.ok (ap (λ u. (u, i + 1)) at) before.judged;
      behind = turn_behind behind_routines behind_heading (λ s r more. refl) s t (behind_routines c.args.scope.now (map seen_routine all)) r left more
          split at before.behind;
    }
