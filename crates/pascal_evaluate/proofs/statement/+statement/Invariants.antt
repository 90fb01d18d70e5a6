use Rattle.std.proofs.Common.{◌≡◌, ◌-◌, drop}
use Rattle.pascal_tree.specs.SeenStatement.{seen_statements, seen_branches, seen_while, seen_repeat, seen_for}
use Rattle.pascal_mean.specs.Statements.{after_statement, after_statements, after_branches}
use Rattle.pascal_evaluate.specs.SeenStore.{situation}
use Rattle.pascal_evaluate.specs.SeenSetting.{seen_setting}
use Rattle.pascal_evaluate.specs.Turns.{while_loop, repeat_loop, for_loop}
use Rattle.pascal_evaluate.proofs.statement.+statement.Given as goal

abbrev pub invariant-statements-loop-s : goal.invariant-statements-loop-s
invariant-statements-loop-s g l =
    let c = seen_setting g.L.Level.free l.setting in
    after_statements c (seen_statements (drop l.s-index l.rest)) (situation l.run) ≡ after_statements c (seen_statements l.rest) (situation l.fn.run)

abbrev pub invariant-while_do-loop-spent : goal.invariant-while_do-loop-spent
invariant-while_do-loop-spent g l =
    let c = seen_setting g.L.Level.free l.setting in
    while_loop c (seen_while l.w) (c.limit - l._spent) (situation l.run) ≡ after_statement c (seen_while l.w) (situation l.fn.run)

abbrev pub invariant-repeat_until-loop-spent : goal.invariant-repeat_until-loop-spent
invariant-repeat_until-loop-spent g l =
    let c = seen_setting g.L.Level.free l.setting in
    repeat_loop c (seen_repeat l.r) (c.limit - l._spent) (situation l.run) ≡ after_statement c (seen_repeat l.r) (situation l.fn.run)

abbrev pub invariant-for_do-loop-spent : goal.invariant-for_do-loop-spent
invariant-for_do-loop-spent g l =
    let c = seen_setting g.L.Level.free l.setting in
    for_loop c (seen_for l.f) (c.limit - l._spent) l.counter l.last (situation l.run) ≡ after_statement c (seen_for l.f) (situation l.fn.run)

abbrev pub invariant-branches-loop-branch : goal.invariant-branches-loop-branch
invariant-branches-loop-branch g l =
    let c = seen_setting g.L.Level.free l.setting in
    after_branches c l.value (seen_branches (drop l.branch-index l.rest)) (situation l.run)
    ≡ after_branches c l.value (seen_branches l.rest) (situation l.fn.run)
