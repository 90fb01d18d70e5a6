use Rattle.std.proofs.Common.{◌≡◌, true, false, sym, ◌∙◌, rules, arith, ℤ, ◌+◌, ◌-◌, ap, subst}
use Rattle.std.proofs.lemmas.Int.{to_z-of_z}
use Rattle.std.specs.Int.{w16}
use mir.Val.{SFits, to_z, of_z}
use Rattle.pascal_tree.specs.Statement.{while_do, repeat_until, branch, for_do}
use Rattle.pascal_tree.specs.SeenExpression.{seen_expr}
use Rattle.pascal_tree.specs.SeenStatement.{seen_statement, seen_sequence, seen_while, seen_repeat, seen_branch, seen_labels, seen_for}
use Rattle.pascal_tree.specs.declared.statement.While as whiles
use Rattle.pascal_tree.specs.declared.statement.Repeat as repeats
use Rattle.pascal_tree.specs.declared.statement.Branch as branch_type
use Rattle.pascal_mean.specs.Expressions.{is_true, is_false}
use Rattle.pascal_mean.specs.Statements.{after_statement, after_sequence}
use Rattle.pascal_mean.specs.Situation.{Gives}
use Rattle.pascal_evaluate.specs.Turns.{while_turn, repeat_turn, for_loop}
use Rattle.pascal_evaluate.specs.SeenStore.{situation}
use Rattle.pascal_evaluate.specs.SeenSetting.{seen_setting}
use Rattle.pascal_evaluate.proofs.Parts.{passed_on}
use Rattle.pascal_evaluate.proofs.Loops.{loop_late, count_late}
use Rattle.pascal_evaluate.proofs.Turned.{while_stops, while_goes, while_ends, repeat_stops, repeat_goes, repeat_ends, branches_over, branch_taken, branch_passed, for_stops, for_goes, for_ends}
use Rattle.pascal_tree.specs.declared.statement.For as fors
use Rattle.pascal_mean.specs.Variables.{assigned}
use Rattle.pascal_evaluate.proofs.Counts.{turn_stops, turn_is_last, turn_goes_on, for_opens}
use Rattle.pascal_evaluate.proofs.statement.+statement.Goals as goal

-- ---- WHILE

pub while_do-returns-in_err-while_turn : goal.while_do-returns-in_err-while_turn
while_do-returns-in_err-while_turn g t c =
    passed_on _ _ _ _ c.from_residual-in_err-while_turn.ensures.1
    (while_stops (seen_setting g.L.Level.free c.args.setting.now) (seen_while c.args.w.now) c.loop-spent._spent (situation c.loop-spent.run) _
    c.loop-spent.invariant c.loop-spent-test.true _ _ c.in_err-while_turn.ensures)

pub while_do-returns-then-not-branch : goal.while_do-returns-then-not-branch
while_do-returns-then-not-branch g t c =
    let s = seen_setting g.L.Level.free c.args.setting.now in
    let gives : while_turn s (seen_while c.args.w.now) (situation c.loop-spent.run) ≡ Gives false (situation c.while_turn.new.run) =
    first_of (cc (c.in_ok-while_turn.ensures), search (rules, arith, c.in_ok-while_turn.ensures)) in
    while_ends s (seen_while c.args.w.now) c.loop-spent._spent (situation c.loop-spent.run) _ c.loop-spent.invariant c.loop-spent-test.true _ gives

pub while_do-returns : goal.while_do-returns
while_do-returns g t c =
    let s = seen_setting g.L.Level.free c.args.setting.now in
    let w = whiles.out-While c.args.w.now in
    let made : seen_while c.args.w.now ≡ while_do w.line (seen_expr w.test) w.does (seen_statement w.turn) = search (rules, whiles.the_lemmas) in
    let left = rw made at c.loop-spent.invariant in
    rw made (loop_late s.limit c.loop-spent._spent w.line (is_true s (seen_expr w.test)) (after_statement s (seen_statement w.turn))
    (situation c.loop-spent.run) _ left c.loop-spent-test.false)

pub while_do-loop-spent-init : goal.while_do-loop-spent-init
while_do-loop-spent-init g t c =
    let w = whiles.out-While c.args.w.now in
    let made : seen_while c.args.w.now ≡ while_do w.line (seen_expr w.test) w.does (seen_statement w.turn) = search (rules, whiles.the_lemmas) in
    rw (made, c.in_ok-tick.ensures)

pub while_do-loop-spent-preserved : goal.while_do-loop-spent-preserved
while_do-loop-spent-preserved g t c =
    let s = seen_setting g.L.Level.free c.args.setting.now in
    let gives : while_turn s (seen_while c.args.w.now) (situation c.loop-spent.run) ≡ Gives true (situation c.while_turn.new.run) =
    first_of (cc (c.in_ok-while_turn.ensures), search (rules, arith, c.in_ok-while_turn.ensures)) in
    while_goes s (seen_while c.args.w.now) c.loop-spent._spent (situation c.loop-spent.run) _ c.loop-spent.invariant c.loop-spent-test.true _ gives

-- ---- REPEAT

pub repeat_until-loop-spent-init : goal.repeat_until-loop-spent-init
repeat_until-loop-spent-init g t c =
    let r = repeats.out-Repeat c.args.r.now in
    let made : seen_repeat c.args.r.now ≡ repeat_until r.line (seen_sequence r.turn) r.until (seen_expr r.test) = search (rules, repeats.the_lemmas) in
    rw (made, c.in_ok-tick.ensures, c.in_ok-sequence.ensures)

pub repeat_until-loop-spent-preserved : goal.repeat_until-loop-spent-preserved
repeat_until-loop-spent-preserved g t c =
    let s = seen_setting g.L.Level.free c.args.setting.now in
    let gives : repeat_turn s (seen_repeat c.args.r.now) (situation c.loop-spent.run) ≡ Gives true (situation c.repeat_turn.new.run) =
    first_of (cc (c.in_ok-repeat_turn.ensures), search (rules, arith, c.in_ok-repeat_turn.ensures)) in
    repeat_goes s (seen_repeat c.args.r.now) c.loop-spent._spent (situation c.loop-spent.run) _ c.loop-spent.invariant c.loop-spent-test.true _ gives

pub repeat_until-returns-in_err-repeat_turn : goal.repeat_until-returns-in_err-repeat_turn
repeat_until-returns-in_err-repeat_turn g t c =
    passed_on _ _ _ _ c.from_residual-in_err-repeat_turn.ensures.1
    (repeat_stops (seen_setting g.L.Level.free c.args.setting.now) (seen_repeat c.args.r.now) c.loop-spent._spent (situation c.loop-spent.run) _
    c.loop-spent.invariant c.loop-spent-test.true _ _ c.in_err-repeat_turn.ensures)

pub repeat_until-returns-then-not-branch : goal.repeat_until-returns-then-not-branch
repeat_until-returns-then-not-branch g t c =
    let s = seen_setting g.L.Level.free c.args.setting.now in
    let gives : repeat_turn s (seen_repeat c.args.r.now) (situation c.loop-spent.run) ≡ Gives false (situation c.repeat_turn.new.run) =
    first_of (cc (c.in_ok-repeat_turn.ensures), search (rules, arith, c.in_ok-repeat_turn.ensures)) in
    repeat_ends s (seen_repeat c.args.r.now) c.loop-spent._spent (situation c.loop-spent.run) _ c.loop-spent.invariant c.loop-spent-test.true _ gives

pub repeat_until-returns : goal.repeat_until-returns
repeat_until-returns g t c =
    let s = seen_setting g.L.Level.free c.args.setting.now in
    let r = repeats.out-Repeat c.args.r.now in
    let made : seen_repeat c.args.r.now ≡ repeat_until r.line (seen_sequence r.turn) r.until (seen_expr r.test) = search (rules, repeats.the_lemmas) in
    let left = rw made at c.loop-spent.invariant in
    rw made (loop_late s.limit c.loop-spent._spent r.line (is_false s (seen_expr r.test)) (after_sequence s (seen_sequence r.turn))
    (situation c.loop-spent.run) _ left c.loop-spent-test.false)

-- ---- CASE

pub branches-returns-then-is_labelled : goal.branches-returns-then-is_labelled
branches-returns-then-is_labelled g t c =
    let s = seen_setting g.L.Level.free c.args.setting.now in
    let left = rw (to_z-of_z w16 c.args.value c.ranges.value) at c.loop-branch.invariant in
    let test = rw (to_z-of_z w16 c.args.value c.ranges.value) at c.is_labelled.ensures in
    let b = branch_type.out-Branch c.loop-branch-item.result.1 in
    let made : seen_branch c.loop-branch-item.result.1 ≡ branch (seen_labels b.labels) b.colon (seen_statement b.statement)
    = search (rules, branch_type.the_lemmas) in
    rw (branch_taken s c.args.value c.args.rest.now c.loop-branch.branch-index (situation c.loop-branch.run) _ left c.loop-branch-item.result
    c.loop-branch-test.true
    c.loop-branch-item.is (seen_labels b.labels) b.colon (seen_statement b.statement) made (sym test ∙ c.if-is_labelled.true))
    c.statement.ensures

pub branches-loop-branch-preserved : goal.branches-loop-branch-preserved
branches-loop-branch-preserved g t c =
    let s = seen_setting g.L.Level.free c.args.setting.now in
    let b = branch_type.out-Branch c.loop-branch-item.result.1 in
    let made : seen_branch c.loop-branch-item.result.1 ≡ branch (seen_labels b.labels) b.colon (seen_statement b.statement)
    = search (rules, branch_type.the_lemmas) in
    branch_passed s (to_z w16 (of_z w16 c.args.value)) c.args.rest.now c.loop-branch.branch-index (situation c.loop-branch.run) _ c.loop-branch.invariant
    c.loop-branch-item.result c.loop-branch-test.true c.loop-branch-item.is (seen_labels b.labels) b.colon (seen_statement b.statement) made
    (sym c.is_labelled.ensures ∙ c.if-is_labelled.false)

pub branches-returns : goal.branches-returns
branches-returns g t c =
    let s = seen_setting g.L.Level.free c.args.setting.now in
    let left = rw (to_z-of_z w16 c.args.value c.ranges.value) at c.loop-branch.invariant in
    branches_over s c.args.value c.args.rest.now c.loop-branch.branch-index (situation c.loop-branch.run) _ left c.loop-branch-test.false

-- ---- FOR

pub for_turn-returns-in_err-statement : goal.for_turn-returns-in_err-statement
for_turn-returns-in_err-statement g t c =
    let s = seen_setting g.L.Level.free c.args.setting.now in
    let f = fors.out-For c.args.f.now in
    let made : seen_for c.args.f.now ≡ for_do f.line f.control f.becomes (seen_expr f.from) f.direction f.toward (seen_expr f.to) f.does
    (seen_statement f.turn) =
    search (rules, fors.the_lemmas) in
    let set = assigned (s.scope f.control.letters) s.number f.control.letters in
    let turn = after_statement s (seen_statement f.turn) in
    let counter_is = to_z-of_z w16 c.args.counter c.ranges.counter in
    let last_is = to_z-of_z w16 c.args.last c.ranges.last in
    let sets = c.in_ok-set_named.ensures ∙ ap (λ (v : ℤ). set v (situation c.tick.new.self)) counter_is in
    passed_on _ _ _ _ c.from_residual-in_err-statement.ensures.1
    (rw made (turn_stops s.limit f.line f.direction set turn c.args.last c.args.counter (situation c.args.run.now) (situation c.tick.new.self)
    (situation c.set_named.new.run)
    c.in_ok-tick.ensures sets _ _ c.in_err-statement.ensures))

pub for_turn-returns-then-not-before_last : goal.for_turn-returns-then-not-before_last
for_turn-returns-then-not-before_last g t c =
    let s = seen_setting g.L.Level.free c.args.setting.now in
    let f = fors.out-For c.args.f.now in
    let made : seen_for c.args.f.now ≡ for_do f.line f.control f.becomes (seen_expr f.from) f.direction f.toward (seen_expr f.to) f.does
    (seen_statement f.turn) =
    search (rules, fors.the_lemmas) in
    let set = assigned (s.scope f.control.letters) s.number f.control.letters in
    let turn = after_statement s (seen_statement f.turn) in
    let counter_is = to_z-of_z w16 c.args.counter c.ranges.counter in
    let last_is = to_z-of_z w16 c.args.last c.ranges.last in
    let sets = c.in_ok-set_named.ensures ∙ ap (λ (v : ℤ). set v (situation c.tick.new.self)) counter_is in
    let late = rw (counter_is, last_is) at (sym c.before_last.ensures ∙ c.if-not-before_last.true) in
    rw made (turn_is_last s.limit f.line f.direction set turn c.args.last c.args.counter (situation c.args.run.now) (situation c.tick.new.self)
    (situation c.set_named.new.run)
    c.in_ok-tick.ensures sets (situation c.statement.new.run) c.in_ok-statement.ensures late)

pub for_turn-returns-in-Some : goal.for_turn-returns-in-Some
for_turn-returns-in-Some g t c =
    let s = seen_setting g.L.Level.free c.args.setting.now in
    let f = fors.out-For c.args.f.now in
    let made : seen_for c.args.f.now ≡ for_do f.line f.control f.becomes (seen_expr f.from) f.direction f.toward (seen_expr f.to) f.does
    (seen_statement f.turn) =
    search (rules, fors.the_lemmas) in
    let set = assigned (s.scope f.control.letters) s.number f.control.letters in
    let turn = after_statement s (seen_statement f.turn) in
    let counter_is = to_z-of_z w16 c.args.counter c.ranges.counter in
    let last_is = to_z-of_z w16 c.args.last c.ranges.last in
    let sets = c.in_ok-set_named.ensures ∙ ap (λ (v : ℤ). set v (situation c.tick.new.self)) counter_is in
    let word : SFits w16 c.in-Some.next = search rules in
    let early = rw (counter_is, last_is) at (sym c.before_last.ensures ∙ c.if-not-before_last.false) in
    let next_is = rw counter_is at (sym c.next_count.ensures ∙ c.in-Some.is) in
    rw (made, to_z-of_z w16 c.in-Some.next word)
    (turn_goes_on s.limit f.line f.direction set turn c.args.last c.args.counter (situation c.args.run.now) (situation c.tick.new.self)
    (situation c.set_named.new.run)
    c.in_ok-tick.ensures sets (situation c.statement.new.run) c.in-Some.next c.in_ok-statement.ensures early next_is)

pub for_do-loop-spent-init : goal.for_do-loop-spent-init
for_do-loop-spent-init g t c =
    let s = seen_setting g.L.Level.free c.args.setting.now in
    let f = fors.out-For c.args.f.now in
    let made : seen_for c.args.f.now ≡ for_do f.line f.control f.becomes (seen_expr f.from) f.direction f.toward (seen_expr f.to) f.does
    (seen_statement f.turn) =
    search (rules, fors.the_lemmas) in
    let first_word : SFits w16 c.in_ok-first.first = search rules in
    let last_word : SFits w16 c.in_ok-last.last = search rules in
    let first_is = to_z-of_z w16 c.in_ok-first.first first_word in
    let last_is = to_z-of_z w16 c.in_ok-last.last last_word in
    let reaches = rw (first_is, last_is) at (sym c.within_reach.ensures ∙ c.if-not-within_reach.false) in
    let whole = after_statement s (seen_for c.args.f.now) (situation c.args.run.now) in
    let run = situation c.expr-2.new.run in
    let begins : for_loop s (seen_for c.args.f.now) (s.limit - run.ticks) c.in_ok-first.first c.in_ok-last.last run ≡ whole =
    rw made (for_opens s f.line f.control f.becomes (seen_expr f.from) f.direction f.toward (seen_expr f.to) f.does (seen_statement f.turn)
    (situation c.args.run.now) (situation c.tick.new.self) (situation c.expr.new.run) run c.in_ok-first.first c.in_ok-last.last
    c.in_ok-tick.ensures c.in_ok-first.ensures c.in_ok-last.ensures reaches) in
    let to_last : for_loop s (seen_for c.args.f.now) (s.limit - run.ticks) c.in_ok-first.first (to_z w16 (of_z w16 c.in_ok-last.last)) run ≡ whole =
    subst (λ (v : ℤ). for_loop s (seen_for c.args.f.now) (s.limit - run.ticks) c.in_ok-first.first v run ≡ whole) (sym last_is) begins in
    subst (λ (v : ℤ). for_loop s (seen_for c.args.f.now) (s.limit - run.ticks) v (to_z w16 (of_z w16 c.in_ok-last.last)) run ≡ whole) (sym first_is) to_last

pub for_do-loop-spent-preserved : goal.for_do-loop-spent-preserved
for_do-loop-spent-preserved g t c =
    let s = seen_setting g.L.Level.free c.args.setting.now in
    let word : SFits w16 c.in-Some.next = search rules in
    let gives = rw c.in-Some.is at c.in_ok-next.ensures in
    let goes = for_goes s (seen_for c.args.f.now) c.loop-spent._spent (to_z w16 c.loop-spent.counter-bits) (to_z w16 (of_z w16 c.in_ok-last.last))
    (situation c.loop-spent.run) _ c.loop-spent.invariant c.loop-spent-test.true c.in-Some.next (situation c.for_turn.new.run) gives in
    subst (λ (v : ℤ). for_loop s (seen_for c.args.f.now) (s.limit - (c.loop-spent._spent + 1)) v (to_z w16 (of_z w16 c.in_ok-last.last))
    (situation c.for_turn.new.run) ≡ after_statement s (seen_for c.args.f.now) (situation c.args.run.now)) (sym (to_z-of_z w16 c.in-Some.next word)) goes

pub for_do-returns-in_err-next : goal.for_do-returns-in_err-next
for_do-returns-in_err-next g t c =
    passed_on _ _ _ _ c.from_residual-in_err-next.ensures.1
    (for_stops (seen_setting g.L.Level.free c.args.setting.now) (seen_for c.args.f.now) c.loop-spent._spent (to_z w16 c.loop-spent.counter-bits)
    (to_z w16 (of_z w16 c.in_ok-last.last)) (situation c.loop-spent.run) _
    c.loop-spent.invariant c.loop-spent-test.true _ _ c.in_err-next.ensures)

pub for_do-returns-in-None : goal.for_do-returns-in-None
for_do-returns-in-None g t c =
    let gives = rw c.in-None.is at c.in_ok-next.ensures in
    for_ends (seen_setting g.L.Level.free c.args.setting.now) (seen_for c.args.f.now) c.loop-spent._spent (to_z w16 c.loop-spent.counter-bits)
    (to_z w16 (of_z w16 c.in_ok-last.last)) (situation c.loop-spent.run) _
    c.loop-spent.invariant c.loop-spent-test.true (situation c.for_turn.new.run) gives

pub for_do-returns : goal.for_do-returns
for_do-returns g t c =
    let s = seen_setting g.L.Level.free c.args.setting.now in
    let f = fors.out-For c.args.f.now in
    let made : seen_for c.args.f.now ≡ for_do f.line f.control f.becomes (seen_expr f.from) f.direction f.toward (seen_expr f.to) f.does
    (seen_statement f.turn) =
    search (rules, fors.the_lemmas) in
    let set = assigned (s.scope f.control.letters) s.number f.control.letters in
    let turn = after_statement s (seen_statement f.turn) in
    let left = rw made at c.loop-spent.invariant in
    rw made (count_late s.limit c.loop-spent._spent f.line f.direction set turn (to_z w16 (of_z w16 c.in_ok-last.last)) (to_z w16 c.loop-spent.counter-bits)
    (situation c.loop-spent.run) _ left c.loop-spent-test.false)
