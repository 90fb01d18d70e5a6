use Rattle.std.proofs.Common.{◌≡◌, ◌++◌, ◌≤◌, ◌-◌, [], ◌∷◌, map, take, drop, length, ◌∙◌, ap, rules, arith}
use Rattle.std.proofs.lemmas.Grind.{common_steps}
use Rattle.std.proofs.lemmas.Int.{to_z-of_z}
use Rattle.std.proofs.lemmas.List.{map_push}
use Rattle.std.proofs.lemmas.Option.{gets}
use Rattle.std.specs.Int.{w16, w32}
use mir.Val.{SFits, to_z, of_z}
use Rattle.pascal_tree.specs.Expression.{simple, element, index, arguments}
use Rattle.pascal_tree.specs.SeenExpression.{seen_expr, seen_simple, seen_term, seen_addends, seen_index, seen_factor, seen_arguments, seen_exprs}
use Rattle.pascal_tree.specs.declared.expression.Arguments as lists
use Rattle.pascal_tree.specs.declared.expression.Factor as factors
use Rattle.pascal_tree.specs.declared.expression.Index as indexes
use Rattle.pascal_tree.specs.declared.expression.Simple as simples
use Rattle.pascal_mean.specs.Situation.{Gives, and_then}
use Rattle.pascal_mean.specs.Calls.{passing_named}
use Rattle.pascal_mean.specs.Expressions.{factor_value, arguments_given, exprs_given}
use Rattle.pascal_mean.specs.Variables.{element_at}
use Rattle.pascal_evaluate.specs.SeenNames.{seen_sense}
use Rattle.pascal_evaluate.specs.Ran.{IsStopped}
use Rattle.pascal_evaluate.specs.SeenStore.{situation, seen_passing, all_given, seen_given, seen_extent}
use Rattle.pascal_evaluate.specs.SeenSetting.{seen_setting}
use Rattle.pascal_evaluate.proofs.Parts.{passed_on, stopped_then, stopped_first}
use Rattle.pascal_evaluate.proofs.Operands.{addend_stops, sum_stops, sum_goes, multiplier_stops, product_stops, product_goes, takes_no_more, argument_stops, argument_gives, more_passed_on, all_passed_on, first_stops, behind_the_first, whole_list, element_stops, element_gives}
use Rattle.pascal_evaluate.proofs.expression.+expression.Goals as goal

-- ---- Terms behind a first value

pub addends-returns-in_err-left : goal.addends-returns-in_err-left
addends-returns-in_err-left g t c =
    let word : SFits w16 c.in_ok-right.right = search rules in
    let rest = rw (to_z-of_z w16 c.args.first c.ranges.first) at c.loop-adding.invariant in
    let sum = rw (to_z-of_z w16 c.in_ok-right.right word) at c.added.ensures in
    let stopped = rw sum at (c.in_err-left.ensures (situation c.term.new.run)) in
    passed_on _ _ _ _ c.from_residual-in_err-left.ensures.1
    (sum_stops (seen_setting g.L.Level.free c.args.setting.now) c.args.rest.now c.loop-adding.adding-index c.loop-adding-item.result
    (to_z w16 c.loop-adding.left-bits)
    (situation c.loop-adding.run) _ c.loop-adding-test.true c.loop-adding-item.is rest c.in_ok-right.right (situation c.term.new.run) c.in_ok-right.ensures _
    stopped)

pub addends-returns-in_err-right : goal.addends-returns-in_err-right
addends-returns-in_err-right g t c =
    let rest = rw (to_z-of_z w16 c.args.first c.ranges.first) at c.loop-adding.invariant in
    passed_on _ _ _ _ c.from_residual.ensures.1
    (addend_stops (seen_setting g.L.Level.free c.args.setting.now) c.args.rest.now c.loop-adding.adding-index c.loop-adding-item.result
    (to_z w16 c.loop-adding.left-bits) (situation c.loop-adding.run) _ c.loop-adding-test.true c.loop-adding-item.is rest _ _
    c.in_err-right.ensures)

pub addends-loop-adding-preserved : goal.addends-loop-adding-preserved
addends-loop-adding-preserved g t c =
    let word : SFits w16 c.in_ok-right.right = search rules in
    let left_word : SFits w16 c.in_ok-left.left = search rules in
    let sum = rw (to_z-of_z w16 c.in_ok-right.right word) at c.added.ensures in
    let goes = rw sum at (c.in_ok-left.ensures (situation c.term.new.run)) in
    rw (to_z-of_z w16 c.in_ok-left.left left_word)
    (sum_goes (seen_setting g.L.Level.free c.args.setting.now) c.args.rest.now c.loop-adding.adding-index c.loop-adding-item.result
    (to_z w16 c.loop-adding.left-bits)
    (situation c.loop-adding.run) _ c.loop-adding-test.true c.loop-adding-item.is c.loop-adding.invariant c.in_ok-right.right (situation c.term.new.run)
    c.in_ok-right.ensures
    c.in_ok-left.left goes)

-- ---- Factors behind a first value

pub multipliers-returns-in_err-right : goal.multipliers-returns-in_err-right
multipliers-returns-in_err-right g t c =
    let rest = rw (to_z-of_z w16 c.args.first c.ranges.first) at c.loop-multiplying.invariant in
    passed_on _ _ _ _ c.from_residual.ensures.1
    (multiplier_stops (seen_setting g.L.Level.free c.args.setting.now) c.args.rest.now c.loop-multiplying.multiplying-index c.loop-multiplying-item.result
    (to_z w16 c.loop-multiplying.left-bits) (situation c.loop-multiplying.run) _ c.loop-multiplying-test.true c.loop-multiplying-item.is rest _ _
    c.in_err-right.ensures)

pub multipliers-returns-in_err-left : goal.multipliers-returns-in_err-left
multipliers-returns-in_err-left g t c =
    let word : SFits w16 c.in_ok-right.right = search rules in
    let rest = rw (to_z-of_z w16 c.args.first c.ranges.first) at c.loop-multiplying.invariant in
    let product = rw (to_z-of_z w16 c.in_ok-right.right word) at c.multiplied.ensures in
    let stopped = rw product at (c.in_err-left.ensures (situation c.factor.new.run)) in
    passed_on _ _ _ _ c.from_residual-in_err-left.ensures.1
    (product_stops (seen_setting g.L.Level.free c.args.setting.now) c.args.rest.now c.loop-multiplying.multiplying-index c.loop-multiplying-item.result
    (to_z w16 c.loop-multiplying.left-bits) (situation c.loop-multiplying.run) _ c.loop-multiplying-test.true c.loop-multiplying-item.is rest
    c.in_ok-right.right
    (situation c.factor.new.run) c.in_ok-right.ensures _ stopped)

pub multipliers-loop-multiplying-preserved : goal.multipliers-loop-multiplying-preserved
multipliers-loop-multiplying-preserved g t c =
    let word : SFits w16 c.in_ok-right.right = search rules in
    let left_word : SFits w16 c.in_ok-left.left = search rules in
    let product = rw (to_z-of_z w16 c.in_ok-right.right word) at c.multiplied.ensures in
    let goes = rw product at (c.in_ok-left.ensures (situation c.factor.new.run)) in
    rw (to_z-of_z w16 c.in_ok-left.left left_word)
    (product_goes (seen_setting g.L.Level.free c.args.setting.now) c.args.rest.now c.loop-multiplying.multiplying-index c.loop-multiplying-item.result
    (to_z w16 c.loop-multiplying.left-bits) (situation c.loop-multiplying.run) _ c.loop-multiplying-test.true c.loop-multiplying-item.is
    c.loop-multiplying.invariant
    c.in_ok-right.right (situation c.factor.new.run) c.in_ok-right.ensures c.in_ok-left.left goes)

-- ---- One expression

pub index-returns : goal.index-returns
index-returns g t c =
    let word : SFits w16 c.in_ok-value.value = search rules in
    let tested = rw (to_z-of_z w16 c.in_ok-value.value word) at (c.within.ensures (situation c.expr.new.run)) in
    let i = indexes.out-Index c.args.index.now in
    let made : seen_index c.args.index.now ≡ index i.opening (seen_expr i.place) i.closing = search (rules, indexes.the_lemmas) in
    rw (made, c.in_ok-value.ensures) tested

pub simple-returns-in_err-first : goal.simple-returns-in_err-first
simple-returns-in_err-first g t c =
    let word : SFits w16 c.in_ok-value.value = search rules in
    let stopped = rw (to_z-of_z w16 c.in_ok-value.value word) at (c.in_err-first.ensures (situation c.term.new.run)) in
    let s = simples.out-Simple c.args.s.now in
    let made : seen_simple c.args.s.now ≡ simple s.sign (seen_term s.first) (seen_addends s.rest.items) = search (rules, simples.the_lemmas) in
    passed_on _ _ _ _ c.from_residual-in_err-first.ensures.1
    (rw (made, c.in_ok-value.ensures) (stopped_then _ _ _ _ stopped))

pub simple-returns : goal.simple-returns
simple-returns g t c =
    let word : SFits w16 c.in_ok-value.value = search rules in
    let first_word : SFits w16 c.in_ok-first.first = search rules in
    let signed = rw (to_z-of_z w16 c.in_ok-value.value word) at (c.in_ok-first.ensures (situation c.term.new.run)) in
    let others = rw (to_z-of_z w16 c.in_ok-first.first first_word) at c.addends.ensures in
    let s = simples.out-Simple c.args.s.now in
    let made : seen_simple c.args.s.now ≡ simple s.sign (seen_term s.first) (seen_addends c.deref.result.now) = search (rules, simples.the_lemmas) in
    rw (made, c.in_ok-value.ensures, signed) others

-- ---- Factors

pub factor-returns-in_err-at-in-Element : goal.factor-returns-in_err-at-in-Element
factor-returns-in_err-at-in-Element g t c =
    let x = c.in-Element.name in
    let made : seen_factor c.args.f.now ≡ element x (seen_index c.deref.result.now) = search (rules, factors.the_lemmas) in
    let letters : c.bytes.result.now ≡ x.letters = search rules in
    let array = rw (c.find.ensures, letters) at (c.array_named-array.ensures x.letters) in
    let stopped : IsStopped (factor_value (seen_setting g.L.Level.free c.args.setting.now) (seen_factor c.args.f.now) (situation c.args.run.now))
    c.in_err-at-in-Element.field-0.0 (situation c.index.new.run) =
    rw made (element_stops (seen_setting g.L.Level.free c.args.setting.now) x (seen_index c.deref.result.now) (seen_extent c.array_named-array.result x.letters)
    (situation c.args.run.now) array _ _ c.in_err-at-in-Element.ensures) in
    passed_on _ _ _ _ c.from_residual.ensures.1 stopped

pub factor-returns-in_ok-at-in-Element : goal.factor-returns-in_ok-at-in-Element
factor-returns-in_ok-at-in-Element g t c =
    let x = c.in-Element.name in
    let a = seen_extent c.array_named-array.result x.letters in
    let made : seen_factor c.args.f.now ≡ element x (seen_index c.deref.result.now) = search (rules, factors.the_lemmas) in
    let letters : c.bytes.result.now ≡ x.letters = search rules in
    let letters_too : c.bytes-in-Element.result.now ≡ x.letters = search rules in
    let array = rw (c.find.ensures, letters) at (c.array_named-array.ensures x.letters) in
    let word : SFits w16 c.in_ok-at-in-Element.at = search rules in
    let element_word : SFits w16 c.element.result = search rules in
    let wide : SFits w32 c.in_ok-at-in-Element.at = search (rules, arith) in
    let from_is : c.from-in-Element.result ≡ c.in_ok-at-in-Element.at = c.from-in-Element.ensures ∙ to_z-of_z w16 c.in_ok-at-in-Element.at word in
    let at_is : to_z w32 (of_z w32 c.from-in-Element.result) ≡ c.in_ok-at-in-Element.at =
    ap (λ z. to_z w32 (of_z w32 z)) from_is ∙ to_z-of_z w32 c.in_ok-at-in-Element.at wide in
    let value : c.element.result ≡ element_at a c.in_ok-at-in-Element.at (situation c.index.new.run) = rw (at_is, letters_too) at c.element.ensures in
    rw (to_z-of_z w16 c.element.result element_word, value, made)
    (element_gives (seen_setting g.L.Level.free c.args.setting.now) x (seen_index c.deref.result.now) a (situation c.args.run.now) array _ _
    c.in_ok-at-in-Element.ensures)

-- ---- Arguments

pub arguments-returns-in_err-more_arguments-in-len1-up :
    goal.arguments-returns-in_err-more_arguments-in-len1-up
arguments-returns-in_err-more_arguments-in-len1-up g t c =
    let s = seen_setting g.L.Level.free c.args.setting.now in
    let ways = c.deref.result.now in
    let rest = seen_exprs c.deref-in-len1-up.result.now in
    let first = seen_given c.in_ok-value-in-len1-up.value in
    let a = lists.out-Arguments c.args.list.now in
    let made : seen_arguments c.args.list.now ≡ arguments a.opening (seen_expr a.first) rest a.closing = search (rules, lists.the_lemmas) in
    let named : map seen_passing ways ≡ passing_named (seen_sense c.args.sense) = search rules in
    let opened : arguments_given s (passing_named (seen_sense c.args.sense)) (arguments a.opening (seen_expr a.first) rest a.closing) (situation c.args.run.now)
    ≡ and_then (exprs_given s (map seen_passing (take (length ways - 1) (drop 1 ways))) rest (situation c.argument.new.run))
    (λ given then_is. Gives (first ∷ given) then_is)
    = behind_the_first s (seen_sense c.args.sense) ways _ (take (length ways - 1) (drop 1 ways)) a.opening (seen_expr a.first) rest a.closing
    (situation c.args.run.now) (situation c.argument.new.run) first named (whole_list ways _ c.in-len1-up.len_at_least) c.in_ok-value-in-len1-up.ensures in
    all_passed_on _ _ _ _ c.from_residual-in_err-more_arguments-in-len1-up.ensures.1
    (first_stops _ _ (λ given then_is. Gives (first ∷ given) then_is) (rw made opened) _ _ c.in_err-more_arguments-in-len1-up.ensures)

pub arguments-returns : goal.arguments-returns
arguments-returns g t c =
    let s = seen_setting g.L.Level.free c.args.setting.now in
    let ways = c.deref.result.now in
    let rest = seen_exprs c.deref-in-len1-up.result.now in
    let first = seen_given c.in_ok-value-in-len1-up.value in
    let a = lists.out-Arguments c.args.list.now in
    let made : seen_arguments c.args.list.now ≡ arguments a.opening (seen_expr a.first) rest a.closing = search (rules, lists.the_lemmas) in
    let named : map seen_passing ways ≡ passing_named (seen_sense c.args.sense) = search rules in
    let opened : arguments_given s (passing_named (seen_sense c.args.sense)) (arguments a.opening (seen_expr a.first) rest a.closing) (situation c.args.run.now)
    ≡ and_then (exprs_given s (map seen_passing (take (length ways - 1) (drop 1 ways))) rest (situation c.argument.new.run))
    (λ given then_is. Gives (first ∷ given) then_is)
    = behind_the_first s (seen_sense c.args.sense) ways _ (take (length ways - 1) (drop 1 ways)) a.opening (seen_expr a.first) rest a.closing
    (situation c.args.run.now) (situation c.argument.new.run) first named (whole_list ways _ c.in-len1-up.len_at_least) c.in_ok-value-in-len1-up.ensures in
    let pushed : all_given c.push.new.self.items ≡ first ∷ [] = search rules in
    rw made (opened ∙ rw pushed at c.in_ok-more_arguments-in-len1-up.ensures)

pub more_arguments-returns-in_default : goal.more_arguments-returns-in_default
more_arguments-returns-in_default g t c =
    let past : length c.args.passing.now ≤ c.loop-place.place = grind (arith, common_steps, gets) in
    takes_no_more (seen_setting g.L.Level.free c.args.setting.now) c.args.passing.now c.args.rest.now c.loop-place.place (all_given c.loop-place.given.items)
    (situation c.loop-place.run) _ c.loop-place.invariant past

pub more_arguments-returns-in_err-value : goal.more_arguments-returns-in_err-value
more_arguments-returns-in_err-value g t c =
    let stopped = rw (← c.index-rest-place.is) at c.in_err-value.ensures in
    more_passed_on _ _ _ _ _ _ c.from_residual.ensures.1
    (stopped_first _ (λ more. all_given c.args.given.now.items ++ more) _ _
    (argument_stops (seen_setting g.L.Level.free c.args.setting.now) c.args.passing.now c.args.rest.now c.loop-place.place (all_given c.loop-place.given.items)
    (situation c.loop-place.run) _ c.loop-place.invariant c.in-Some.next.now c.index-rest-place.result c.in-Some.ensures.lookup.3.0 c.in-Some.ensures.lookup.1
    c.loop-place-test.true c.index-rest-place.is _ _ stopped))

pub more_arguments-loop-place-preserved : goal.more_arguments-loop-place-preserved
more_arguments-loop-place-preserved g t c =
    let v = seen_given c.in_ok-value.value in
    let gives = rw (← c.index-rest-place.is) at c.in_ok-value.ensures in
    let pushed : all_given c.push.new.self.items ≡ all_given c.loop-place.given.items ++ v ∷ [] =
    ap all_given c.in_ok-push.ensures.items ∙ map_push seen_given c.loop-place.given.items c.in_ok-value.value in
    rw pushed
    (argument_gives (seen_setting g.L.Level.free c.args.setting.now) c.args.passing.now c.args.rest.now c.loop-place.place (all_given c.loop-place.given.items)
    (situation c.loop-place.run) _ c.loop-place.invariant c.in-Some.next.now c.index-rest-place.result c.in-Some.ensures.lookup.3.0 c.in-Some.ensures.lookup.1
    c.loop-place-test.true c.index-rest-place.is v (situation c.argument.new.run) gives)

pub argument-returns-in-ByVariable : goal.argument-returns-in-ByVariable
argument-returns-in-ByVariable g t c = rw (c.in-ByVariable.is, ← c.name_in.ensures) c.variable_given.ensures

pub argument-returns-in-ByArray : goal.argument-returns-in-ByArray
argument-returns-in-ByArray g t c = rw (c.in-ByArray.is, ← c.name_in-in-ByArray.ensures) c.array_given.ensures
