use Rattle.std.proofs.Common.{◌≡◌, ◌∷◌, ◌++◌, sym, ap, ◌∙◌, rules}
use Rattle.std.proofs.lemmas.Result.{IfOk-weaker}
use Rattle.pascal_tree.specs.SeenExpression.{seen_expr, seen_exprs, seen_factor, seen_multipliers, seen_index, seen_arguments}
use Rattle.pascal_tree.specs.Expression.{group, index, arguments}
use Rattle.pascal_tree.specs.SpellExpression.{adding_word, multiplying_word, symbol_at, spelled_expr, spelled_term, spelled_factor, spelled_multipliers, spelled_index}
use Rattle.pascal_tree.specs.declared.token.Symbol.TheVariants as symbol
use Rattle.pascal_read.specs.ParseFirst.{word_at}
use Rattle.pascal_read.specs.ParseWants.{report}
use Rattle.pascal_read.specs.ParseWants as want
use Rattle.pascal_read.proofs.ParseJoined.{then_part, between}
use Rattle.pascal_read.proofs.ParseMade.{made_term, made_index, made_arguments, boxed_group}
use Rattle.pascal_read.proofs.ParseExpressionParts.{arguments_words, arguments_fit}
use Rattle.pascal_read.proofs.ParseRows.{addend_goes, multiplier_goes, comma_goes}
use Rattle.pascal_read.proofs.ParseLists.{one_more-addends, one_more-multipliers, one_more-exprs, AddendsFit-push, MultipliersFit-push, ExprsFit-push}
use Rattle.pascal_read.proofs.parse_expression.+expression.Goals as goal

pub addends-loop-adding-preserved : goal.addends-loop-adding-preserved
addends-loop-adding-preserved t c =
    let l = c.loop-adding in
    let a = c.in-Some.adding in
    let line = c.in-Some.line in
    let x = c.in_ok-term.term in
    let inside = c.take_adding.new.reader in
    let taken : l.reader ≡ word_at (adding_word a) line ∷ inside = search rules in (
      rw c.in_ok-push.ensures.items (one_more-addends l.rest.items (a, line, x) _ _ inside _ l.invariant.0 taken c.in_ok-term.ensures.words),
      rw c.in_ok-push.ensures.items (AddendsFit-push l.rest.items (a, line, x) c.args.levels l.invariant.1 c.in_ok-term.ensures.fits),
      λ y more. l.invariant.2 y more ∙ ap (λ ts. report ts (want.addends c.args.levels ∷ (y ∷ more))) taken ∙ addend_goes a line inside c.args.levels (y ∷ more)
          ∙ c.in_ok-term.ensures.goes (want.addends c.args.levels) (y ∷ more),
    )

pub multipliers-loop-multiplying-preserved : goal.multipliers-loop-multiplying-preserved
multipliers-loop-multiplying-preserved t c =
    let l = c.loop-multiplying in
    let a = c.in-Some.multiplying in
    let line = c.in-Some.line in
    let x = c.in_ok-factor.factor in
    let inside = c.take_multiplying.new.reader in
    let taken : l.reader ≡ word_at (multiplying_word a) line ∷ inside = search rules in (
      rw c.in_ok-push.ensures.items (one_more-multipliers l.rest.items (a, line, x) _ _ inside _ l.invariant.0 taken c.in_ok-factor.ensures.words),
      rw c.in_ok-push.ensures.items (MultipliersFit-push l.rest.items (a, line, x) c.args.levels l.invariant.1 c.in_ok-factor.ensures.fits),
      λ y more. l.invariant.2 y more ∙ ap (λ ts. report ts (want.multipliers c.args.levels ∷ (y ∷ more))) taken ∙ multiplier_goes a line inside c.args.levels (y ∷ more)
          ∙ c.in_ok-factor.ensures.goes (want.multipliers c.args.levels) (y ∷ more),
    )

pub more_exprs-loop-line-preserved : goal.more_exprs-loop-line-preserved
more_exprs-loop-line-preserved t c =
    let l = c.loop-line in
    let line = c.in-Some.line in
    let x = c.in_ok-expr.expr in
    let inside = c.take_symbol.new.self in
    let taken : l.reader ≡ symbol_at symbol.Comma line ∷ inside = search rules in (
      rw c.in_ok-push.ensures.items (one_more-exprs l.rest.items (line, x) _ _ inside _ l.invariant.0 taken c.in_ok-expr.ensures.words),
      rw c.in_ok-push.ensures.items (ExprsFit-push l.rest.items (line, x) c.args.levels l.invariant.1 c.in_ok-expr.ensures.fits),
      λ y more. l.invariant.2 y more ∙ ap (λ ts. report ts (want.more_exprs c.args.levels ∷ (y ∷ more))) taken ∙ comma_goes line inside c.args.levels (y ∷ more)
          ∙ c.in_ok-expr.ensures.goes (want.more_exprs c.args.levels) (y ∷ more),
    )

pub arguments-returns-clause-words : goal.arguments-returns-clause-words
arguments-returns-clause-words t c =
    IfOk-weaker c.boxed.result _ _
    (λ x e.
    let first = seen_expr c.in_ok-first.first in
    let rest = seen_exprs c.in_ok-rest.rest.items in
    let closing = c.in_ok-closing.closing in
    let made : seen_arguments x.value ≡ arguments c.args.opening first rest closing = ap seen_arguments e ∙ made_arguments _ _ _ _ in
    arguments_words c.args.opening closing first rest (seen_arguments x.value) _ _ _ _ made
    c.in_ok-first.ensures.words c.in_ok-rest.ensures.words c.in_ok-closing.ensures.taken)
    c.boxed.ensures.node

pub arguments-returns-clause-fits : goal.arguments-returns-clause-fits
arguments-returns-clause-fits t c =
    IfOk-weaker c.boxed.result _ _
    (λ x e.
    let first = seen_expr c.in_ok-first.first in
    let rest = seen_exprs c.in_ok-rest.rest.items in
    let closing = c.in_ok-closing.closing in
    let made : seen_arguments x.value ≡ arguments c.args.opening first rest closing = ap seen_arguments e ∙ made_arguments _ _ _ _ in
    arguments_fit c.args.opening closing c.args.levels first rest (seen_arguments x.value) made c.in_ok-first.ensures.fits c.in_ok-rest.ensures.fits)
    c.boxed.ensures.node

pub index-returns-clause-words : goal.index-returns-clause-words
index-returns-clause-words t c =
    IfOk-weaker c.boxed.result _ _
    (λ x e.
    let place = seen_expr c.in_ok-place.place in
    let closing = c.in_ok-closing.closing in
    let made : seen_index x.value ≡ index c.args.opening place closing = ap seen_index e ∙ made_index _ _ _ in
    between (symbol_at symbol.OpenIndex c.args.opening) (symbol_at symbol.CloseIndex closing) (spelled_expr place) _ _ _
    c.in_ok-place.ensures.words c.in_ok-closing.ensures.taken
    ∙ ap (λ i. spelled_index i ++ c.expect_symbol.new.reader) (sym made))
    c.boxed.ensures.node

pub group-returns-clause-words : goal.group-returns-clause-words
group-returns-clause-words t c =
    let closing = c.in_ok-closing.closing in
    between (symbol_at symbol.Open c.args.opening) (symbol_at symbol.Close closing) (spelled_expr (seen_expr
    c.in_ok-inner.inner)) _ _ _ c.in_ok-inner.ensures.words c.in_ok-closing.ensures.taken
    ∙ ap (λ x. spelled_factor x ++ c.expect_symbol.new.reader) (sym (boxed_group c.args.opening c.in_ok-boxed.field-0 closing
    ∙ ap (λ x. group c.args.opening (seen_expr x) closing) c.in_ok-boxed.ensures.node))

pub term-returns-clause-words : goal.term-returns-clause-words
term-returns-clause-words t c =
    then_part (spelled_factor (seen_factor c.in_ok-first.first)) (spelled_multipliers (seen_multipliers c.in_ok-rest.rest.items)) _ _ _
    c.in_ok-first.ensures.words c.in_ok-rest.ensures.words
    ∙ ap (λ x. spelled_term x ++ c.multipliers.new.reader) (sym (made_term c.in_ok-first.first c.in_ok-rest.rest))
