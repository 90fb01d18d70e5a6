use Rattle.std.proofs.Common.{◌≡◌, ◌++◌, sym, ap, ◌∙◌, rules}
use Rattle.pascal_tree.proofs.Joined.{joined3, turn_joined, joined6, for_joined}
use Rattle.pascal_tree.specs.SeenExpression.{seen_expr}
use Rattle.pascal_tree.specs.SeenStatement.{seen_if, seen_case, seen_for, seen_repeat, seen_while, seen_body, seen_branch, seen_branches, seen_statement, seen_sequence}
use Rattle.pascal_tree.specs.Statement.{if_then, case_of, for_do, while_do, repeat_until, body}
use Rattle.pascal_tree.specs.SpellStatement.{spelled_statement, spelled_body}
use Rattle.pascal_tree.specs.declared.statement.Body as bodies
use Rattle.pascal_tree.specs.declared.statement.Case as cases
use Rattle.pascal_tree.specs.declared.statement.For as fors
use Rattle.pascal_tree.specs.declared.statement.If as ifs
use Rattle.pascal_tree.specs.declared.statement.Repeat as repeats
use Rattle.pascal_tree.specs.declared.statement.While as whiles
use Rattle.pascal_tree.proofs.spell_statement.+spell_statement.Goals as goal

pub spell_case-returns : goal.spell_case-returns
spell_case-returns t c =
    let k = cases.out-Case c.args.choice.now in
    let made : seen_case c.args.choice.now ≡ case_of k.line (seen_expr k.selector) k.of (seen_branch k.first) (seen_branches c.deref.result.now) k.end
    = search (rules, cases.the_lemmas) in
    rw (c.in_ok-push_reserved-3.ensures, c.in_ok-spell_branches.ensures, c.in_ok-spell_branch.ensures)
    (rw (c.in_ok-push_reserved-2.ensures, c.in_ok-spell_expr.ensures, c.in_ok-push_reserved.ensures)
    (joined6 _ _ _ _ _ _ _ ∙ ap (λ words. c.args.out.now.items ++ words) (ap spelled_statement (sym made))))

pub spell_for-returns : goal.spell_for-returns
spell_for-returns t c =
    let k = fors.out-For c.args.repeated.now in
    let made : seen_for c.args.repeated.now ≡ for_do k.line k.control k.becomes (seen_expr k.from) k.direction k.toward (seen_expr k.to) k.does (seen_statement k.turn)
    = search (rules, fors.the_lemmas) in
    rw (c.in_ok-spell_statement.ensures, c.in_ok-push_reserved-2.ensures, c.in_ok-spell_expr-2.ensures)
    (rw (c.in_ok-push_direction.ensures, c.in_ok-spell_expr.ensures, c.in_ok-push_symbol.ensures)
    (rw (c.in_ok-push_name.ensures, c.in_ok-push_reserved.ensures)
    (for_joined _ _ _ _ _ _ _ _ _ ∙ ap (λ words. c.args.out.now.items ++ words) (ap spelled_statement (sym made)))))

pub spell_while-returns : goal.spell_while-returns
spell_while-returns t c =
    let k = whiles.out-While c.args.repeated.now in
    let made : seen_while c.args.repeated.now ≡ while_do k.line (seen_expr k.test) k.does (seen_statement k.turn) = search (rules, whiles.the_lemmas) in
    rw (c.in_ok-spell_statement.ensures, c.in_ok-push_reserved-2.ensures, c.in_ok-spell_expr.ensures, c.in_ok-push_reserved.ensures)
    (turn_joined _ _ _ _ _ ∙ ap (λ words. c.args.out.now.items ++ words) (ap spelled_statement (sym made)))

pub spell_repeat-returns : goal.spell_repeat-returns
spell_repeat-returns t c =
    let k = repeats.out-Repeat c.args.repeated.now in
    let made : seen_repeat c.args.repeated.now ≡ repeat_until k.line (seen_sequence k.turn) k.until (seen_expr k.test) = search (rules, repeats.the_lemmas) in
    rw (c.in_ok-spell_expr.ensures, c.in_ok-push_reserved-2.ensures, c.in_ok-spell_sequence.ensures, c.in_ok-push_reserved.ensures)
    (turn_joined _ _ _ _ _ ∙ ap (λ words. c.args.out.now.items ++ words) (ap spelled_statement (sym made)))

pub spell_body-returns : goal.spell_body-returns
spell_body-returns t c =
    let k = bodies.out-Body c.args.body.now in
    let made : seen_body c.args.body.now ≡ body k.begin (seen_sequence k.statements) k.end = search (rules, bodies.the_lemmas) in
    rw (c.in_ok-push_reserved-2.ensures, c.in_ok-spell_sequence.ensures, c.in_ok-push_reserved.ensures)
    (joined3 _ _ _ _ ∙ ap (λ words. c.args.out.now.items ++ words) (ap spelled_body (sym made)))

pub spell_if-returns-in-None : goal.spell_if-returns-in-None
spell_if-returns-in-None t c =
    let k = ifs.out-If c.args.conditional.now in
    let none = c.in-None.is in
    let made : seen_if c.args.conditional.now ≡ if_then k.line (seen_expr k.test) k.then (seen_statement k.first) = search (rules, ifs.the_lemmas) in
    rw (c.in_ok-spell_statement.ensures, c.in_ok-push_reserved-2.ensures, c.in_ok-spell_expr.ensures, c.in_ok-push_reserved.ensures)
    (turn_joined _ _ _ _ _ ∙ ap (λ words. c.args.out.now.items ++ words) (ap spelled_statement (sym made)))
