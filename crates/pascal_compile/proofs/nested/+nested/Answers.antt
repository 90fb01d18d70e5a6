use Rattle.std.proofs.Common.{◌≡◌, ℕ, ◌+◌, ap, ◌∙◌, sym, rules, arith}
use Rattle.std.specs.Prelude.{max, min}
use Rattle.pascal_tree.specs.Statement.{sequence, case_of}
use Rattle.pascal_tree.specs.SeenExpression.{seen_expr}
use Rattle.pascal_tree.specs.SeenStatement.{seen_statement, seen_sequence, seen_statements, seen_case, seen_branch, seen_branches}
use Rattle.pascal_tree.specs.declared.statement.Statements.{out-Statements}
use Rattle.pascal_tree.specs.declared.statement.Case.{out-Case}
use Rattle.pascal_tree.specs.declared.statement.While.{the_lemmas}
use Rattle.pascal_code.specs.Code.{nested_words, nested_in_sequence}
use Rattle.pascal_compile.proofs.nested.+nested.Goals as goal

-- the greater of two, as far as 16 bits count them
greater : (most first others n m : ℕ) → most ≡ max first others → first ≡ min n 65535 → others ≡ min m 65535 → most ≡ min (max n m) 65535
greater most first others n m is first_is others_is = omega (arith, is, first_is, others_is)

one_more : (more most n : ℕ) → more ≡ min (most + 1) 65535 → most ≡ min n 65535 → more ≡ min (n + 1) 65535
one_more more most n is most_is = omega (arith, is, most_is)

pub nested_in_sequence-returns : goal.nested_in_sequence-returns
nested_in_sequence-returns t c =
    let s = out-Statements c.args.s.now in
    let seen : seen_sequence c.args.s.now ≡ sequence (seen_statement s.first) (seen_statements c.deref.result.now) = search (rules, the_lemmas) in
    let most : c.max.result ≡ max c.nested_words.result c.nested_in_statements.result = search rules in
    greater c.max.result _ _ _ _ most c.nested_words.ensures c.nested_in_statements.ensures
    ∙ ap (λ q. min (nested_in_sequence q) 65535) (sym seen)

pub nested_in_case-returns : goal.nested_in_case-returns
nested_in_case-returns t c =
    let k = out-Case c.args.choice.now in
    let seen : seen_case c.args.choice.now ≡ case_of k.line (seen_expr k.selector) k.of (seen_branch k.first) (seen_branches c.deref.result.now) k.end
    = search (rules, the_lemmas) in
    let most : c.max.result ≡ max c.nested_in_branch.result c.nested_in_branches.result = search rules in
    let more : c.saturating_add.result ≡ min (c.max.result + 1) 65535 = search rules in
    one_more c.saturating_add.result c.max.result _ more (greater c.max.result _ _ _ _ most c.nested_in_branch.ensures c.nested_in_branches.ensures)
    ∙ ap (λ s. min (nested_words s) 65535) (sym seen)
