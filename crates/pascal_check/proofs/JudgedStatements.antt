-- What is said of the values of the code that stand for statements of several parts.
use Rattle.std.proofs.Common.{◌≡◌, ℕ, ◌++◌, ◌&&◌, [], List, ℤ, Option, Some, None, ap, sym, subst, ◌∙◌}
use Rattle.pascal_tree.specs.Scopes.{Scope, same_scalar}
use Rattle.pascal_tree.specs.SeenExpression.{seen_expr}
use Rattle.pascal_tree.specs.SeenStatement.{if_of, seen_labels, seen_if, seen_for, seen_case, seen_statement, seen_branch, seen_branches}
use Rattle.pascal_tree.specs.ExpressionRules.{judged_expr, expr_type}
use Rattle.pascal_tree.specs.StatementRules.{judged_statement, judged_branch, judged_branches, judged_labels, judged_control, values_of_branch}
use Rattle.pascal_tree.specs.DeclarationRules.{first_broken}
use Rattle.pascal_tree.specs.declared.scalar.Scalar.{Scalar}
use Rattle.pascal_tree.specs.declared.scalar.Scalar.TheVariants as scalar
use Rattle.pascal_tree.specs.declared.statement.Statement as statements
use Rattle.pascal_tree.specs.declared.statement.If as if_type
use Rattle.pascal_tree.specs.declared.statement.If.{out-If}
use Rattle.pascal_tree.specs.declared.statement.For as for_type
use Rattle.pascal_tree.specs.declared.statement.For.{out-For}
use Rattle.pascal_tree.specs.declared.statement.Case as case_type
use Rattle.pascal_tree.specs.declared.statement.Case.{out-Case}
use Rattle.pascal_tree.specs.declared.statement.Branch as branch_type
use Rattle.pascal_tree.specs.declared.statement.Branch.{out-Branch}
use Rattle.pascal_check.proofs.Firsts.{first_behind}
use Rattle.pascal_check.proofs.SeenParts.{seen_otherwise, seen_if_is, seen_for_is, seen_case_is, seen_branch_is}
use Rattle.pascal_check.proofs.Judging.{test_of, otherwise_of, if_is, for_is, case_is, behind_two}

-- ---- IF

-- the parts of an IF, whose ELSE is this
pub if_nodes : (s : Scope) (i : if_type.If) (o : Option (ℕ × statements.Statement)) → (out-If i).otherwise ≡ o
    → judged_statement s (seen_if i) ≡ judged_expr s (seen_expr (out-If i).test) ++ (judged_statement s (seen_statement (out-If i).first)
    ++ (otherwise_of s (seen_otherwise o) ++ test_of s (seen_expr (out-If i).test) (out-If i).line))
if_nodes s i o is =
    let k = out-If i in
    ap (judged_statement s) (seen_if_is i)
    ∙ ap (λ o. judged_statement s (if_of k.line (seen_expr k.test) k.then (seen_statement k.first) (seen_otherwise o))) is
    ∙ if_is s k.line (seen_expr k.test) k.then (seen_statement k.first) (seen_otherwise o)

-- an IF without an ELSE whose statement breaks no rule, and one with an ELSE whose statements break none
pub if_test : (s : Scope) (i : if_type.If) → (out-If i).otherwise ≡ None
    → first_broken (judged_expr s (seen_expr (out-If i).test)) ≡ None → first_broken (judged_statement s (seen_statement (out-If i).first)) ≡ None
    → first_broken (judged_statement s (seen_if i)) ≡ first_broken (test_of s (seen_expr (out-If i).test) (out-If i).line)
if_test s i is none none_too =
    let k = out-If i in
    ap first_broken (if_nodes s i None is)
    ∙ behind_two (judged_expr s (seen_expr k.test)) (judged_statement s (seen_statement k.first)) (test_of s (seen_expr k.test) k.line) none none_too

pub else_test : (s : Scope) (i : if_type.If) (l : ℕ) (x : statements.Statement) → (out-If i).otherwise ≡ Some (l, x)
    → first_broken (judged_expr s (seen_expr (out-If i).test)) ≡ None → first_broken (judged_statement s (seen_statement (out-If i).first)) ≡ None
    → first_broken (judged_statement s (seen_statement x)) ≡ None
    → first_broken (judged_statement s (seen_if i)) ≡ first_broken (test_of s (seen_expr (out-If i).test) (out-If i).line)
else_test s i l x is none none_too none_else =
    let k = out-If i in
    let test = test_of s (seen_expr k.test) k.line in
    ap first_broken (if_nodes s i (Some (l, x)) is)
    ∙ behind_two (judged_expr s (seen_expr k.test)) (judged_statement s (seen_statement k.first)) (judged_statement s (seen_statement x) ++ test) none none_too
    ∙ first_behind (judged_statement s (seen_statement x)) test none_else

-- ---- FOR

pub for_control : (s : Scope) (r : for_type.For) (u v : Scalar)
    → first_broken (judged_expr s (seen_expr (out-For r).from)) ≡ None → expr_type s (seen_expr (out-For r).from) ≡ Some u
    → first_broken (judged_expr s (seen_expr (out-For r).to)) ≡ None → expr_type s (seen_expr (out-For r).to) ≡ Some v
    → first_broken (judged_statement s (seen_statement (out-For r).turn)) ≡ None
    → first_broken (judged_statement s (seen_for r))
    ≡ first_broken (judged_control s (out-For r).control (same_scalar u scalar.Integer && same_scalar v scalar.Integer) (out-For r).line)
for_control s r u v none typed none_too typed_too none_turn =
    let k = out-For r in
    let e = seen_expr k.from in
    let g = seen_expr k.to in
    let turn = seen_statement k.turn in
    let control = judged_control s k.control (same_scalar u scalar.Integer && same_scalar v scalar.Integer) k.line in
    ap (λ x. first_broken (judged_statement s x)) (seen_for_is r)
    ∙ ap first_broken (for_is s k.line k.control k.becomes e k.direction k.toward g k.does turn u v typed typed_too)
    ∙ first_behind (judged_expr s e) (judged_expr s g ++ (judged_statement s turn ++ control)) none
    ∙ behind_two (judged_expr s g) (judged_statement s turn) control none_too none_turn

-- ---- CASE

-- the nodes of a CASE whose selector has this type
pub case_nodes : (s : Scope) (k : case_type.Case) (t : Scalar) → expr_type s (seen_expr (out-Case k).selector) ≡ Some t
    → judged_statement s (seen_case k) ≡ judged_expr s (seen_expr (out-Case k).selector) ++ (judged_branch s (Some t) [] (seen_branch (out-Case k).first)
    ++ judged_branches s (Some t) (values_of_branch s [] (seen_branch (out-Case k).first)) (seen_branches (out-Case k).rest.items))
case_nodes s k t typed =
    let o = out-Case k in
    ap (judged_statement s) (seen_case_is k)
    ∙ case_is s o.line (seen_expr o.selector) o.of (seen_branch o.first) (seen_branches o.rest.items) o.end t typed

pub case_behind : (s : Scope) (k : case_type.Case) (t : Scalar) (keys values : List ℤ) → keys ≡ []
    → values ≡ values_of_branch s keys (seen_branch (out-Case k).first)
    → first_broken (judged_expr s (seen_expr (out-Case k).selector)) ≡ None → expr_type s (seen_expr (out-Case k).selector) ≡ Some t
    → first_broken (judged_branch s (Some t) keys (seen_branch (out-Case k).first)) ≡ None
    → first_broken (judged_statement s (seen_case k)) ≡ first_broken (judged_branches s (Some t) values (seen_branches (out-Case k).rest.items))
case_behind s k t keys values empty are none typed none_too =
    let first = seen_branch (out-Case k).first in
    let rest = seen_branches (out-Case k).rest.items in
    ap first_broken (case_nodes s k t typed)
    ∙ behind_two (judged_expr s (seen_expr (out-Case k).selector)) (judged_branch s (Some t) [] first)
    (judged_branches s (Some t) (values_of_branch s [] first) rest)
    none (subst (λ v. first_broken (judged_branch s (Some t) v first) ≡ None) empty none_too)
    ∙ ap (λ v. first_broken (judged_branches s (Some t) (values_of_branch s v first) rest)) (sym empty)
    ∙ ap (λ v. first_broken (judged_branches s (Some t) v rest)) (sym are)

pub branch_nodes : (s : Scope) (t : Option Scalar) (earlier : List ℤ) (b : branch_type.Branch)
    → judged_branch s t earlier (seen_branch b)
    ≡ judged_labels s t earlier (seen_labels (out-Branch b).labels) ++ judged_statement s (seen_statement (out-Branch b).statement)
branch_nodes s t earlier b = ap (judged_branch s t earlier) (seen_branch_is b)
