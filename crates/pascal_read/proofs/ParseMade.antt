-- What is seen of a node that is made of its parts, and of one in its box.
use Rattle.std.proofs.Common.{◌≡◌, ℕ, Box, Vec, Global, rules}
use Rattle.pascal_tree.specs.Expression.{term, index, arguments, group}
use Rattle.pascal_tree.specs.Statement.{body, sequence, branch, while_do, repeat_until}
use Rattle.pascal_tree.specs.SeenExpression.{seen_expr, seen_term, seen_factor, seen_index, seen_arguments, seen_multipliers, seen_exprs}
use Rattle.pascal_tree.specs.SeenStatement.{seen_statement, seen_statements, seen_sequence, seen_body, seen_branch, seen_labels, seen_if, seen_while, seen_repeat, seen_for, seen_case}
use Rattle.pascal_tree.specs.declared.constant.Labels.{Labels}
use Rattle.pascal_tree.specs.declared.expression.Multiplying.{Multiplying}
use Rattle.pascal_tree.specs.declared.expression.Expr as exprs
use Rattle.pascal_tree.specs.declared.expression.Term as terms
use Rattle.pascal_tree.specs.declared.expression.Factor as factors
use Rattle.pascal_tree.specs.declared.expression.Index as indexes
use Rattle.pascal_tree.specs.declared.expression.Arguments as argument_lists
use Rattle.pascal_tree.specs.declared.statement.Statement as statements
use Rattle.pascal_tree.specs.declared.statement.Statements as sequences
use Rattle.pascal_tree.specs.declared.statement.Body as bodies
use Rattle.pascal_tree.specs.declared.statement.Branch as branches
use Rattle.pascal_tree.specs.declared.statement.If as ifs
use Rattle.pascal_tree.specs.declared.statement.While as whiles
use Rattle.pascal_tree.specs.declared.statement.Repeat as repeats
use Rattle.pascal_tree.specs.declared.statement.For as fors
use Rattle.pascal_tree.specs.declared.statement.Case as cases

pub made_term : (f : factors.Factor) (more : Vec (Multiplying × ℕ × factors.Factor) Global) →
    seen_term (terms.roll-Term record { first = f; rest = more }) ≡ term (seen_factor f) (seen_multipliers more.items)
made_term f more = search (rules, terms.the_lemmas)

pub made_index : (o : ℕ) (e : exprs.Expr) (c : ℕ) →
    seen_index (indexes.roll-Index record { opening = o; place = e; closing = c }) ≡ index o (seen_expr e) c
made_index o e c = search (rules, indexes.the_lemmas)

pub made_arguments : (o : ℕ) (e : exprs.Expr) (more : Vec (ℕ × exprs.Expr) Global) (c : ℕ) →
    seen_arguments (argument_lists.roll-Arguments record { opening = o; first = e; rest = more; closing = c })
    ≡ arguments o (seen_expr e) (seen_exprs more.items) c
made_arguments o e more c = search (rules, argument_lists.the_lemmas)

pub boxed_group : (o : ℕ) (b : Box exprs.Expr Global) (c : ℕ) → seen_factor (factors.Group o b c) ≡ group o (seen_expr b.value) c
boxed_group o b c = search (rules, factors.the_lemmas)

pub made_sequence : (s : statements.Statement) (more : Vec (ℕ × statements.Statement) Global) →
    seen_sequence (sequences.roll-Statements record { first = s; rest = more }) ≡ sequence (seen_statement s) (seen_statements more.items)
made_sequence s more = search (rules, sequences.the_lemmas)

pub made_body : (b : ℕ) (s : sequences.Statements) (e : ℕ) →
    seen_body (bodies.roll-Body record { begin = b; statements = s; end = e }) ≡ body b (seen_sequence s) e
made_body b s e = search (rules, bodies.the_lemmas)

pub made_branch : (l : Labels) (c : ℕ) (s : statements.Statement) →
    seen_branch (branches.roll-Branch record { labels = l; colon = c; statement = s }) ≡ branch (seen_labels l) c (seen_statement s)
made_branch l c s = search (rules, branches.the_lemmas)

pub made_while : (l : ℕ) (e : exprs.Expr) (d : ℕ) (s : statements.Statement) →
    seen_while (whiles.roll-While record { line = l; test = e; does = d; turn = s }) ≡ while_do l (seen_expr e) d (seen_statement s)
made_while l e d s = search (rules, whiles.the_lemmas)

pub made_repeat : (l : ℕ) (s : sequences.Statements) (u : ℕ) (e : exprs.Expr) →
    seen_repeat (repeats.roll-Repeat record { line = l; turn = s; until = u; test = e }) ≡ repeat_until l (seen_sequence s) u (seen_expr e)
made_repeat l s u e = search (rules, repeats.the_lemmas)

pub boxed_if : (b : Box ifs.If Global) → seen_statement (statements.If b) ≡ seen_if b.value
boxed_if b = search (rules, statements.the_lemmas)

pub boxed_while : (b : Box whiles.While Global) → seen_statement (statements.While b) ≡ seen_while b.value
boxed_while b = search (rules, statements.the_lemmas)

pub boxed_repeat : (b : Box repeats.Repeat Global) → seen_statement (statements.Repeat b) ≡ seen_repeat b.value
boxed_repeat b = search (rules, statements.the_lemmas)

pub boxed_for : (b : Box fors.For Global) → seen_statement (statements.For b) ≡ seen_for b.value
boxed_for b = search (rules, statements.the_lemmas)

pub boxed_case : (b : Box cases.Case Global) → seen_statement (statements.Case b) ≡ seen_case b.value
boxed_case b = search (rules, statements.the_lemmas)
