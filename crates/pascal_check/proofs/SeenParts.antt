-- What a value of the code stands for, from what its parts stand for.
use Rattle.std.proofs.Common.{◌≡◌, ℕ, Option, rules}
use Rattle.std.specs.Prelude.{option_map}
use Rattle.pascal_tree.specs.Expression.{Right, simple, term, arguments}
use Rattle.pascal_tree.specs.SeenExpression.{seen_expr, seen_comparison, seen_simple, seen_term, seen_factor, seen_arguments, seen_addends, seen_multipliers, seen_exprs}
use Rattle.pascal_tree.specs.Statement.{Statement, while_do, repeat_until, for_do, case_of, sequence, branch}
use Rattle.pascal_tree.specs.SeenStatement.{if_of, seen_labels, seen_if, seen_while, seen_repeat, seen_for, seen_case, seen_statement, seen_sequence, seen_statements, seen_branch, seen_branches}
use Rattle.pascal_tree.specs.declared.expression.Expr as expr
use Rattle.pascal_tree.specs.declared.expression.Comparison.{out-Comparison}
use Rattle.pascal_tree.specs.declared.expression.Comparison as comparisons
use Rattle.pascal_tree.specs.declared.expression.Simple.{out-Simple}
use Rattle.pascal_tree.specs.declared.expression.Simple as simples
use Rattle.pascal_tree.specs.declared.expression.Term.{out-Term}
use Rattle.pascal_tree.specs.declared.expression.Term as terms
use Rattle.pascal_tree.specs.declared.expression.Arguments.{out-Arguments}
use Rattle.pascal_tree.specs.declared.expression.Arguments as argument_lists
use Rattle.pascal_tree.specs.declared.statement.Statement as statements
use Rattle.pascal_tree.specs.declared.statement.If as if_type
use Rattle.pascal_tree.specs.declared.statement.If.{out-If}
use Rattle.pascal_tree.specs.declared.statement.While as while_type
use Rattle.pascal_tree.specs.declared.statement.While.{out-While}
use Rattle.pascal_tree.specs.declared.statement.Repeat as repeat_type
use Rattle.pascal_tree.specs.declared.statement.Repeat.{out-Repeat}
use Rattle.pascal_tree.specs.declared.statement.For as for_type
use Rattle.pascal_tree.specs.declared.statement.For.{out-For}
use Rattle.pascal_tree.specs.declared.statement.Case as case_type
use Rattle.pascal_tree.specs.declared.statement.Case.{out-Case}
use Rattle.pascal_tree.specs.declared.statement.Branch as branch_type
use Rattle.pascal_tree.specs.declared.statement.Branch.{out-Branch}
use Rattle.pascal_tree.specs.declared.statement.Statements as sequence_type
use Rattle.pascal_tree.specs.declared.statement.Statements.{out-Statements}

-- ---- Expressions

abbrev pub opened_comparison : comparisons.Comparison → Right
opened_comparison c = record { relation = (out-Comparison c).relation; line = (out-Comparison c).line; simple = seen_simple (out-Comparison c).right }

pub seen_comparison_is : (c : comparisons.Comparison) → seen_comparison c ≡ opened_comparison c
seen_comparison_is c = search (rules, expr.the_lemmas)

pub seen_simple_is : (x : simples.Simple) → seen_simple x ≡ simple (out-Simple x).sign (seen_term (out-Simple x).first) (seen_addends (out-Simple x).rest.items)
seen_simple_is x = search (rules, expr.the_lemmas)

pub seen_term_is : (x : terms.Term) → seen_term x ≡ term (seen_factor (out-Term x).first) (seen_multipliers (out-Term x).rest.items)
seen_term_is x = search (rules, expr.the_lemmas)

pub seen_arguments_is : (a : argument_lists.Arguments)
    → seen_arguments a ≡ arguments (out-Arguments a).opening (seen_expr (out-Arguments a).first) (seen_exprs (out-Arguments a).rest.items)
    (out-Arguments a).closing
seen_arguments_is a = search (rules, expr.the_lemmas)

-- ---- Statements

pub seen_while_is : (w : while_type.While)
    → seen_while w ≡ while_do (out-While w).line (seen_expr (out-While w).test) (out-While w).does (seen_statement (out-While w).turn)
seen_while_is w = search (rules, statements.the_lemmas)

pub seen_repeat_is : (r : repeat_type.Repeat)
    → seen_repeat r ≡ repeat_until (out-Repeat r).line (seen_sequence (out-Repeat r).turn) (out-Repeat r).until (seen_expr (out-Repeat r).test)
seen_repeat_is r = search (rules, statements.the_lemmas)

pub seen_for_is : (f : for_type.For)
    → seen_for f ≡ for_do (out-For f).line (out-For f).control (out-For f).becomes (seen_expr (out-For f).from) (out-For f).direction (out-For f).toward
    (seen_expr (out-For f).to) (out-For f).does (seen_statement (out-For f).turn)
seen_for_is f = search (rules, statements.the_lemmas)

pub seen_case_is : (k : case_type.Case)
    → seen_case k ≡ case_of (out-Case k).line (seen_expr (out-Case k).selector) (out-Case k).of (seen_branch (out-Case k).first)
    (seen_branches (out-Case k).rest.items) (out-Case k).end
seen_case_is k = search (rules, statements.the_lemmas)

pub seen_sequence_is : (q : sequence_type.Statements)
    → seen_sequence q ≡ sequence (seen_statement (out-Statements q).first) (seen_statements (out-Statements q).rest.items)
seen_sequence_is q = search (rules, statements.the_lemmas)

pub seen_branch_is : (b : branch_type.Branch)
    → seen_branch b ≡ branch (seen_labels (out-Branch b).labels) (out-Branch b).colon (seen_statement (out-Branch b).statement)
seen_branch_is b = search (rules, statements.the_lemmas)

abbrev pub seen_otherwise : Option (ℕ × statements.Statement) → Option (ℕ × Statement)
seen_otherwise o = option_map (λ p. (p.0, seen_statement p.1)) o

pub seen_if_is : (i : if_type.If)
    → seen_if i ≡ if_of (out-If i).line (seen_expr (out-If i).test) (out-If i).then (seen_statement (out-If i).first)
    (seen_otherwise (out-If i).otherwise)
seen_if_is i = search (rules, statements.the_lemmas)
