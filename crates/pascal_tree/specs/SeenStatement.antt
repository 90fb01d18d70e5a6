-- The statement that a value of the code stands for.
use Rattle.std.specs.Prelude.{ℕ, List, [], ◌∷◌, map, Some, None, Option, option_map}
use Rattle.pascal_tree.specs.Expression.{Expr}
use Rattle.pascal_tree.specs.SeenExpression.{seen_expr, seen_index, seen_arguments}
use Rattle.pascal_tree.specs.Statement.{Labels, Statement, empty, assign, call, compound, if_then, if_else, while_do, repeat_until, for_do, case_of, Body, body, Sequence, sequence, Statements, no_statement, next_statement, Branch, branch, Branches, no_branch, next_branch}
use Rattle.pascal_tree.specs.declared.constant.Labels as labels_type
use Rattle.pascal_tree.specs.declared.statement.Statement as statement_type
use Rattle.pascal_tree.specs.declared.statement.Statements as statements_type
use Rattle.pascal_tree.specs.declared.statement.Body as body_type
use Rattle.pascal_tree.specs.declared.statement.Branch as branch_type
use Rattle.pascal_tree.specs.declared.statement.Case as case_type
use Rattle.pascal_tree.specs.declared.statement.For as for_type
use Rattle.pascal_tree.specs.declared.statement.If as if_type
use Rattle.pascal_tree.specs.declared.statement.Repeat as repeat_type
use Rattle.pascal_tree.specs.declared.statement.While as while_type
use Rattle.pascal_tree.specs.declared.statement.Assign as assign_type
use Rattle.pascal_tree.specs.declared.statement.Call as call_type
use Rattle.pascal_tree.specs.declared.statement.Statement.TheOpen.{Statement-F, Body-F, Branch-F, Case-F, For-F, If-F, Repeat-F, Statements-F, While-F}

abbrev pub statements_of : List (ℕ × Statement) → Statements
statements_of [] = no_statement
statements_of (s ∷ more) = next_statement s.0 s.1 (statements_of more)

abbrev pub branches_of : List (ℕ × Branch) → Branches
branches_of [] = no_branch
branches_of (b ∷ more) = next_branch b.0 b.1 (branches_of more)

abbrev pub if_of : ℕ → Expr → ℕ → Statement → Option (ℕ × Statement) → Statement
if_of l e t s None = if_then l e t s
if_of l e t s (Some o) = if_else l e t s o.0 o.1

abbrev pub seen_labels : labels_type.Labels → Labels
seen_labels l = record { first = l.first; rest = (l.rest).items }

abbrev pub seen_assign : assign_type.Assign → Statement
seen_assign a = assign a.target (option_map (λ i. seen_index i.value) a.index) a.becomes (seen_expr a.value)

abbrev pub seen_call : call_type.Call → Statement
seen_call c = call c.name (option_map (λ a. seen_arguments a.value) c.arguments)

-- one level of each, with what is inside already seen
abbrev pub body_step : Body-F Statement Body Branch Statement Statement Statement Statement Sequence Statement → Body
body_step b = body b.begin b.statements b.end

abbrev pub branch_step : Branch-F Statement Body Branch Statement Statement Statement Statement Sequence Statement → Branch
branch_step b = branch (seen_labels b.labels) b.colon b.statement

abbrev pub case_step : Case-F Statement Body Branch Statement Statement Statement Statement Sequence Statement → Statement
case_step c = case_of c.line (seen_expr c.selector) c.of c.first (branches_of c.rest.items) c.end

abbrev pub for_step : For-F Statement Body Branch Statement Statement Statement Statement Sequence Statement → Statement
for_step f =
    for_do f.line f.control f.becomes (seen_expr f.from) f.direction f.toward (seen_expr f.to) f.does f.turn

abbrev pub if_step : If-F Statement Body Branch Statement Statement Statement Statement Sequence Statement → Statement
if_step i = if_of i.line (seen_expr i.test) i.then i.first i.otherwise

abbrev pub repeat_step : Repeat-F Statement Body Branch Statement Statement Statement Statement Sequence Statement → Statement
repeat_step r = repeat_until r.line r.turn r.until (seen_expr r.test)

abbrev pub sequence_step : Statements-F Statement Body Branch Statement Statement Statement Statement Sequence Statement → Sequence
sequence_step s = sequence s.first (statements_of s.rest.items)

abbrev pub while_step : While-F Statement Body Branch Statement Statement Statement Statement Sequence Statement → Statement
while_step w = while_do w.line (seen_expr w.test) w.does w.turn

abbrev pub statement_step : Statement-F Statement Body Branch Statement Statement Statement Statement Sequence Statement → Statement
statement_step Statement-F.Empty = empty
statement_step (Statement-F.Assign a) = seen_assign a.value
statement_step (Statement-F.Call c) = seen_call c.value
statement_step (Statement-F.Compound b) = compound b.value
statement_step (Statement-F.If i) = i.value
statement_step (Statement-F.While w) = w.value
statement_step (Statement-F.Repeat r) = r.value
statement_step (Statement-F.For f) = f.value
statement_step (Statement-F.Case c) = c.value

abbrev pub seen_statement : statement_type.Statement → Statement
seen_statement = statement_type.fold-Statement Statement Body Branch Statement Statement Statement Statement Sequence Statement statement_step body_step branch_step case_step for_step if_step repeat_step sequence_step while_step

abbrev pub seen_body : body_type.Body → Body
seen_body = body_type.fold-Body Statement Body Branch Statement Statement Statement Statement Sequence Statement statement_step body_step branch_step case_step for_step if_step repeat_step sequence_step while_step

abbrev pub seen_branch : branch_type.Branch → Branch
seen_branch = branch_type.fold-Branch Statement Body Branch Statement Statement Statement Statement Sequence Statement statement_step body_step branch_step case_step for_step if_step repeat_step sequence_step while_step

abbrev pub seen_case : case_type.Case → Statement
seen_case = case_type.fold-Case Statement Body Branch Statement Statement Statement Statement Sequence Statement statement_step body_step branch_step case_step for_step if_step repeat_step sequence_step while_step

abbrev pub seen_for : for_type.For → Statement
seen_for = for_type.fold-For Statement Body Branch Statement Statement Statement Statement Sequence Statement statement_step body_step branch_step case_step for_step if_step repeat_step sequence_step while_step

abbrev pub seen_if : if_type.If → Statement
seen_if = if_type.fold-If Statement Body Branch Statement Statement Statement Statement Sequence Statement statement_step body_step branch_step case_step for_step if_step repeat_step sequence_step while_step

abbrev pub seen_repeat : repeat_type.Repeat → Statement
seen_repeat = repeat_type.fold-Repeat Statement Body Branch Statement Statement Statement Statement Sequence Statement statement_step body_step branch_step case_step for_step if_step repeat_step sequence_step while_step

abbrev pub seen_sequence : statements_type.Statements → Sequence
seen_sequence = statements_type.fold-Statements Statement Body Branch Statement Statement Statement Statement Sequence Statement statement_step body_step branch_step case_step for_step if_step repeat_step sequence_step while_step

abbrev pub seen_while : while_type.While → Statement
seen_while = while_type.fold-While Statement Body Branch Statement Statement Statement Statement Sequence Statement statement_step body_step branch_step case_step for_step if_step repeat_step sequence_step while_step

-- the later statements of a sequence, and the later branches of a CASE
abbrev pub seen_statements : List (ℕ × statement_type.Statement) → Statements
seen_statements more = statements_of (map (λ s. (s.0, seen_statement s.1)) more)

abbrev pub seen_branches : List (ℕ × branch_type.Branch) → Branches
seen_branches more = branches_of (map (λ b. (b.0, seen_branch b.1)) more)
