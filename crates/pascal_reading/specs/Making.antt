-- What one word makes: with the parts of what is wanted behind it, the part that was wanted.
use Rattle.std.specs.Prelude.{ℕ, ◌-◌, nat_le, Bool, true, false, List, [], ◌∷◌, ◌++◌, Option, Some, None, option_map, if◌then◌else◌}
use Rattle.pascal_tree.specs.Word.{Spot, NameAt, NumberAt, CharacterAt}
use Rattle.pascal_tree.specs.Expression.{Expr, alone, compared, Simple, simple, Addends, no_addend, addend, Term, term, Multipliers, no_multiplier, multiplier, Factor, number, character, named, element, called, group, negated, index, arguments, Exprs, no_expr, next_expr}
use Rattle.pascal_tree.specs.Statement.{Statement, empty, assign, call, compound, if_then, if_else, while_do, repeat_until, for_do, case_of, Body, body, sequence, Statements, no_statement, next_statement, branch, Branches, no_branch, next_branch}
use Rattle.pascal_tree.specs.Program.{Consts, Group, Vars, ParameterGroup, Parameters, Routine, procedure, function}
use Rattle.pascal_tree.specs.declared.token.Word.{Word}
use Rattle.pascal_tree.specs.declared.token.Word.TheVariants as word
use Rattle.pascal_tree.specs.declared.token.Reserved.TheVariants as reserved
use Rattle.pascal_tree.specs.declared.token.Symbol.TheVariants as symbol
use Rattle.pascal_tree.specs.declared.constant.Constant.{Constant}
use Rattle.pascal_tree.specs.declared.constant.Constant.TheVariants as constants
use Rattle.pascal_tree.specs.declared.statement.Direction.{Direction}
use Rattle.pascal_tree.specs.declared.statement.Direction.TheVariants as directions
use Rattle.pascal_tree.specs.declared.declaration.Definition.{Definition}
use Rattle.pascal_tree.specs.declared.declaration.Kind.{Kind}
use Rattle.pascal_tree.specs.declared.declaration.Kind.TheVariants as kinds
use Rattle.pascal_tree.specs.declared.declaration.Heading.{Heading}
use Rattle.pascal_tree.specs.declared.expression.Sign.{Sign}
use Rattle.pascal_read.specs.ParseWants.{Want, Step, took, skip, no, begun, extended, or_else, if_some, want_step, behind_name_step, statement_step, behind_first_name_step, range_wants, case_wants, branch_wants, definition_rest, group_rest, array_rest, parameter_group_rest, procedure_rest, function_rest, factor_begins, term_begins, simple_begins, expr_begins, is_reserved, is_symbol, is_name, is_number, is_character, is_end, relation_of, sign_of, adding_of, multiplying_of}
use Rattle.pascal_read.specs.ParseWants as want
use Rattle.pascal_reading.specs.Parts.{PartOf, PartsOf, first_parts, later_parts}

-- A word that is taken makes a part with those of what is wanted behind it; one that is left makes it alone.
abbrev pub Makes : Type 0 → Step → Type 0
Makes A (took more) = PartsOf more → A
Makes A skip = A
Makes A no = Unit {0}

-- the same of what the first word of a part leaves to be read
abbrev pub BeginsPart : Type 0 → Option (List Want) → Type 0
BeginsPart A None = Unit {0}
BeginsPart A (Some more) = PartsOf more → A

abbrev pub made_begun : (A : Type 0) (o : Option (List Want)) → BeginsPart A o → Makes A (begun o)
made_begun A None b = tt
made_begun A (Some more) b = b

-- a part with what is wanted behind it
abbrev pub extend : {A B : Type 0} (rest : List Want) (o : Option (List Want))
    → (B → PartsOf rest → A) → BeginsPart B o → BeginsPart A (extended o rest)
extend rest None f b = tt
extend rest (Some more) f b = λ r. f (b (first_parts more rest r)) (later_parts more rest r)

-- ---- By the word

-- by a test of it
abbrev pub when_test : {B : Type 0} (P : B → Type 0) (test : Bool) (a b : B)
    → P a → P b → P (if test then a else b)
when_test P true a b f g = f
when_test P false a b f g = g

-- by the name, the number or the character that it is, if it is one
abbrev pub when_name : {B : Type 0} (P : B → Type 0) (w : Word) (line : ℕ) (a b : B)
    → (NameAt → P a) → P b → P (if is_name w then a else b)
when_name P (word.Name letters) line a b f g = f (record { letters = letters; line = line })
when_name P other line a b f g = g

abbrev pub when_number : {B : Type 0} (P : B → Type 0) (w : Word) (line : ℕ) (a b : B)
    → (NumberAt → P a) → P b → P (if is_number w then a else b)
when_number P (word.Number n) line a b f g = f (record { value = n; line = line })
when_number P other line a b f g = g

abbrev pub when_character : {B : Type 0} (P : B → Type 0) (w : Word) (line : ℕ) (a b : B)
    → (CharacterAt → P a) → P b → P (if is_character w then a else b)
when_character P (word.Character c) line a b f g = f (record { code = c; line = line })
when_character P other line a b f g = g

-- by the operator that it is, if it is one
abbrev pub when_some : {A : Type 0} (P : Step → Type 0) (o : Option A) (a b : Step)
    → (A → P a) → P b → P (if_some o a b)
when_some P None a b f g = g
when_some P (Some x) a b f g = f x

-- ---- Expressions

abbrev pub factor_made : (n : ℕ) (t : Spot) → BeginsPart Factor (factor_begins n t.word)
factor_made n t =
    let P : Option (List Want) → Type 0 = λ o. BeginsPart Factor o in
    when_number P t.word t.line _ _ (λ x r. number x)
    (when_character P t.word t.line _ _ (λ x r. character x)
    (when_name P t.word t.line _ _ (λ x r. r.0 x)
    (when_test P (is_symbol t.word symbol.Open) _ _
    (when_test P (nat_le 2 n) _ _ (λ r. group t.line r.0 r.1.0) tt)
    (when_test P (is_reserved t.word reserved.Not) _ _
    (when_test P (nat_le 2 n) _ _ (λ r. negated t.line r.0) tt)
    tt))))

abbrev pub term_made : (n : ℕ) (t : Spot) → BeginsPart Term (term_begins n t.word)
term_made n t =
    extend (want.multipliers n ∷ []) (factor_begins n t.word) (λ f r. term f r.0) (factor_made n t)

-- a sign stands before the first term or not
abbrev pub signed_simple : (n line : ℕ) (s : Option Sign) (o : Option (List Want)) → BeginsPart Simple o
    → BeginsPart Simple (or_else (option_map (λ s. want.term n ∷ (want.addends n ∷ [])) s) o)
signed_simple n line None o b = b
signed_simple n line (Some s) o b = λ r. simple (Some (s, line)) r.0 r.1.0

abbrev pub simple_made : (n : ℕ) (t : Spot) → BeginsPart Simple (simple_begins n t.word)
simple_made n t =
    signed_simple n t.line (sign_of t.word) (extended (term_begins n t.word) (want.addends n ∷ []))
    (extend (want.addends n ∷ []) (term_begins n t.word) (λ x r. simple None x r.0) (term_made n t))

abbrev pub expr_made : (n : ℕ) (t : Spot) → BeginsPart Expr (expr_begins n t.word)
expr_made n t = extend (want.relation n ∷ []) (simple_begins n t.word) (λ s r. r.0 s) (simple_made n t)

-- a name alone, with an index, or with arguments
abbrev pub behind_name_made : (n : ℕ) (t : Spot) → Makes (NameAt → Factor) (behind_name_step n t.word)
behind_name_made n t =
    let P : Step → Type 0 = λ s. Makes (NameAt → Factor) s in
    when_test P (is_symbol t.word symbol.OpenIndex) _ _
    (when_test P (nat_le 2 n) _ _ (λ r x. element x (index t.line r.0 r.1.0)) tt)
    (when_test P (is_symbol t.word symbol.Open) _ _
    (when_test P (nat_le 2 n) _ _ (λ r x. called x (arguments t.line r.0 r.1.0 r.1.1.0)) tt)
    (λ x. named x))

-- ---- Statements

-- an IF, with ELSE or without
abbrev pub conditional : ℕ → Expr → ℕ → Statement → Option (ℕ × Statement) → Statement
conditional line e does s None = if_then line e does s
conditional line e does s (Some o) = if_else line e does s o.0 o.1

abbrev pub made_for : ℕ → (m : ℕ) → PartsOf (range_wants ++ (want.statement m ∷ [])) → Statement
made_for line m r =
    let toward = r.1.1.1.0 in
    let limit = r.1.1.1.1 in
    for_do line r.0 r.1.0 r.1.1.0 toward.0 toward.1 limit.0 limit.1.0 limit.1.1.0

-- the first branch stands behind OF, and END behind the last
abbrev pub made_case : ℕ → (m : ℕ) → PartsOf (case_wants m) → Statement
made_case line m r =
    let first = r.1.1 in
    let more = first.1.1.1.1 in
    case_of line r.0 r.1.0
    (branch (record { first = first.0; rest = first.1.0 }) first.1.1.0 first.1.1.1.0) more.0 more.1.0

abbrev pub statement_made : (n : ℕ) (t : Spot) → Makes Statement (statement_step n t.word)
statement_made n t =
    let P : Step → Type 0 = λ s. Makes Statement s in
    when_name P t.word t.line _ _ (λ x r. r.0 x)
    (when_test P (is_reserved t.word reserved.Begin) _ _
    (when_test P (nat_le 2 n) _ _ (λ r. compound (body t.line (sequence r.0 r.1.0) r.1.1.0)) tt)
    (when_test P (is_reserved t.word reserved.If) _ _
    (when_test P (nat_le 2 n) _ _ (λ r. conditional t.line r.0 r.1.0 r.1.1.0 r.1.1.1.0) tt)
    (when_test P (is_reserved t.word reserved.While) _ _
    (when_test P (nat_le 2 n) _ _ (λ r. while_do t.line r.0 r.1.0 r.1.1.0) tt)
    (when_test P (is_reserved t.word reserved.Repeat) _ _
    (when_test P (nat_le 2 n) _ _ (λ r. repeat_until t.line (sequence r.0 r.1.0) r.1.1.0 r.1.1.1.0) tt)
    (when_test P (is_reserved t.word reserved.For) _ _
    (when_test P (nat_le 2 n) _ _ (λ r. made_for t.line (n - 1) r) tt)
    (when_test P (is_reserved t.word reserved.Case) _ _
    (when_test P (nat_le 2 n) _ _ (λ r. made_case t.line (n - 1) r) tt)
    empty))))))

-- an assignment to a variable or to an element, or a call with arguments or without
abbrev pub behind_first_name_made : (t : Spot) → Makes (NameAt → Statement) (behind_first_name_step t.word)
behind_first_name_made t =
    let P : Step → Type 0 = λ s. Makes (NameAt → Statement) s in
    when_test P (is_symbol t.word symbol.Becomes) _ _ (λ r x. assign x None t.line r.0)
    (when_test P (is_symbol t.word symbol.OpenIndex) _ _
    (λ r x. assign x (Some (index t.line r.0 r.1.0)) r.1.1.0 r.1.1.1.0)
    (when_test P (is_symbol t.word symbol.Open) _ _
    (λ r x. call x (Some (arguments t.line r.0 r.1.0 r.1.1.0)))
    (λ x. call x None)))

abbrev pub made_branch : ℕ → (n : ℕ) → PartsOf (branch_wants n ++ (want.more_branches n ∷ [])) → Branches
made_branch line n r =
    next_branch line (branch (record { first = r.0; rest = r.1.0 }) r.1.1.0 r.1.1.1.0) r.1.1.1.1.0

-- ---- Declarations

abbrev pub made_definition : NameAt → (more : List Want) → PartsOf (definition_rest more) → Definition
made_definition x more r = record { name = x; equal = r.0; value = r.1.0; semicolon = r.1.1.0 }

abbrev pub made_group : NameAt → (more : List Want) → PartsOf (group_rest more) → Group
made_group x more r = record {
  names = record { first = x; rest = r.0 };
  colon = r.1.0;
  kind = r.1.1.0;
  semicolon = r.1.1.1.0;
}

abbrev pub made_array : ℕ → PartsOf array_rest → Kind
made_array line r =
    let upper = r.1.1.1 in
    kinds.Array line r.0 r.1.0 r.1.1.0 upper.0 upper.1.0 upper.1.1.0 upper.1.1.1.0

abbrev pub made_parameters : Option ℕ → NameAt → PartsOf parameter_group_rest → ParameterGroup
made_parameters var x r = record {
  var = var;
  names = record { first = x; rest = r.0 };
  colon = r.1.0;
  kind = r.1.1.0;
}

abbrev pub made_procedure : ℕ → PartsOf (procedure_rest ++ (want.routines ∷ [])) → List Routine
made_procedure line r =
    let block = r.1.1.1 in
    let end = block.1.1.1 in
    procedure line r.0 r.1.0 r.1.1.0 (record { consts = block.0; vars = block.1.0; body = block.1.1.0 }) end.0
    ∷ end.1.0

-- its type stands behind its parameters
abbrev pub made_function : ℕ → PartsOf (function_rest ++ (want.routines ∷ [])) → List Routine
made_function line r =
    let answer = r.1.1.1 in
    let block = answer.1.1 in
    let end = block.1.1.1 in
    function line r.0 r.1.0 r.1.1.0 answer.0 answer.1.0
    (record { consts = block.0; vars = block.1.0; body = block.1.1.0 }) end.0
    ∷ end.1.0

-- ---- All wants

abbrev pub making : (x : Want) (t : Spot) → Makes (PartOf x) (want_step x t.word)
making (want.reserved_word r) t = when_test (λ s. Makes ℕ s) (is_reserved t.word r) _ _ (λ r. t.line) tt
making (want.mark m) t = when_test (λ s. Makes ℕ s) (is_symbol t.word m) _ _ (λ r. t.line) tt
making want.name t = when_name (λ s. Makes NameAt s) t.word t.line _ _ (λ x r. x) tt
making want.number t = when_number (λ s. Makes NumberAt s) t.word t.line _ _ (λ x r. x) tt
making want.end t = when_test (λ s. Makes ℕ s) (is_end t.word) _ _ (λ r. t.line) tt
making (want.expr n) t = made_begun Expr (expr_begins n t.word) (expr_made n t)
making (want.relation n) t =
    when_some (λ s. Makes (Simple → Expr) s) (relation_of t.word) _ _
    (λ c r s. compared s c t.line r.0) (λ s. alone s)
making (want.simple n) t = made_begun Simple (simple_begins n t.word) (simple_made n t)
making (want.addends n) t =
    when_some (λ s. Makes Addends s) (adding_of t.word) _ _ (λ a r. addend a t.line r.0 r.1.0) no_addend
making (want.term n) t = made_begun Term (term_begins n t.word) (term_made n t)
making (want.multipliers n) t =
    when_some (λ s. Makes Multipliers s) (multiplying_of t.word) _ _
    (λ m r. multiplier m t.line r.0 r.1.0) no_multiplier
making (want.factor n) t = made_begun Factor (factor_begins n t.word) (factor_made n t)
making (want.behind_name n) t = behind_name_made n t
making (want.more_exprs n) t =
    when_test (λ s. Makes Exprs s) (is_symbol t.word symbol.Comma) _ _
    (λ r. next_expr t.line r.0 r.1.0) no_expr
making (want.statement n) t = statement_made n t
making want.behind_first_name t = behind_first_name_made t
making (want.otherwise n) t =
    when_test (λ s. Makes (Option (ℕ × Statement)) s) (is_reserved t.word reserved.Else) _ _
    (λ r. Some (t.line, r.0)) None
making (want.more_statements n) t =
    when_test (λ s. Makes Statements s) (is_symbol t.word symbol.Semicolon) _ _
    (λ r. next_statement t.line r.0 r.1.0) no_statement
making (want.more_branches n) t =
    when_test (λ s. Makes Branches s) (is_symbol t.word symbol.Semicolon) _ _
    (λ r. made_branch t.line n r) no_branch
making want.more_labels t =
    when_test (λ s. Makes (List (ℕ × Constant)) s) (is_symbol t.word symbol.Comma) _ _
    (λ r. (t.line, r.0) ∷ r.1.0) []
making want.direction t =
    let P : Step → Type 0 = λ s. Makes (Direction × ℕ) s in
    when_test P (is_reserved t.word reserved.To) _ _ (λ r. (directions.To, t.line))
    (when_test P (is_reserved t.word reserved.Downto) _ _ (λ r. (directions.Downto, t.line)) tt)
making want.body t =
    when_test (λ s. Makes Body s) (is_reserved t.word reserved.Begin) _ _
    (λ r. body t.line (sequence r.0 r.1.0) r.1.1.0) tt
making want.heading t =
    when_test (λ s. Makes (Option Heading) s) (is_reserved t.word reserved.Program) _ _
    (λ r. Some (record { line = t.line; name = r.0; semicolon = r.1.0 })) None
making want.constant t =
    let P : Step → Type 0 = λ s. Makes Constant s in
    when_name P t.word t.line _ _ (λ x r. constants.Name x)
    (when_number P t.word t.line _ _ (λ x r. constants.Number x)
    (when_test P (is_symbol t.word symbol.Minus) _ _ (λ r. constants.Negative t.line r.0)
    (when_character P t.word t.line _ _ (λ x r. constants.Character x) tt)))
making want.consts t =
    when_test (λ s. Makes (Option Consts) s) (is_reserved t.word reserved.Const) _ _
    (λ r. Some (record { line = t.line; first = r.0; rest = r.1.0 })) None
making want.definition t =
    when_name (λ s. Makes Definition s) t.word t.line _ _ (λ x r. made_definition x [] r) tt
making want.more_definitions t =
    when_name (λ s. Makes (List Definition) s) t.word t.line _ _
    (λ x r. made_definition x (want.more_definitions ∷ []) r ∷ r.1.1.1.0) []
making want.kind t =
    let P : Step → Type 0 = λ s. Makes Kind s in
    when_name P t.word t.line _ _ (λ x r. kinds.Name x)
    (when_test P (is_reserved t.word reserved.Array) _ _ (λ r. made_array t.line r) tt)
making want.vars t =
    when_test (λ s. Makes (Option Vars) s) (is_reserved t.word reserved.Var) _ _
    (λ r. Some (record { line = t.line; first = r.0; rest = r.1.0 })) None
making want.group t = when_name (λ s. Makes Group s) t.word t.line _ _ (λ x r. made_group x [] r) tt
making want.more_groups t =
    when_name (λ s. Makes (List Group) s) t.word t.line _ _
    (λ x r. made_group x (want.more_groups ∷ []) r ∷ r.1.1.1.1.0) []
making want.more_names t =
    when_test (λ s. Makes (List (ℕ × NameAt)) s) (is_symbol t.word symbol.Comma) _ _
    (λ r. (t.line, r.0) ∷ r.1.0) []
making want.parameters t =
    when_test (λ s. Makes (Option Parameters) s) (is_symbol t.word symbol.Open) _ _
    (λ r. Some (record { opening = t.line; first = r.0; rest = r.1.0; closing = r.1.1.0 })) None
making want.parameter_group t =
    let P : Step → Type 0 = λ s. Makes ParameterGroup s in
    when_name P t.word t.line _ _ (λ x r. made_parameters None x r)
    (when_test P (is_reserved t.word reserved.Var) _ _ (λ r. made_parameters (Some t.line) r.0 r.1) tt)
making want.more_parameters t =
    when_test (λ s. Makes (List (ℕ × ParameterGroup)) s) (is_symbol t.word symbol.Semicolon) _ _
    (λ r. (t.line, r.0) ∷ r.1.0) []
making want.routines t =
    let P : Step → Type 0 = λ s. Makes (List Routine) s in
    when_test P (is_reserved t.word reserved.Procedure) _ _ (λ r. made_procedure t.line r)
    (when_test P (is_reserved t.word reserved.Function) _ _ (λ r. made_function t.line r) [])
