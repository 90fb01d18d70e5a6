-- The code of expressions: the operands from left to right, and behind them the operator.
use Rattle.std.specs.Prelude.{ℕ, List, [], ◌∷◌, ◌++◌, Option, Some, None, pos}
use Rattle.stack_code.specs.declared.table.Op.{Op}
use Rattle.stack_code.specs.declared.table.Op.TheVariants as op
use Rattle.stack_code.specs.declared.instr.Instr.{Instr}
use Rattle.pascal_tree.specs.declared.expression.Relation.{Relation}
use Rattle.pascal_tree.specs.declared.expression.Relation.TheVariants as relation
use Rattle.pascal_tree.specs.declared.expression.Sign.{Sign}
use Rattle.pascal_tree.specs.declared.expression.Sign.TheVariants as sign
use Rattle.pascal_tree.specs.declared.expression.Adding.{Adding}
use Rattle.pascal_tree.specs.declared.expression.Adding.TheVariants as adding
use Rattle.pascal_tree.specs.declared.expression.Multiplying.{Multiplying}
use Rattle.pascal_tree.specs.declared.expression.Multiplying.TheVariants as multiplying
use Rattle.pascal_tree.specs.Expression.{Expr, alone, compared, Simple, simple, Addends, no_addend, addend, Term, term, Multipliers, no_multiplier, multiplier, Factor, number, character, named, element, called, group, negated, Index, index, Arguments, arguments, Exprs, no_expr, next_expr}
use Rattle.pascal_mean.specs.Calls.{Passing}
use Rattle.pascal_mean.specs.Expressions.{name_in}
use Rattle.pascal_code.specs.Instructions.{bare, push}
use Rattle.pascal_code.specs.Senses.{Sense, Site}
use Rattle.pascal_code.specs.Names.{name_code, test_code, element_code}
use Rattle.pascal_code.specs.Calls.{passing_of, passed_code, given_arguments, call_code}

abbrev pub relation_op : Relation → Op
relation_op relation.Equal = op.Eq
relation_op relation.NotEqual = op.Ne
relation_op relation.Less = op.Lt
relation_op relation.Greater = op.Gt
relation_op relation.LessOrEqual = op.Le
relation_op relation.GreaterOrEqual = op.Ge

abbrev pub adding_op : Adding → Op
adding_op adding.Plus = op.Add
adding_op adding.Minus = op.Sub
adding_op adding.Or = op.Or

abbrev pub multiplying_op : Multiplying → Op
multiplying_op multiplying.Times = op.Mul
multiplying_op multiplying.Div = op.Div
multiplying_op multiplying.Mod = op.Mod
multiplying_op multiplying.And = op.And

-- a minus changes the sign, a plus does nothing
abbrev pub sign_code : Option (Sign × ℕ) → List Instr
sign_code None = []
sign_code (Some (sign.Plus, line)) = []
sign_code (Some (sign.Minus, line)) = bare op.Neg ∷ []

abbrev mutual
  pub expr_code : Site → Expr → List Instr
  expr_code site (alone s) = simple_code site s
  expr_code site (compared s r line t) =
      simple_code site s ++ (simple_code site t ++ bare (relation_op r) ∷ [])

  -- the sign applies to the first term
  pub simple_code : Site → Simple → List Instr
  simple_code site (simple sign t more) = term_code site t ++ (sign_code sign ++ addends_code site more)

  pub addends_code : Site → Addends → List Instr
  addends_code site no_addend = []
  addends_code site (addend a line t more) = term_code site t ++ (bare (adding_op a) ∷ addends_code site more)

  pub term_code : Site → Term → List Instr
  term_code site (term f more) = factor_code site f ++ multipliers_code site more

  pub multipliers_code : Site → Multipliers → List Instr
  multipliers_code site no_multiplier = []
  multipliers_code site (multiplier m line f more) =
      factor_code site f ++ (bare (multiplying_op m) ∷ multipliers_code site more)

  pub factor_code : Site → Factor → List Instr
  factor_code site (number n) = push (pos n.value) ∷ []
  factor_code site (character x) = push (pos x.code) ∷ []
  factor_code site (named x) = name_code (site.names x.letters)
  factor_code site (element x i) =
      let array = site.names x.letters in
      index_code site array i ++ element_code array
  factor_code site (called x a) =
      let callee = site.names x.letters in
      arguments_code site callee (passing_of callee) a
      ++ call_code site.result callee (given_arguments site a)
  factor_code site (group opening e closing) = expr_code site e
  factor_code site (negated line f) = factor_code site f ++ bare op.Not ∷ []

  -- the index of an array, tested
  pub index_code : Site → Sense → Index → List Instr
  index_code site array (index opening e closing) = expr_code site e ++ test_code array

  -- the arguments of what is called, as they are passed
  pub arguments_code : Site → Sense → List Passing → Arguments → List Instr
  arguments_code site callee [] (arguments opening e more closing) = []
  arguments_code site callee (p ∷ others) (arguments opening e more closing) =
      passed_code callee p (site.names (name_in e)) (expr_code site e) ++ exprs_code site callee others more

  pub exprs_code : Site → Sense → List Passing → Exprs → List Instr
  exprs_code site callee passing no_expr = []
  exprs_code site callee [] (next_expr comma e more) = []
  exprs_code site callee (p ∷ others) (next_expr comma e more) =
      passed_code callee p (site.names (name_in e)) (expr_code site e) ++ exprs_code site callee others more
