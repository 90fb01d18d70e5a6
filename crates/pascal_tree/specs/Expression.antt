-- Expressions as contracts see them: the trees of `src/expression.rt` without their places in memory.
use Rattle.std.specs.Prelude.{ℕ, Option}
use Rattle.pascal_tree.specs.Word.{NameAt, NumberAt, CharacterAt}
use Rattle.pascal_tree.specs.declared.expression.Relation.{Relation}
use Rattle.pascal_tree.specs.declared.expression.Sign.{Sign}
use Rattle.pascal_tree.specs.declared.expression.Adding.{Adding}
use Rattle.pascal_tree.specs.declared.expression.Multiplying.{Multiplying}

-- a number after a symbol's or a reserved word's place is its line
mutual
  pub data Expr : Type 0 where
    alone : Simple → Expr
    compared : Simple → Relation → ℕ → Simple → Expr

  pub data Simple : Type 0 where
    simple : Option (Sign × ℕ) → Term → Addends → Simple

  -- the later terms of a simple expression
  pub data Addends : Type 0 where
    no_addend : Addends
    addend : Adding → ℕ → Term → Addends → Addends

  pub data Term : Type 0 where
    term : Factor → Multipliers → Term

  -- the later factors of a term
  pub data Multipliers : Type 0 where
    no_multiplier : Multipliers
    multiplier : Multiplying → ℕ → Factor → Multipliers → Multipliers

  pub data Factor : Type 0 where
    number : NumberAt → Factor
    character : CharacterAt → Factor
    named : NameAt → Factor
    element : NameAt → Index → Factor
    called : NameAt → Arguments → Factor
    group : (opening : ℕ) → Expr → (closing : ℕ) → Factor
    negated : ℕ → Factor → Factor

  -- an expression between `(.` and `.)`
  pub data Index : Type 0 where
    index : (opening : ℕ) → Expr → (closing : ℕ) → Index

  -- expressions between `(` and `)`
  pub data Arguments : Type 0 where
    arguments : (opening : ℕ) → Expr → Exprs → (closing : ℕ) → Arguments

  -- the later arguments of a call, each after its comma
  pub data Exprs : Type 0 where
    no_expr : Exprs
    next_expr : ℕ → Expr → Exprs → Exprs

-- a relation and the simple expression behind it
pub record Right : Type 0 where
  pub relation : Relation
  pub line : ℕ
  pub simple : Simple
