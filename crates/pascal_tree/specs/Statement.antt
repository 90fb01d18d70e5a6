-- Statements as contracts see them: the trees of `src/statement.rt` without their places in memory.
use Rattle.std.specs.Prelude.{ℕ, List, Option}
use Rattle.pascal_tree.specs.Word.{NameAt}
use Rattle.pascal_tree.specs.Expression.{Expr, Index, Arguments}
use Rattle.pascal_tree.specs.declared.constant.Constant.{Constant}
use Rattle.pascal_tree.specs.declared.statement.Direction.{Direction}

-- the labels of a branch, each later one after its comma
pub record Labels : Type 0 where
  pub first : Constant
  pub rest : List (ℕ × Constant)

-- a number at the place of a symbol or of a reserved word is its line
mutual
  pub data Statement : Type 0 where
    empty : Statement
    assign : NameAt → Option Index → ℕ → Expr → Statement
    call : NameAt → Option Arguments → Statement
    compound : Body → Statement
    if_then : ℕ → Expr → ℕ → Statement → Statement
    if_else : ℕ → Expr → ℕ → Statement → ℕ → Statement → Statement
    while_do : ℕ → Expr → ℕ → Statement → Statement
    repeat_until : ℕ → Sequence → ℕ → Expr → Statement
    for_do : ℕ → NameAt → ℕ → Expr → Direction → ℕ → Expr → ℕ → Statement → Statement
    case_of : ℕ → Expr → ℕ → Branch → Branches → ℕ → Statement

  -- statements between BEGIN and END
  pub data Body : Type 0 where
    body : ℕ → Sequence → ℕ → Body

  -- statements that stand between two words
  pub data Sequence : Type 0 where
    sequence : Statement → Statements → Sequence

  -- the later statements of a sequence, each after its semicolon
  pub data Statements : Type 0 where
    no_statement : Statements
    next_statement : ℕ → Statement → Statements → Statements

  -- labels and the statement behind their colon
  pub data Branch : Type 0 where
    branch : Labels → ℕ → Statement → Branch

  -- the later branches of a CASE, each after its semicolon
  pub data Branches : Type 0 where
    no_branch : Branches
    next_branch : ℕ → Branch → Branches → Branches
