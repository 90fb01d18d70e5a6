-- Declarations and programs as contracts see them: the trees of `src/declaration.rt` without their places in memory.
use Rattle.std.specs.Prelude.{ℕ, List, Option}
use Rattle.pascal_tree.specs.Word.{NameAt}
use Rattle.pascal_tree.specs.Statement.{Body}
use Rattle.pascal_tree.specs.declared.declaration.Definition.{Definition}
use Rattle.pascal_tree.specs.declared.declaration.Kind.{Kind}
use Rattle.pascal_tree.specs.declared.declaration.Heading.{Heading}

-- names, each later one after its comma
pub record Names : Type 0 where
  pub first : NameAt
  pub rest : List (ℕ × NameAt)

-- CONST and its definitions
pub record Consts : Type 0 where
  pub line : ℕ
  pub first : Definition
  pub rest : List Definition

-- variables of one type
pub record Group : Type 0 where
  pub names : Names
  pub colon : ℕ
  pub kind : Kind
  pub semicolon : ℕ

-- VAR and its groups
pub record Vars : Type 0 where
  pub line : ℕ
  pub first : Group
  pub rest : List Group

-- parameters of one type, with the line of their VAR where they are variables
pub record ParameterGroup : Type 0 where
  pub var : Option ℕ
  pub names : Names
  pub colon : ℕ
  pub kind : NameAt

-- parameters in parentheses, each later group after its semicolon
pub record Parameters : Type 0 where
  pub opening : ℕ
  pub first : ParameterGroup
  pub rest : List (ℕ × ParameterGroup)
  pub closing : ℕ

-- constants, variables and the statements that use them
pub record Block : Type 0 where
  pub consts : Option Consts
  pub vars : Option Vars
  pub body : Body

pub data Routine : Type 0 where
  procedure : ℕ → NameAt → Option Parameters → ℕ → Block → ℕ → Routine
  function : ℕ → NameAt → Option Parameters → ℕ → NameAt → ℕ → Block → ℕ → Routine

-- a program, with the lines of its period and of the end token
pub record Program : Type 0 where
  pub heading : Option Heading
  pub consts : Option Consts
  pub vars : Option Vars
  pub routines : List Routine
  pub body : Body
  pub period : ℕ
  pub end : ℕ
