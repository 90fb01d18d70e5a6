-- What a name can mean in a program.
use Rattle.std.specs.Prelude.{ℕ, Bool, List, Option, ℤ}
use Rattle.solo_base.specs.declared.interface.Procedure.{Procedure}

-- INTEGER, BOOLEAN, CHAR
pub data Scalar : Type 0 where
  Integer : Scalar
  Boolean : Scalar
  Char : Scalar

-- whose variable it is: the program's, or that of the routine in which the name stands
pub data Owner : Type 0 where
  OfProgram : Owner
  OfRoutine : Owner

-- the first and the last index of an array
pub record Bounds : Type 0 where
  pub low : ℤ
  pub high : ℤ

-- a parameter, and whether it is a VAR parameter
pub record Parameter : Type 0 where
  pub letters : List ℕ
  pub scalar : Scalar
  pub is_variable : Bool

-- the parameters of a routine in order, and the type of its result where it is a function
pub record Signature : Type 0 where
  pub parameters : List Parameter
  pub answer : Option Scalar

-- the functions ABS, SUCC, PRED, ORD and CHR
pub data Standard : Type 0 where
  Abs : Standard
  Succ : Standard
  Pred : Standard
  Ord : Standard
  Chr : Standard

-- A reference is a VAR parameter of the routine in which the name stands. Routines have numbers from 1
-- in the order of the program.
pub data Means : Type 0 where
  Constant : Scalar → ℤ → Means
  Variable : Owner → Scalar → Means
  Array : Owner → Scalar → Bounds → Means
  Reference : Scalar → Means
  Routine : ℕ → Signature → Means
  Function : Standard → Means
  Interface : Procedure → Means
  TypeName : Scalar → Means
  Nothing : Means
