-- Where a program stands.
use Rattle.std.specs.Prelude.{ℕ, List, Option, ℤ}
use Rattle.stack_machine.specs.declared.state.Finish.{Finish}

-- An activation of a routine: the routine's number, the place of its next instruction, its line (0 until its
-- first tick), the words of its frame, and its operands, the topmost first.
pub record Activation : Type 0 where
  pub routine : ℕ
  pub place : ℕ
  pub line : ℕ
  pub words : List ℤ
  pub operands : List ℤ

-- The activations that wait for a call to return, by their numbers (the program's is 0), the current one, the
-- ticks that were taken, and how the program ended.
pub record State : Type 0 where
  pub below : List Activation
  pub current : Activation
  pub ticks : ℕ
  pub ended : Option Finish
