-- What digits stand for.
use Rattle.std.proofs.Common.{ℕ, ◌≤◌, ◌*◌, ◌+◌, ◌-◌, List, [], ◌∷◌, arith}
use Rattle.pascal_read.specs.Piece.{value_from}

-- a digit behind a number makes it no less
pub value_from_grows : (number : ℕ) (digits : List ℕ) → number ≤ value_from number digits
value_from_grows number [] = omega arith
value_from_grows number (digit ∷ others) = omega (arith, value_from_grows (number * 10 + (digit - 48)) others)
