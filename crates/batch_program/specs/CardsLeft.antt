-- What is left to read of the cards so far.
use Rattle.std.specs.Prelude.{ℕ, Bool, List}

-- the characters that weren't read yet, and whether no further card comes
pub record CardsLeft : Type 0 where
  pub left : List ℕ
  pub closed : Bool
