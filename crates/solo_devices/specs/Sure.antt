-- What a source in memory is.
use Rattle.std.specs.Prelude.{ℕ, List}

-- the bytes that it was made of, how many of them were taken, and how many it gives at most in a call
pub record Stock : Type 0 where
  pub bytes : List ℕ
  pub taken : ℕ
  pub piece : ℕ
