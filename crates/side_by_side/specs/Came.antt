-- What became of those that came to a start.
use Rattle.std.specs.Prelude.{◌≡◌, ℕ, Bool, true, false}

-- a start as contracts see it: the lock that keeps the word, and how many processes are to come
pub record Meeting : Type 0 where
  pub lock : ℕ
  pub processes : ℕ

-- They came to this start and were told whether all had come: then they did this, or they stay as they were.
pub record Came (start here : ℕ) (all : Bool) (Did Stay : Type 0) : Type 0 where
  pub came : here ≡ start
  pub did : all ≡ true → Did
  pub stay : all ≡ false → Stay
