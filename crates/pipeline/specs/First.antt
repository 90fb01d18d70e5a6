-- A first part of a list.
use Rattle.std.specs.Prelude.{◌≡◌, List, ◌++◌}

-- These are the first of those: `1, 2` of `1, 2, 3`, and none of any.
pub record IsFirst {T : Type 0} (part all : List T) : Type 0 where
  pub later : List T
  pub all_are : all ≡ part ++ later
