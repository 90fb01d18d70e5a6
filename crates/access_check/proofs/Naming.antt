-- What the names of a card are, one at a time.
use Rattle.std.proofs.Common.{ℕ, List, ◌++◌}
use Rattle.std.specs.Prelude.{Option, Some, None}

-- names in front of those of a text that is still to be read
abbrev pub behind_names : List (List ℕ) → Option (List (List ℕ)) → Option (List (List ℕ))
behind_names names None = None
behind_names names (Some more) = Some (names ++ more)
