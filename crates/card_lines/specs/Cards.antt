-- Cards that are printed in lines.
use Rattle.std.specs.Prelude.{ℕ, ◌==◌, Bool, true, false, if◌then◌else◌, List, [], ◌∷◌, ◌++◌}
use Rattle.std.specs.List.{flat_map}
use Rattle.pipeline.specs.Blocks.{blocks_behind}

-- An upward arrow for each pair of asterisks, where the character before was an asterisk or not. Of three in
-- a row the
-- first two are a pair.
abbrev pub squeezed : Bool → List ℕ → List ℕ
squeezed true [] = 42 ∷ []
squeezed false [] = []
squeezed true (char ∷ chars) =
    if char == 42 then 94 ∷ squeezed false chars else 42 ∷ char ∷ squeezed false chars
squeezed false (char ∷ chars) = if char == 42 then squeezed true chars else char ∷ squeezed false chars

-- The lines that these cards are printed in: all their characters, with a space behind each card, in lines
-- of 125, of
-- which the last is filled up with spaces.
abbrev pub printed : List (List ℕ) → List (List ℕ)
printed cards = blocks_behind 125 32 [] (squeezed false (flat_map (λ card. card ++ 32 ∷ []) cards))
