-- Items in blocks.
use Rattle.std.specs.Prelude.{ℕ, ◌+◌, ◌-◌, nat_lt, if◌then◌else◌, List, [], ◌∷◌, ◌++◌, length, replicate}

-- the last block, filled up, if it has any item
abbrev pub last_block : {T : Type 0} → ℕ → T → List T → List (List T)
last_block n filler [] = []
last_block n filler (x ∷ xs) = ((x ∷ xs) ++ replicate (n - length (x ∷ xs)) filler) ∷ []

-- blocks of n items, of which the first begins with this part; the last is filled up
abbrev pub blocks_behind : {T : Type 0} → ℕ → T → List T → List T → List (List T)
blocks_behind n filler part [] = last_block n filler part
blocks_behind n filler part (x ∷ xs) =
    if nat_lt (length part) (n - 1) then blocks_behind n filler (part ++ x ∷ []) xs else
    (part ++ x ∷ []) ∷ blocks_behind n filler [] xs
