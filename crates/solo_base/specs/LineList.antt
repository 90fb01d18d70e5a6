-- How a list of lines stands in one text: the lines behind each other, and where each ends.
use Rattle.std.specs.Prelude.{◌≡◌, ℕ, ◌-◌, ◌≤◌, ◌<◌, ◌^◌, suc, zero, List, [], ◌∷◌, length, take, drop}
use Rattle.solo_base.specs.Line.{IsLine}

-- the text cut at these ends, from a place on
abbrev pub pieces : List ℕ → ℕ → List ℕ → List (List ℕ)
pieces text from [] = []
pieces text from (end ∷ ends) = take (end - from) (drop from text) ∷ pieces text end ends

-- where the piece at a place begins
abbrev pub start_at : ℕ → List ℕ → ℕ → ℕ
start_at from ends zero = from
start_at from [] (suc place) = from
start_at from (end ∷ ends) (suc place) = start_at end ends place

-- the ends rise from a place on, and the last is the end of the text
abbrev pub IsCutTo : ℕ → ℕ → List ℕ → Type 0
IsCutTo text_end from [] = from ≡ text_end
IsCutTo text_end from (end ∷ ends) = (from ≤ end) × IsCutTo text_end end ends

-- each of them is a line
abbrev pub AreLines : List (List ℕ) → Type 0
AreLines [] = Unit {0}
AreLines (line ∷ lines) = IsLine line × AreLines lines

-- the text is cut into lines
pub record IsCutIntoLines (text ends : List ℕ) : Type 0 where
  pub cut : IsCutTo (length text) 0 ends
  pub lines : AreLines (pieces text 0 ends)
  pub small : length text < 2 ^ 32
