-- The words of a typed line.
use Rattle.std.specs.Prelude.{ℕ, Bool, ◌==◌, List, [], ◌∷◌, map, Option, Some, None, if◌then◌else◌}
use Rattle.std.specs.List.{list_all}
use Rattle.std.specs.Option.{option_map}
use Rattle.solo_base.specs.Blanks.{trimmed}
use Rattle.solo_base.specs.Words.{before_parts}

abbrev pub is_blank : List ℕ → Bool
is_blank text = list_all (λ code. code == 32) text

-- a text without the blanks at either end: two blanks, `A B` and three blanks give `A B`
abbrev pub without_blanks : List ℕ → List ℕ
without_blanks [] = []
without_blanks (code ∷ rest) = if code == 32 then without_blanks rest else trimmed (code ∷ rest)

-- the parts between the commas: `a,,b` has the parts `a`, nothing and `b`, and a text without a comma is one
abbrev pub comma_parts : List ℕ → List (List ℕ)
comma_parts [] = [] ∷ []
comma_parts (code ∷ rest) = if code == 44 then [] ∷ comma_parts rest else before_parts code (comma_parts rest)

-- the words between the commas, around which blanks are free
abbrev pub comma_words : List ℕ → List (List ℕ)
comma_words text = map without_blanks (comma_parts text)

-- a character in front of what stands before a cut
abbrev pub cut_later : ℕ → List ℕ × List ℕ → List ℕ × List ℕ
cut_later code (before, behind) = (code ∷ before, behind)

-- what stands before and behind the first of this character; none where the text has none
abbrev pub cut_at : ℕ → List ℕ → Option (List ℕ × List ℕ)
cut_at stop [] = None
cut_at stop (code ∷ rest) =
    if code == stop then Some ([], rest) else option_map (cut_later code) (cut_at stop rest)
