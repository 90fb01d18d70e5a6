-- The one form of the words.
use Rattle.std.specs.Prelude.{ℕ, List, [], ◌∷◌, Option, None, codes, map, string_bytes, String, if◌then◌else◌}
use Rattle.std.specs.Str.{bytes_eq}
use Rattle.deck_format.specs.Numeral.{number_within}

-- the word `schedule`, and behind it a number of one to ten digits
abbrev pub schedule_behind : List ℕ → List ℕ → Option ℕ
schedule_behind word number =
    if bytes_eq word (codes "schedule") then number_within 10 0 2147483647 number else None

-- these two, and no other word
abbrev pub schedule_form : List (List ℕ) → Option ℕ
schedule_form [] = None
schedule_form (word ∷ []) = None
schedule_form (word ∷ number ∷ []) = schedule_behind word number
schedule_form (first ∷ second ∷ third ∷ others) = None

-- the number of the schedule that the words of a command line ask for
abbrev pub schedule_asked : {Z : Type 0} → List (String Z) → Option ℕ
schedule_asked words = schedule_form (map (λ word. string_bytes word) words)
