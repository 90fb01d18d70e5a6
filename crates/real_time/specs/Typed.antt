-- What a typed line says to the operator.
use Rattle.std.specs.Prelude.{ℕ, List, [], ◌∷◌, Option, Some, None, codes, if◌then◌else◌}
use Rattle.solo_base.specs.Ident.{identifier}
use Rattle.solo_base.specs.declared.item.Item.{Item}
use Rattle.solo_base.specs.declared.item.Item.TheVariants as item
use Rattle.solo_base.specs.Words.{words, spells}
use Rattle.deck_format.specs.Numeral.{number_within}
pub use Rattle.real_time.specs.declared.typed_line.Typed.{Typed}
pub use Rattle.real_time.specs.declared.typed_line.Typed.TheVariants.{Blank, Names, Plans, Stops, Passes, Bad}

abbrev pub naming : Option (List ℕ) → Typed
naming (Some name) = Names name
naming None = Bad

abbrev pub stopping : Option (List ℕ) → Typed
stopping (Some name) = Stops name
stopping None = Bad

abbrev pub passing : Option ℕ → Typed
passing (Some seconds) = Passes seconds
passing None = Bad

abbrev pub planning : Option (List ℕ) → Option ℕ → Option ℕ → Typed
planning (Some name) (Some time) (Some period) = Plans name time period
planning (Some name) (Some time) None = Bad
planning (Some name) None period = Bad
planning None time period = Bad

-- a word and what stands behind it
abbrev pub of_two : List ℕ → List ℕ → Typed
of_two word other =
    if spells word (codes "TASK") then naming (identifier other)
    else (if spells word (codes "STOP") then stopping (identifier other)
    else (if spells word (codes "TICK") then passing (number_within 7 1 1000 other) else Bad))

abbrev pub of_four : List ℕ → List ℕ → List ℕ → List ℕ → Typed
of_four word name time period =
    if spells word (codes "START")
    then planning (identifier name) (number_within 7 1 1000000 time) (number_within 7 0 1000000 period)
    else Bad

abbrev pub typed_words : List (List ℕ) → Typed
typed_words [] = Blank
typed_words (word ∷ []) = Bad
typed_words (word ∷ other ∷ []) = of_two word other
typed_words (word ∷ name ∷ time ∷ []) = Bad
typed_words (word ∷ name ∷ time ∷ period ∷ []) = of_four word name time period
typed_words (word ∷ name ∷ time ∷ period ∷ more ∷ others) = Bad

-- `start a 2 3` plans A at second 2, and every 3 seconds behind it
abbrev pub typed : Item → Typed
typed (item.Line text) = typed_words (words text)
typed item.Spoiled = Bad
