-- What a card of a description says.
use Rattle.std.specs.Prelude.{ℕ, List, [], ◌∷◌, Option, Some, None, codes, if◌then◌else◌}
use Rattle.solo_base.specs.Ident.{identifier}
use Rattle.solo_base.specs.declared.item.Item.{Item}
use Rattle.solo_base.specs.declared.item.Item.TheVariants.{Line, Spoiled}
use Rattle.solo_base.specs.Words.{words, spells}
use Rattle.access_check.specs.declared.card.Card.{Card}
use Rattle.access_check.specs.declared.card.Card.TheVariants.{Blank, Bad, Monitor, Process, Right, Order}

-- a name in front of the names behind it, if all of them are names
abbrev pub before_names : Option (List ℕ) → Option (List (List ℕ)) → Option (List (List ℕ))
before_names (Some name) (Some names) = Some (name ∷ names)
before_names (Some name) None = None
before_names None names = None

-- the names that these words are, or none where one of them is no name
abbrev pub names_of : List (List ℕ) → Option (List (List ℕ))
names_of [] = Some []
names_of (word ∷ words) = before_names (identifier word) (names_of words)

-- `MONITOR` and `PROCESS` have one name behind them
abbrev pub declares_name : (List ℕ → Card) → List (List ℕ) → Card
declares_name says (name ∷ []) = says name
declares_name says (name ∷ other ∷ more) = Bad
declares_name says [] = Bad

-- `RIGHT` has a holder behind it, and one monitor or more
abbrev pub gives_rights : List (List ℕ) → Card
gives_rights (holder ∷ monitor ∷ more) = Right holder (monitor ∷ more)
gives_rights (holder ∷ []) = Bad
gives_rights [] = Bad

-- `ORDER` has one monitor or more
abbrev pub orders_monitors : List (List ℕ) → Card
orders_monitors (monitor ∷ more) = Order (monitor ∷ more)
orders_monitors [] = Bad

-- a word, and names behind it
abbrev pub of_word : List ℕ → List (List ℕ) → Card
of_word word names =
    if spells word (codes "MONITOR") then declares_name Monitor names
    else (if spells word (codes "PROCESS") then declares_name Process names
    else (if spells word (codes "RIGHT") then gives_rights names
    else (if spells word (codes "ORDER") then orders_monitors names else Bad)))

-- a word, and words behind it that have to be names
abbrev pub with_names : List ℕ → Option (List (List ℕ)) → Card
with_names word (Some names) = of_word word names
with_names word None = Bad

abbrev pub of_words : List (List ℕ) → Card
of_words [] = Blank
of_words (word ∷ others) = with_names word (names_of others)

-- what a card says: `right p a b` gives the holder `P` the rights to `A` and `B`, `RIGHT P` is bad
abbrev pub card_meaning : Item → Card
card_meaning (Line text) = of_words (words text)
card_meaning Spoiled = Bad
