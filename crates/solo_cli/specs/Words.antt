-- The command that words are.
use Rattle.std.specs.Prelude.{◌≤◌, ℕ, List, [], ◌∷◌, ◌++◌, ◌==◌, Option, Some, None, codes, map, option_map, option_and_then, string_bytes, String, if◌then◌else◌}
use Rattle.std.specs.Option.{option_or}
use Rattle.std.specs.Str.{bytes_eq}
use Rattle.deck_format.specs.Numeral.{number_within}
use Rattle.solo_cli.specs.declared.words.Command.{Command}
use Rattle.solo_cli.specs.declared.words.Command.TheVariants as command
use Rattle.solo_cli.specs.declared.words.Numbered.{Numbered}
use Rattle.solo_cli.specs.declared.words.Numbered.TheVariants as numbered

-- the commands that stand alone
abbrev pub alone : List ℕ → Option Command
alone word =
    if bytes_eq word (codes "batch") then Some command.Batch
    else if bytes_eq word (codes "format") then Some command.Format
    else if bytes_eq word (codes "migrate") then Some command.Migrate
    else if bytes_eq word (codes "check") then Some command.Check
    else if bytes_eq word (codes "solo") then Some command.Solo else None

-- the commands that take a number
abbrev pub takes_number : List ℕ → Option Numbered
takes_number word =
    if bytes_eq word (codes "core") then Some numbered.Core
    else if bytes_eq word (codes "make") then Some numbered.Make
    else if bytes_eq word (codes "times") then Some numbered.Times else None

-- the option that names the number
abbrev pub option_of : Numbered → List ℕ
option_of numbered.Core = codes "--schedule"
option_of numbered.Make = codes "--number"
option_of numbered.Times = codes "--schedule"

-- the greatest number
abbrev pub greatest_number : Numbered → ℕ
greatest_number numbered.Core = 2147483647
greatest_number numbered.Make = 50000
greatest_number numbered.Times = 2147483647

-- the command with its number
abbrev pub with_number : Numbered → ℕ → Command
with_number numbered.Core schedule = command.Core schedule
with_number numbered.Make number = command.Make number
with_number numbered.Times schedule = command.Times schedule

-- a number of one to ten digits behind a beginning of a word: behind `--schedule=`, `--schedule=07` has 7
abbrev pub number_behind : List ℕ → ℕ → List ℕ → Option ℕ
number_behind [] most word = number_within 10 0 most word
number_behind (code ∷ beginning) most [] = None
number_behind (code ∷ beginning) most (first ∷ rest) =
    if first == code then number_behind beginning most rest else None

-- the option and the number as two words
abbrev pub apart_of : List ℕ → List ℕ → Numbered → Option Command
apart_of option digits kind =
    if bytes_eq option (option_of kind)
    then option_map (with_number kind) (number_within 10 0 (greatest_number kind) digits) else None

abbrev pub apart : List ℕ → List ℕ → List ℕ → Option Command
apart word option digits = option_and_then (apart_of option digits) (takes_number word)

-- the option and the number as one word, with `=` between them
abbrev pub joined_of : List ℕ → Numbered → Option Command
joined_of option kind =
    option_map (with_number kind) (number_behind (option_of kind ++ 61 ∷ []) (greatest_number kind) option)

abbrev pub joined : List ℕ → List ℕ → Option Command
joined word option = option_and_then (joined_of option) (takes_number word)

-- the command alone, or with its option before it or behind it, and no other word
abbrev pub form : List (List ℕ) → Option Command
form [] = None
form (word ∷ []) = alone word
form (first ∷ second ∷ []) = option_or (joined first second) (joined second first)
form (first ∷ second ∷ third ∷ []) = option_or (apart first second third) (apart third first second)
form (first ∷ second ∷ third ∷ fourth ∷ others) = None

-- what the words of a command line ask for
abbrev pub asked : {Z : Type 0} → List (String Z) → Option Command
asked words = form (map (λ word. string_bytes word) words)

-- the number of a deck is one that there is a deck of
abbrev pub HasNumber : Option Command → Type 0
HasNumber None = Unit {0}
HasNumber (Some command.Batch) = Unit {0}
HasNumber (Some (command.Core schedule)) = Unit {0}
HasNumber (Some (command.Make number)) = number ≤ 50000
HasNumber (Some command.Format) = Unit {0}
HasNumber (Some command.Migrate) = Unit {0}
HasNumber (Some command.Check) = Unit {0}
HasNumber (Some (command.Times schedule)) = Unit {0}
HasNumber (Some command.Solo) = Unit {0}
