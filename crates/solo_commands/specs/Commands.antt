-- What a typed line says: nothing, a command, or none of the commands.
use Rattle.std.specs.Prelude.{ℕ, Bool, true, false, ◌||◌, List, [], ◌∷◌, codes, Option, Some, None, Result, Ok, Err, if◌then◌else◌}
use Rattle.std.specs.Option.{option_map}
use Rattle.solo_base.specs.Blanks.{trimmed}
use Rattle.solo_base.specs.Ident.{identifier}
use Rattle.solo_base.specs.declared.item.Item.{Item}
use Rattle.solo_base.specs.declared.item.Item.TheVariants.{Line, Spoiled}
use Rattle.solo_base.specs.Words.{spells}
use Rattle.solo_commands.specs.declared.command.Command.{Command}
use Rattle.solo_commands.specs.declared.command.Command.TheVariants as command
use Rattle.solo_commands.specs.declared.command.BadCommand.{BadCommand}
use Rattle.solo_commands.specs.Words.{is_blank, without_blanks, comma_words, cut_at}
use Rattle.solo_commands.specs.Arguments.{arguments}

-- ---- Names

-- CARDS and PRINTER are names of files nowhere
abbrev pub file_name : List ℕ → Option (List ℕ)
file_name word =
    if spells word (codes "CARDS") || spells word (codes "PRINTER") then None else identifier word

-- where a copy comes from: CARDS, or a file
abbrev pub source : List ℕ → Option (List ℕ)
source word = if spells word (codes "PRINTER") then None else identifier word

-- where a copy goes to: PRINTER, or a new file
abbrev pub target : List ℕ → Option (List ℕ)
target word = if spells word (codes "CARDS") then None else identifier word

abbrev pub is_cards : List ℕ → Bool
is_cards name = spells (trimmed name) (codes "CARDS")

abbrev pub is_printer : List ℕ → Bool
is_printer name = spells (trimmed name) (codes "PRINTER")

-- the six words that are no names of programs
abbrev pub is_taken : List ℕ → Bool
is_taken word =
    spells word (codes "COPY") || spells word (codes "COMPILE") || spells word (codes "LIST")
    || spells word (codes "DELETE") || spells word (codes "RENAME") || spells word (codes "PROTECT")

abbrev pub program_name : List ℕ → Option (List ℕ)
program_name word = if is_taken word then None else file_name word

-- ---- Commands by the words in their parentheses

abbrev pub both : {A B : Type 0} → (A → B → Command) → Option A → Option B → Option Command
both make (Some a) (Some b) = Some (make a b)
both make (Some a) None = None
both make None b = None

abbrev pub program_with : List ℕ → List (List ℕ) → Option Command
program_with word words = both (λ name args. command.Program name args) (program_name word) (arguments words)

-- a word alone
abbrev pub word_alone : List ℕ → Option Command
word_alone word = if spells word (codes "LIST") then Some command.List else program_with word []

abbrev pub with_one_word : List ℕ → List ℕ → Option Command
with_one_word word a =
    if spells word (codes "DELETE") then option_map (λ name. command.Delete name) (file_name a)
    else program_with word (a ∷ [])

abbrev pub switch : List ℕ → Option Bool
switch word =
    if spells word (codes "ON") then Some true else if spells word (codes "OFF") then Some false else None

abbrev pub with_two : List ℕ → List ℕ → List ℕ → Option Command
with_two word a b =
    if spells word (codes "COPY") then both (λ from to. command.Copy from to) (source a) (target b)
    else if spells word (codes "COMPILE") then
    both (λ from to. command.Compile from to) (file_name a) (file_name b)
    else if spells word (codes "RENAME") then
    both (λ old new. command.Rename old new) (file_name a) (file_name b)
    else if spells word (codes "PROTECT") then
    both (λ name on. command.Protect name on) (file_name a) (switch b)
    else program_with word (a ∷ b ∷ [])

abbrev pub command_with : List ℕ → List (List ℕ) → Option Command
command_with word [] = program_with word []
command_with word (a ∷ []) = with_one_word word a
command_with word (a ∷ b ∷ []) = with_two word a b
command_with word (a ∷ b ∷ c ∷ others) = program_with word (a ∷ b ∷ c ∷ others)

-- ---- A line

-- parentheses close, and nothing but blanks stands behind them
abbrev pub if_closed : List ℕ → Option (List ℕ × List ℕ) → Option Command
if_closed word None = None
if_closed word (Some (inside, behind)) =
    if is_blank behind then command_with word (comma_words inside) else None

-- a word, or a word and words in parentheses
abbrev pub parted : List ℕ → Option (List ℕ × List ℕ) → Option Command
parted line None = word_alone (without_blanks line)
parted line (Some (word, behind)) = if_closed (without_blanks word) (cut_at 41 behind)

-- the command that a line is: ` Copy ( cards, text )` copies the cards to the new file TEXT, and `list()` is
-- none
abbrev pub command_of : List ℕ → Option Command
command_of line = parted line (cut_at 40 line)

pub data Said : Type 0 where
  Blank : Said
  Asks : Command → Said
  Bad : Said

abbrev pub or_bad : Option Command → Said
or_bad None = Bad
or_bad (Some asked) = Asks asked

abbrev pub line_says : List ℕ → Said
line_says line = if is_blank line then Blank else or_bad (command_of line)

-- what was typed; a spoiled line is no command
abbrev pub item_says : Item → Said
item_says (Line line) = line_says line
item_says Spoiled = Bad

-- an answer of the reader, as what it says of the line
abbrev pub as_said : Result (Option Command) BadCommand → Said
as_said (Ok None) = Blank
as_said (Ok (Some asked)) = Asks asked
as_said (Err bad) = Bad
