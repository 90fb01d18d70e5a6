-- What a card says to the deck: `#` in column 1, directly followed by its first word.
use Rattle.std.specs.Prelude.{ℕ, ◌==◌, List, [], ◌∷◌, Option, Some, None, codes, if◌then◌else◌}
use Rattle.std.specs.Option.{option_map_or}
use Rattle.solo_base.specs.Ident.{identifier}
use Rattle.solo_base.specs.Words.{words, spells}
use Rattle.deck_format.specs.Numeral.{number_within}
use Rattle.deck_format.specs.declared.control.Opener.TheVariants as opener
use Rattle.deck_format.specs.declared.control.Control.{Control}
use Rattle.deck_format.specs.declared.control.Control.TheVariants.{Opens, Data, End, Bad}

-- a limit of ticks: one to seven digits, of a value from 1 to 1,000,000
abbrev pub limit_of : List ℕ → Option ℕ
limit_of word = number_within 7 1 1000000 word

-- where a job gives no limit
abbrev pub default_limit : ℕ
default_limit = 10000

-- a control card of one word
abbrev pub lone : List ℕ → Control
lone word = if spells word (codes "DATA") then Data else (if spells word (codes "END") then End else Bad)

-- of a word and a name
abbrev pub named : List ℕ → List ℕ → Control
named word name =
    if spells word (codes "LIST") then option_map_or (λ ident. Opens (opener.List ident)) (identifier name) Bad
    else (if spells word (codes "JOB") then option_map_or (λ ident. Opens (opener.Job ident default_limit)) (identifier name) Bad else Bad)

-- a job's limit, behind its name
abbrev pub with_limit : List ℕ → Option ℕ → Control
with_limit ident None = Bad
with_limit ident (Some limit) = Opens (opener.Job ident limit)

-- the file of a program, behind the job's name
abbrev pub with_file : List ℕ → Option (List ℕ) → Control
with_file ident None = Bad
with_file ident (Some file) = Opens (opener.Run ident file)

-- of a word, a name, and a limit or a file
abbrev pub with_last : List ℕ → List ℕ → List ℕ → Control
with_last word name last =
    if spells word (codes "JOB") then option_map_or (λ ident. with_limit ident (limit_of last)) (identifier name) Bad
    else (if spells word (codes "RUN") then option_map_or (λ ident. with_file ident (identifier last)) (identifier name) Bad else Bad)

-- what the words behind `#` say
abbrev pub form : List (List ℕ) → Control
form [] = Bad
form (word ∷ []) = lone word
form (word ∷ name ∷ []) = named word name
form (word ∷ name ∷ last ∷ []) = with_last word name last
form (word ∷ name ∷ last ∷ more ∷ others) = Bad

-- what stands behind `#`: its first word stands directly there
abbrev pub behind_mark : List ℕ → Control
behind_mark [] = Bad
behind_mark (code ∷ rest) = if code == 32 then Bad else form (words (code ∷ rest))

-- the control card that a card is, or none where it is a plain card: `#list a` opens the list `A`, `# LIST A` is bad
abbrev pub control_of : List ℕ → Option Control
control_of [] = None
control_of (code ∷ rest) = if code == 35 then Some (behind_mark rest) else None
