-- The number behind `make` is one that there is a deck of.
use Rattle.std.proofs.Common.{◌≡◌, ◌≤◌, ◌==◌, ℕ, Bool, true, false, nat_le, if◌then◌else◌, List, [], ◌∷◌, ◌++◌, Option, Some, None, length, map, refl, arith}
use Rattle.std.specs.Prelude.{◌&&◌, option_map, option_and_then, codes}
use Rattle.std.specs.Option.{option_or}
use Rattle.std.specs.Str.{bytes_eq}
use Rattle.std.proofs.lemmas.Bool.Decides.{nat_tests}
use Rattle.deck_format.specs.Numeral.{number_within, is_numeral, value_after}
use Rattle.solo_cli.specs.declared.words.Command.{Command}
use Rattle.solo_cli.specs.declared.words.Command.TheVariants as command
use Rattle.solo_cli.specs.declared.words.Numbered.{Numbered}
use Rattle.solo_cli.specs.declared.words.Numbered.TheVariants as numbered
use Rattle.solo_cli.specs.Words.{HasNumber, form, takes_number, option_of, greatest_number, with_number, number_behind, apart_of, apart, joined_of, joined}

-- a command has a number of a deck
abbrev IsMadeOf : ℕ → Option Command → Type 0
IsMadeOf n found = found ≡ Some (command.Make n) → n ≤ 50000

-- a number that was found is at most so great
abbrev AtMost : ℕ → Option ℕ → Type 0
AtMost most None = Unit {0}
AtMost most (Some n) = n ≤ most

by-tests : (first last : Bool) (n most : ℕ) → nat_le n most ≡ last → AtMost most (if first && last then Some n else None)
by-tests true true n most is = grind (arith, nat_tests)
by-tests true false n most is = tt
by-tests false last n most is = tt

within : (digits least most : ℕ) (word : List ℕ) → AtMost most (number_within digits least most word)
within digits least most word =
    by-tests (is_numeral digits word && nat_le least (value_after 0 word)) (nat_le (value_after 0 word) most) (value_after 0 word) most refl

behind-by : (test : Bool) (most : ℕ) (found : Option ℕ) → AtMost most found → AtMost most (if test then found else None)
behind-by true most found is = is
behind-by false most found is = tt

behind : (beginning : List ℕ) (most : ℕ) (word : List ℕ) → AtMost most (number_behind beginning most word)
behind [] most word = within 10 0 most word
behind (code ∷ beginning) most [] = tt
behind (code ∷ beginning) most (first ∷ rest) =
    behind-by (first == code) most (number_behind beginning most rest) (behind beginning most rest)

make-is : {a b : ℕ} → Some (command.Make a) ≡ Some (command.Make b) → a ≡ b
make-is same = cc

with-kind : (kind : Numbered) (found : Option ℕ) (n : ℕ) → AtMost (greatest_number kind) found → IsMadeOf n (option_map (with_number kind) found)
with-kind numbered.Core None n few = λ is. cc
with-kind numbered.Core (Some m) n few = λ is. cc
with-kind numbered.Make None n few = λ is. cc
with-kind numbered.Make (Some m) n few = λ is. (let same = make-is is in omega (arith, few, same))
with-kind numbered.Times None n few = λ is. cc
with-kind numbered.Times (Some m) n few = λ is. cc

if-option : (test : Bool) (found : Option Command) (n : ℕ) → IsMadeOf n found → IsMadeOf n (if test then found else None)
if-option true found n is = is
if-option false found n is = λ made. cc

with-apart : (word option digits : List ℕ) (kind : Option Numbered) (n : ℕ) → IsMadeOf n (option_and_then (apart_of option digits) kind)
with-apart word option digits None n = λ is. cc
with-apart word option digits (Some kind) n =
    if-option (bytes_eq option (option_of kind)) (option_map (with_number kind) (number_within 10 0 (greatest_number kind) digits)) n
    (with-kind kind (number_within 10 0 (greatest_number kind) digits) n (within 10 0 (greatest_number kind) digits))

with-joined : (option : List ℕ) (kind : Option Numbered) (n : ℕ) → IsMadeOf n (option_and_then (joined_of option) kind)
with-joined option None n = λ is. cc
with-joined option (Some kind) n =
    with-kind kind (number_behind (option_of kind ++ 61 ∷ []) (greatest_number kind) option) n
    (behind (option_of kind ++ 61 ∷ []) (greatest_number kind) option)

or-both : (first second : Option Command) (n : ℕ) → IsMadeOf n first → IsMadeOf n second → IsMadeOf n (option_or first second)
or-both None second n one two = two
or-both (Some found) second n one two = one

alone-by : (batch format migrate check solo : Bool) (n : ℕ)
    → IsMadeOf n (if batch then Some command.Batch else if format then Some command.Format
    else if migrate then Some command.Migrate else if check then Some command.Check else if solo then Some command.Solo else None)
alone-by true format migrate check solo n = λ is. cc
alone-by false true migrate check solo n = λ is. cc
alone-by false false true check solo n = λ is. cc
alone-by false false false true solo n = λ is. cc
alone-by false false false false true n = λ is. cc
alone-by false false false false false n = λ is. cc

pub number_made : (words : List (List ℕ)) (n : ℕ) → form words ≡ Some (command.Make n) → n ≤ 50000
number_made [] n = λ is. cc
number_made (word ∷ []) n =
    alone-by (bytes_eq word (codes "batch")) (bytes_eq word (codes "format")) (bytes_eq word (codes "migrate"))
    (bytes_eq word (codes "check")) (bytes_eq word (codes "solo")) n
number_made (first ∷ second ∷ []) n =
    or-both (joined first second) (joined second first) n (with-joined second (takes_number first) n) (with-joined first (takes_number second) n)
number_made (first ∷ second ∷ third ∷ []) n =
    or-both (apart first second third) (apart third first second) n (with-apart first second third (takes_number first) n)
    (with-apart third first second (takes_number third) n)
number_made (first ∷ second ∷ third ∷ fourth ∷ others) n = λ is. cc

-- and so the number of a command that there is
has-of : (words : List (List ℕ)) (found : Option Command) → form words ≡ found → HasNumber found
has-of words None is = tt
has-of words (Some command.Batch) is = tt
has-of words (Some (command.Core schedule)) is = tt
has-of words (Some (command.Make number)) is = number_made words number is
has-of words (Some command.Format) is = tt
has-of words (Some command.Migrate) is = tt
has-of words (Some command.Check) is = tt
has-of words (Some (command.Times schedule)) is = tt
has-of words (Some command.Solo) is = tt

pub has-number : (words : List (List ℕ)) → HasNumber (form words)
has-number words = has-of words (form words) refl

-- four words and more are no command
pub four-words : {A : Type 0} (f : A → List ℕ) (words : List A) → 4 ≤ length words → None ≡ form (map f words)
four-words f [] more = absurd (omega (arith, more))
four-words f (a ∷ []) more = absurd (omega (arith, more))
four-words f (a ∷ b ∷ []) more = absurd (omega (arith, more))
four-words f (a ∷ b ∷ c ∷ []) more = absurd (omega (arith, more))
four-words f (a ∷ b ∷ c ∷ d ∷ others) more = refl
