-- The arguments of a program.
use Rattle.std.specs.Prelude.{ℕ, true, false, ◌==◌, nat_le, List, [], ◌∷◌, ◌++◌, length, codes, Option, Some, None, ℤ, pos, neg_ℤ, if◌then◌else◌}
use Rattle.std.specs.Option.{option_map}
use Rattle.solo_base.specs.Ident.{identifier}
use Rattle.solo_base.specs.declared.system_call.Arg.{Arg}
use Rattle.solo_base.specs.declared.system_call.Arg.TheVariants as arg
use Rattle.solo_base.specs.Words.{spells}
use Rattle.deck_format.specs.Numeral.{number_within}

-- one to five digits, with `-` before a negative number: from -32768 to 32767, and `-0` is 0
abbrev pub number : List ℕ → Option ℤ
number [] = None
number (code ∷ rest) =
    if code == 45 then option_map (λ n. neg_ℤ (pos n)) (number_within 5 0 32768 rest)
    else option_map (λ n. pos n) (number_within 5 0 32767 (code ∷ rest))

abbrev pub or_name : Option ℤ → List ℕ → Option Arg
or_name (Some value) word = Some (arg.Int value)
or_name None word = option_map (λ name. arg.Id name) (identifier word)

-- NIL, TRUE, FALSE, a number, or any other name
abbrev pub argument_said : List ℕ → Option Arg
argument_said word =
    if spells word (codes "NIL") then Some arg.Nil
    else if spells word (codes "TRUE") then Some (arg.Bool true)
    else if spells word (codes "FALSE") then Some (arg.Bool false) else or_name (number word) word

abbrev pub first_of : Option Arg → Option (List Arg) → Option (List Arg)
first_of (Some first) (Some others) = Some (first ∷ others)
first_of (Some first) None = None
first_of None others = None

-- each word is an argument
abbrev pub each_argument : List (List ℕ) → Option (List Arg)
each_argument [] = Some []
each_argument (word ∷ words) = first_of (argument_said word) (each_argument words)

abbrev pub at_most_ten : Option (List Arg) → Option (List Arg)
at_most_ten None = None
at_most_ten (Some args) = if nat_le (length args) 10 then Some args else None

-- the arguments that some words are: at most ten
abbrev pub arguments : List (List ℕ) → Option (List Arg)
arguments words = at_most_ten (each_argument words)

-- ---- Arguments that are collected

-- one more behind some
abbrev pub with_one : List Arg → Option Arg → Option (List Arg)
with_one args None = None
with_one args (Some last) = Some (args ++ last ∷ [])

-- others behind some, ten at most in all
abbrev pub with_others : List Arg → Option (List Arg) → Option (List Arg)
with_others args None = None
with_others args (Some others) = at_most_ten (Some (args ++ others))
