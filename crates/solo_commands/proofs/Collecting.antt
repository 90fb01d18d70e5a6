-- Arguments that are collected one after the other.
use Rattle.std.proofs.Common.{◌≡◌, ℕ, ◌≤◌, ◌<◌, true, false, List, [], ◌∷◌, ◌++◌, length, Option, Some, None, refl, ap, sym, arith, append_assoc}
use Rattle.std.specs.Prelude.{nat_le}
use Rattle.std.proofs.lemmas.Bool.{le-leb, lt-leb}
use Rattle.std.proofs.lemmas.List.{length-append}
use Rattle.solo_base.specs.declared.system_call.Arg.{Arg}
use Rattle.solo_commands.specs.Words.{without_blanks, comma_words, cut_at}
use Rattle.solo_commands.specs.Arguments.{argument_said, first_of, each_argument, at_most_ten, with_one, with_others}
use Rattle.solo_commands.proofs.Cutting.{words_one, words_more, HasWord, has_word}

full-by : (args : List Arg) (found : Option Arg) (others : Option (List Arg)) → 10 ≤ length args → with_others args (first_of found others) ≡ None
full-by args None others full = refl
full-by args (Some a) None full = refl
full-by args (Some a) (Some others) full =
    let long = length-append args (a ∷ others) in
    let over : nat_le (length (args ++ a ∷ others)) 10 ≡ false = lt-leb (length (args ++ a ∷ others)) 10 (omega (arith, long, full)) in
    rw over refl

-- behind ten arguments no word may come
pub full_list : (args : List Arg) (text : List ℕ) → 10 ≤ length args → with_others args (each_argument (comma_words text)) ≡ None
full_list args text full =
    let first : HasWord text = has_word text in rw first.are (full-by args (argument_said first.word) (each_argument first.others) full)

last-by : (args : List Arg) (found : Option Arg) → length args < 10 → with_one args found ≡ with_others args (first_of found (Some []))
last-by args None room = refl
last-by args (Some a) room =
    let long = length-append args (a ∷ []) in
    let within : nat_le (length (args ++ a ∷ [])) 10 ≡ true = le-leb (length (args ++ a ∷ [])) 10 (omega (arith, long, room)) in
    rw within refl

-- the last word
pub last_word : (args : List Arg) (text : List ℕ) → cut_at 44 text ≡ None → length args < 10
    → with_one args (argument_said (without_blanks text)) ≡ with_others args (each_argument (comma_words text))
last_word args text none room = rw (words_one text none) (last-by args (argument_said (without_blanks text)) room)

none-by : (args : List Arg) (found : Option Arg) (others : Option (List Arg)) → with_one args found ≡ None → with_others args (first_of found others) ≡ None
none-by args None others is = refl
none-by args (Some a) others is = absurd (some_none (args ++ a ∷ []) is) where
  some_none : (l : List Arg) → ◌≡◌ {A = Option (List Arg)} (Some l) None → ⊥
  some_none l e = cc

-- a word that is no argument
pub no_argument : (args : List Arg) (text before behind : List ℕ) → cut_at 44 text ≡ Some (before, behind)
    → with_one args (argument_said (without_blanks before)) ≡ None
    → with_others args (each_argument (comma_words text)) ≡ None
no_argument args text before behind cut none =
    rw (words_more text before behind cut) (none-by args (argument_said (without_blanks before)) (each_argument (comma_words behind)) none)

more-by : (args more : List Arg) (found : Option Arg) (others : Option (List Arg)) → with_one args found ≡ Some more
    → with_others more others ≡ with_others args (first_of found others)
more-by args more None others is = absurd (none_some more is) where
  none_some : (l : List Arg) → ◌≡◌ {A = Option (List Arg)} None (Some l) → ⊥
  none_some l e = cc
more-by args more (Some a) None is = refl
more-by args more (Some a) (Some others) is =
    (let same : more ≡ args ++ a ∷ [] = some_same more (args ++ a ∷ []) (sym is) in
    rw same (ap (λ all. at_most_ten (Some all)) (append_assoc args (a ∷ []) others))) where
      some_same : (a b : List Arg) → ◌≡◌ {A = Option (List Arg)} (Some a) (Some b) → a ≡ b
      some_same a b e = cc

-- a word that is one, and others behind it
pub one_argument : (args more : List Arg) (text before behind : List ℕ) → cut_at 44 text ≡ Some (before, behind)
    → with_one args (argument_said (without_blanks before)) ≡ Some more
    → with_others more (each_argument (comma_words behind)) ≡ with_others args (each_argument (comma_words text))
one_argument args more text before behind cut one =
    rw (words_more text before behind cut) (more-by args more (argument_said (without_blanks before)) (each_argument (comma_words behind)) one)
