-- A deck that is made names no file: no `#` of its bytes stands before an `R`.
use Rattle.std.proofs.Common.{◌≡◌, ℕ, zero, suc, ◌+◌, ◌/◌, ◌%◌, ◌<◌, ◌==◌, Bool, true, false, if◌then◌else◌, List, [], ◌∷◌, ◌++◌, map, codes, Option, Some, None, refl, sym, ap, ◌∙◌, append_assoc, append-nil, arith}
use Rattle.std.specs.Prelude.{◌&&◌, ◌||◌, filter, nat_le, length}
use Rattle.std.specs.Fmt.{decimal, digits, digits_onto, digit_glyph}
use Rattle.std.specs.List.{AllByRecursion, list_all}
use Rattle.std.specs.Option.{option_map_or}
use Rattle.std.proofs.lemmas.Bool.Decides.{nat_tests}
use Rattle.solo_base.specs.Blanks.{before_trimmed, trimmed}
use Rattle.solo_base.specs.Card.{lines, before_lines, without_return, card_of, cards}
use Rattle.solo_base.specs.Ident.{capital, identifier}
use Rattle.solo_base.specs.Line.{is_printable}
use Rattle.solo_base.specs.Text.{text}
use Rattle.solo_base.specs.declared.item.Item.TheVariants.{Line, Spoiled}
use Rattle.deck_format.specs.declared.control.Opener.TheVariants as opener
use Rattle.deck_format.specs.declared.control.Control.TheVariants.{Opens, Data, End, Bad}
use Rattle.solo_base.specs.Words.{before_parts, parts, is_word, words, spells}
use Rattle.deck_format.specs.Control.{limit_of, default_limit, with_limit, with_file, form, behind_mark, control_of}
use Rattle.deck_format.specs.Jobs.{opener_in, opener_of}
use Rattle.batch_job.specs.Loads.{file_named, files_named}
use Rattle.made_deck.specs.MadeDeck.{numbered_cards, list_cards, program_cards, job_cards, jobs_to, made_deck}

-- ---- what begins with `#R` or `#r`, and what has it somewhere
abbrev begins_r : List ℕ → Bool
begins_r [] = false
begins_r (code ∷ rest) = capital code == 82

abbrev opens : List ℕ → Bool
opens [] = false
opens (code ∷ rest) = (code == 35) && begins_r rest

abbrev has_run : List ℕ → Bool
has_run [] = false
has_run (code ∷ rest) = ((code == 35) && begins_r rest) || has_run rest

-- ---- a card without it names no file
lone-none : (parted ends : Bool) → file_named (opener_in (Some (if parted then Data else (if ends then End else Bad)))) ≡ []
lone-none true ends = refl
lone-none false true = refl
lone-none false false = refl

named-none : (list job : Bool) (ident : Option (List ℕ)) →
    file_named (opener_in (Some (if list then option_map_or (λ ident. Opens (opener.List ident)) ident Bad
    else (if job then option_map_or (λ ident. Opens (opener.Job ident default_limit)) ident Bad else Bad)))) ≡ []
named-none true job None = refl
named-none true job (Some ident) = refl
named-none false true None = refl
named-none false true (Some ident) = refl
named-none false false ident = refl

last-none : (job run : Bool) (ident file : Option (List ℕ)) (limit : Option ℕ) → run ≡ false
    → file_named (opener_in (Some (if job then option_map_or (λ ident. with_limit ident limit) ident Bad
    else (if run then option_map_or (λ ident. with_file ident file) ident Bad else Bad)))) ≡ []
last-none true run None file limit is = refl
last-none true run (Some ident) file None is = refl
last-none true run (Some ident) file (Some limit) is = refl
last-none false true ident file limit is = cc
last-none false false ident file limit is = refl

and-false : (a b : Bool) → a ≡ false → a && b ≡ false
and-false true b is = cc
and-false false b is = refl

false-after : (a : Bool) → a && false ≡ false
false-after true = refl
false-after false = refl

module _ (code : ℕ) (other : capital code == 82 ≡ false) where
  of-form : (word : List ℕ) (later : List (List ℕ)) → file_named (opener_in (Some (form ((code ∷ word) ∷ later)))) ≡ []
  of-form word [] = lone-none (spells (code ∷ word) (codes "DATA")) (spells (code ∷ word) (codes "END"))
  of-form word (name ∷ []) = named-none (spells (code ∷ word) (codes "LIST")) (spells (code ∷ word) (codes "JOB")) (identifier name)
  of-form word (name ∷ last ∷ []) =
      last-none (spells (code ∷ word) (codes "JOB")) (spells (code ∷ word) (codes "RUN")) (identifier name) (identifier last) (limit_of last)
      (and-false (capital code == 82) (spells word (codes "UN")) other)
  of-form word (name ∷ last ∷ more ∷ others) = refl

  of-parts : (pieces : List (List ℕ)) → file_named (opener_in (Some (form (filter is_word (before_parts code pieces))))) ≡ []
  of-parts [] = of-form [] []
  of-parts (first ∷ others) = of-form first (filter is_word others)

  of-words : (blank : Bool) (rest : List ℕ) → (code == 32) ≡ blank
      → file_named (opener_in (Some (if blank then Bad else form (words (code ∷ rest))))) ≡ []
  of-words true rest is = refl
  of-words false rest is = rw is (of-parts (parts rest))

by-mark : (mark : Bool) (rest : List ℕ) → mark && begins_r rest ≡ false → file_named (opener_in (if mark then Some (behind_mark rest) else None)) ≡ []
by-mark false rest is = refl
by-mark true [] is = refl
by-mark true (code ∷ rest) is = of-words code is (code == 32) rest refl

control-none : (card : List ℕ) → opens card ≡ false → file_named (opener_in (control_of card)) ≡ []
control-none [] is = refl
control-none (code ∷ rest) is = by-mark (code == 35) rest is

-- ---- nor does a line of which a blank at its end or a carriage return doesn't count
keep : (a b later : Bool) → (b ≡ false → later ≡ false) → a && b ≡ false → a && later ≡ false
keep true b later kept is = kept is
keep false b later kept is = refl

cut-short : (gone : Bool) (code : ℕ) → begins_r (code ∷ []) ≡ false → begins_r (if gone then [] else code ∷ []) ≡ false
cut-short true code is = refl
cut-short false code is = is

cut-mark : (gone : Bool) (code : ℕ) → opens (if gone then [] else code ∷ []) ≡ false
cut-mark true code = refl
cut-mark false code = false-after (code == 35)

before-r : (code : ℕ) (rest : List ℕ) → capital code == 82 ≡ false → begins_r (before_trimmed code rest) ≡ false
before-r code [] is = cut-short (code == 32) code is
before-r code (next ∷ rest) is = is

trimmed-r : (columns : List ℕ) → begins_r columns ≡ false → begins_r (trimmed columns) ≡ false
trimmed-r [] is = refl
trimmed-r (code ∷ rest) is = before-r code (trimmed rest) is

before-opens : (code : ℕ) (rest : List ℕ) → (code == 35) && begins_r rest ≡ false → opens (before_trimmed code rest) ≡ false
before-opens code [] is = cut-mark (code == 32) code
before-opens code (next ∷ rest) is = is

trimmed-opens : (columns : List ℕ) → opens columns ≡ false → opens (trimmed columns) ≡ false
trimmed-opens [] is = refl
trimmed-opens (code ∷ rest) is =
    before-opens code (trimmed rest) (keep (code == 35) (begins_r rest) (begins_r (trimmed rest)) (trimmed-r rest) is)

return-r : (line : List ℕ) → begins_r line ≡ false → begins_r (without_return line) ≡ false
return-r [] is = refl
return-r (code ∷ []) is = cut-short (code == 13) code is
return-r (code ∷ next ∷ rest) is = is

return-opens : (line : List ℕ) → opens line ≡ false → opens (without_return line) ≡ false
return-opens [] is = refl
return-opens (code ∷ []) is = cut-mark (code == 13) code
return-opens (code ∷ next ∷ rest) is =
    keep (code == 35) (begins_r (next ∷ rest)) (begins_r (without_return (next ∷ rest))) (return-r (next ∷ rest)) is

by-judge : (good : Bool) (columns : List ℕ) → opens columns ≡ false → file_named (opener_of (if good then Line (trimmed columns) else Spoiled)) ≡ []
by-judge true columns is = control-none (trimmed columns) (trimmed-opens columns is)
by-judge false columns is = refl

card-none : (line : List ℕ) → opens line ≡ false → file_named (opener_of (card_of line)) ≡ []
card-none line is =
    let columns = without_return line in
    by-judge (nat_le (length columns) 80 && list_all is_printable columns) columns (return-opens line is)

abbrev AreNone : List (List ℕ) → Type 0
AreNone pieces = AllByRecursion (λ line. opens line ≡ false) pieces

lines-none : (pieces : List (List ℕ)) → AreNone pieces → files_named (map card_of pieces) ≡ []
lines-none [] are = refl
lines-none (line ∷ later) are = rw (card-none line are.0, lines-none later are.1) refl

-- ---- so a text without it names none
or-false : (a b : Bool) → a || b ≡ false → (a ≡ false) × (b ≡ false)
or-false true b is = cc
or-false false b is = (refl, is)

abbrev first_of : List (List ℕ) → List ℕ
first_of [] = []
first_of (line ∷ later) = line

begun-r : (code : ℕ) (pieces : List (List ℕ)) → capital code == 82 ≡ false → begins_r (first_of (before_lines code pieces)) ≡ false
begun-r code [] is = is
begun-r code (first ∷ others) is = is

cut-r : (ends : Bool) (code : ℕ) (pieces : List (List ℕ)) → capital code == 82 ≡ false
    → begins_r (first_of (if ends then [] ∷ pieces else before_lines code pieces)) ≡ false
cut-r true code pieces is = refl
cut-r false code pieces is = begun-r code pieces is

first-r : (bytes : List ℕ) → begins_r bytes ≡ false → begins_r (first_of (lines bytes)) ≡ false
first-r [] is = refl
first-r (code ∷ rest) is = cut-r (code == 10) code (lines rest) is

begun-opens : (code : ℕ) (pieces : List (List ℕ)) → (code == 35) && begins_r (first_of pieces) ≡ false → AreNone pieces
    → AreNone (before_lines code pieces)
begun-opens code [] is are = (is, tt)
begun-opens code (first ∷ others) is are = (is, are.1)

cut-opens : (ends : Bool) (code : ℕ) (pieces : List (List ℕ)) → (code == 35) && begins_r (first_of pieces) ≡ false → AreNone pieces
    → AreNone (if ends then [] ∷ pieces else before_lines code pieces)
cut-opens true code pieces is are = (refl, are)
cut-opens false code pieces is are = begun-opens code pieces is are

text-opens : (bytes : List ℕ) → has_run bytes ≡ false → AreNone (lines bytes)
text-opens [] is = tt
text-opens (code ∷ rest) is =
    let parted = or-false ((code == 35) && begins_r rest) (has_run rest) is in
    cut-opens (code == 10) code (lines rest) (keep (code == 35) (begins_r rest) (begins_r (first_of (lines rest))) (first-r rest) parted.0)
    (text-opens rest parted.1)

-- ---- the lines of a deck that is made are without it
glyph : (digit : ℕ) → digit < 10 → digit_glyph false digit == 35 ≡ false
glyph digit small = grind (arith, nat_tests)

-- a character that isn't `#` in front
front-none : (code : ℕ) (rest : List ℕ) → code == 35 ≡ false → has_run (code ∷ rest) ≡ has_run rest
front-none code rest is = rw is refl

digits-none : (most n : ℕ) (later rest : List ℕ) → has_run (digits_onto most 10 false n later ++ rest) ≡ has_run (later ++ rest)
digits-none zero n later rest = refl
digits-none (suc most) n later rest =
    let digit = digit_glyph false (n % 10) in
    let plain : has_run (digit ∷ (later ++ rest)) ≡ has_run (later ++ rest) = front-none digit (later ++ rest) (glyph (n % 10) (omega arith)) in
    by (n / 10 == 0) (digit ∷ later) (digits_onto most 10 false (n / 10) (digit ∷ later)) plain (digits-none most (n / 10) (digit ∷ later) rest ∙ plain)
  where
    by : (last : Bool) (xs ys : List ℕ) → has_run (xs ++ rest) ≡ has_run (later ++ rest) → has_run (ys ++ rest) ≡ has_run (later ++ rest)
        → has_run ((if last then xs else ys) ++ rest) ≡ has_run (later ++ rest)
    by true xs ys one two = one
    by false xs ys one two = two

decimal-none : (n : ℕ) (rest : List ℕ) → has_run (decimal n ++ rest) ≡ has_run rest
unfolding digits
decimal-none n rest = digits-none 64 n [] rest

decimal-last : (n : ℕ) → has_run (decimal n) ≡ false
decimal-last n = ap has_run (sym (append-nil (decimal n))) ∙ decimal-none n []

abbrev AreQuiet : List (List ℕ) → Type 0
AreQuiet pieces = AllByRecursion (λ line. has_run line ≡ false) pieces

quiet-append : (pieces more : List (List ℕ)) → AreQuiet pieces → AreQuiet more → AreQuiet (pieces ++ more)
quiet-append [] more are later = later
quiet-append (line ∷ pieces) more are later = (are.0, quiet-append pieces more are.1 later)

numbered-quiet : (n : ℕ) → AreQuiet (numbered_cards n)
numbered-quiet zero = tt
numbered-quiet (suc n) = quiet-append (numbered_cards n) ((codes "CARD " ++ decimal (n + 1)) ∷ []) (numbered-quiet n) (decimal-last (n + 1), tt)

list-quiet : (k : ℕ) → AreQuiet (list_cards k)
list-quiet k = (decimal-last k, quiet-append (numbered_cards (k % 7)) (codes "#END" ∷ []) (numbered-quiet (k % 7)) (refl, tt))

program-quiet : (k : ℕ) → AreQuiet (program_cards k)
program-quiet k = (decimal-last k, (refl, (refl, (decimal-none (k % 10) (codes " DO BEGIN WRITEINT(I); WRITE(NL) END"), (refl, (refl, tt))))))

by-kind : (list : Bool) (k : ℕ) → AreQuiet (if list then list_cards k else program_cards k)
by-kind true k = list-quiet k
by-kind false k = program-quiet k

jobs-quiet : (n : ℕ) → AreQuiet (jobs_to n)
jobs-quiet zero = tt
jobs-quiet (suc n) = quiet-append (jobs_to n) (job_cards (n + 1)) (jobs-quiet n) (by-kind ((n + 1) % 3 == 0) (n + 1))

-- ---- and so is their text
or-assoc : (a b c : Bool) → a || (b || c) ≡ (a || b) || c
or-assoc true b c = refl
or-assoc false b c = refl

line-quiet : (line rest : List ℕ) → has_run (line ++ 10 ∷ rest) ≡ has_run line || has_run rest
line-quiet [] rest = refl
line-quiet (code ∷ []) rest = rw (false-after (code == 35)) refl
line-quiet (code ∷ next ∷ line) rest =
    ap (λ later. ((code == 35) && (capital next == 82)) || later) (line-quiet (next ∷ line) rest)
    ∙ or-assoc ((code == 35) && (capital next == 82)) (has_run (next ∷ line)) (has_run rest)

text-quiet : (pieces : List (List ℕ)) → AreQuiet pieces → has_run (text pieces) ≡ false
text-quiet [] are = refl
text-quiet (line ∷ pieces) are =
    ap has_run (append_assoc line (10 ∷ []) (text pieces)) ∙ line-quiet line (text pieces) ∙ rw (are.0, text-quiet pieces are.1) refl

pub no-files : (number : ℕ) → files_named (cards (made_deck number)) ≡ []
no-files number = lines-none (lines (made_deck number)) (text-opens (made_deck number) (text-quiet (jobs_to (100 + number)) (jobs-quiet (100 + number))))
