-- The limit of ticks that an opener gives.
use Rattle.std.proofs.Common.{◌≡◌, ℕ, ◌≤◌, Bool, true, false, ◌&&◌, Option, Some, None, List, [], ◌∷◌, refl, subst, arith}
use Rattle.std.specs.Prelude.{nat_le, codes, cond, ◌==◌}
use Rattle.std.specs.Option.{option_map_or}
use Rattle.std.proofs.lemmas.Bool.{leb-true, and_parts}
use Rattle.solo_base.specs.Ident.{identifier}
use Rattle.solo_base.specs.declared.item.Item.{Item}
use Rattle.solo_base.specs.declared.item.Item.TheVariants.{Line, Spoiled}
use Rattle.deck_format.specs.Numeral.{value_after, is_numeral}
use Rattle.deck_format.specs.declared.control.Opener.{Opener}
use Rattle.deck_format.specs.declared.control.Opener.TheVariants as opener
use Rattle.deck_format.specs.declared.control.Control.{Control}
use Rattle.deck_format.specs.declared.control.Control.TheVariants.{Opens, Data, End, Bad}
use Rattle.solo_base.specs.Words.{words, spells}
use Rattle.deck_format.specs.Control.{limit_of, default_limit, lone, named, with_limit, with_file, with_last, form, behind_mark}
use Rattle.deck_format.specs.Jobs.{opener_in}
use Rattle.deck_format.specs.JobReader.{control_in}
use Rattle.batch_job.specs.LinesAhead as ahead

abbrev pub IsLow : Opener → Type 0
IsLow o = ahead.limit_of o ≤ 1000000

abbrev OpensLow : Control → Type 0
OpensLow (Opens o) = IsLow o
OpensLow Data = Unit {0}
OpensLow End = Unit {0}
OpensLow Bad = Unit {0}

choice : (b : Bool) (x y : Control) → OpensLow x → OpensLow y → OpensLow (cond b x y)
choice true x y first second = first
choice false x y first second = second

mapped : (f : List ℕ → Control) (o : Option (List ℕ)) → ((ident : List ℕ) → OpensLow (f ident)) → OpensLow (option_map_or f o Bad)
mapped f None low = tt
mapped f (Some ident) low = low ident

abbrev MayBeLow : Option ℕ → Type 0
MayBeLow None = Unit {0}
MayBeLow (Some n) = n ≤ 1000000

within : (b : Bool) (n : ℕ) → (b ≡ true → n ≤ 1000000) → MayBeLow (cond b (Some n) None)
within true n low = low refl
within false n low = tt

limit-low : (word : List ℕ) → MayBeLow (limit_of word)
limit-low word =
    let value = value_after 0 word in
    within (is_numeral 7 word && nat_le 1 value && nat_le value 1000000) value
    (λ test. leb-true value 1000000 (and_parts (is_numeral 7 word && nat_le 1 value) (nat_le value 1000000) test).1)

limited : (ident : List ℕ) (o : Option ℕ) → MayBeLow o → OpensLow (with_limit ident o)
limited ident None low = tt
limited ident (Some limit) low = low

filed : (ident : List ℕ) (o : Option (List ℕ)) → OpensLow (with_file ident o)
filed ident None = tt
filed ident (Some file) = omega arith

lone-low : (word : List ℕ) → OpensLow (lone word)
lone-low word = choice (spells word (codes "DATA")) Data (cond (spells word (codes "END")) End Bad) tt (choice (spells word (codes "END")) End Bad tt tt)

named-low : (word name : List ℕ) → OpensLow (named word name)
named-low word name =
    let lists : List ℕ → Control = λ ident. Opens (opener.List ident) in
    let jobs : List ℕ → Control = λ ident. Opens (opener.Job ident default_limit) in
    choice (spells word (codes "LIST")) (option_map_or lists (identifier name) Bad)
    (cond (spells word (codes "JOB")) (option_map_or jobs (identifier name) Bad) Bad)
    (mapped lists (identifier name) (λ ident. omega arith))
    (choice (spells word (codes "JOB")) (option_map_or jobs (identifier name) Bad) Bad (mapped jobs (identifier name) (λ ident. omega arith)) tt)

last-low : (word name last : List ℕ) → OpensLow (with_last word name last)
last-low word name last =
    let jobs : List ℕ → Control = λ ident. with_limit ident (limit_of last) in
    let runs : List ℕ → Control = λ ident. with_file ident (identifier last) in
    choice (spells word (codes "JOB")) (option_map_or jobs (identifier name) Bad)
    (cond (spells word (codes "RUN")) (option_map_or runs (identifier name) Bad) Bad)
    (mapped jobs (identifier name) (λ ident. limited ident (limit_of last) (limit-low last)))
    (choice (spells word (codes "RUN")) (option_map_or runs (identifier name) Bad) Bad
    (mapped runs (identifier name) (λ ident. filed ident (identifier last))) tt)

form-low : (ws : List (List ℕ)) → OpensLow (form ws)
form-low [] = tt
form-low (word ∷ []) = lone-low word
form-low (word ∷ name ∷ []) = named-low word name
form-low (word ∷ name ∷ last ∷ []) = last-low word name last
form-low (word ∷ name ∷ last ∷ more ∷ others) = tt

mark-low : (text : List ℕ) → OpensLow (behind_mark text)
mark-low [] = tt
mark-low (code ∷ rest) = choice (code == 32) Bad (form (words (code ∷ rest))) tt (form-low (words (code ∷ rest)))

abbrev MayOpenLow : Option Control → Type 0
MayOpenLow None = Unit {0}
MayOpenLow (Some control) = OpensLow control

if-marked : (b : Bool) (control : Control) → OpensLow control → MayOpenLow (cond b (Some control) None)
if-marked true control low = low
if-marked false control low = tt

control-low : (item : Item) → MayOpenLow (control_in item)
control-low Spoiled = tt
control-low (Line []) = tt
control-low (Line (code ∷ rest)) = if-marked (code == 35) (behind_mark rest) (mark-low rest)

by-control : (control : Option Control) (o : Opener) → MayOpenLow control → opener_in control ≡ Some o → IsLow o
by-control None o low is = absurd cc
by-control (Some (Opens p)) o low is = let same : p ≡ o = cc in subst IsLow same low
by-control (Some Data) o low is = absurd cc
by-control (Some End) o low is = absurd cc
by-control (Some Bad) o low is = absurd cc

pub opener-low : (item : Item) (o : Opener) → opener_in (control_in item) ≡ Some o → IsLow o
opener-low item o is = by-control (control_in item) o (control-low item) is
