-- Each opener of a control card has a name that prints.
use Rattle.std.proofs.Common.{◌≡◌, ℕ, ◌==◌, Bool, true, false, if◌then◌else◌, List, [], ◌∷◌, Option, None, Some, refl, subst}
use Rattle.std.specs.Prelude.{codes}
use Rattle.std.specs.Option.{option_map_or}
use Rattle.solo_base.specs.declared.item.Item.{Item}
use Rattle.solo_base.specs.declared.item.Item.TheVariants.{Line, Spoiled}
use Rattle.solo_base.specs.Ident.{identifier}
use Rattle.deck_format.specs.declared.control.Opener.{Opener}
use Rattle.deck_format.specs.declared.control.Opener.TheVariants as opener
use Rattle.deck_format.specs.declared.control.Control.{Control}
use Rattle.deck_format.specs.declared.control.Control.TheVariants.{Opens, Data, End, Bad}
use Rattle.solo_base.specs.Words.{spells, words}
use Rattle.deck_format.specs.Control.{limit_of, default_limit, lone, with_limit, with_file, form, behind_mark, control_of}
use Rattle.deck_format.specs.Jobs.{opener_in, opener_of}
use Rattle.batch_job.proofs.PrintedTexts.{IsNamed, identifier-named}

-- ---- the openers of control cards
abbrev pub name_of : Opener → List ℕ
name_of (opener.List name) = name
name_of (opener.Job name limit) = name
name_of (opener.Run name file) = name

abbrev OpensNamed : Control → Type 0
OpensNamed (Opens o) = IsNamed (name_of o)
OpensNamed Data = Unit {0}
OpensNamed End = Unit {0}
OpensNamed Bad = Unit {0}

map-named : (f : List ℕ → Control) (found : Option (List ℕ)) → ((name : List ℕ) → found ≡ Some name → OpensNamed (f name))
    → OpensNamed (option_map_or f found Bad)
map-named f None each = tt
map-named f (Some name) each = each name refl

either-named : (t : Bool) (a b : Control) → OpensNamed a → OpensNamed b → OpensNamed (if t then a else b)
either-named true a b x y = x
either-named false a b x y = y

limit-named : (name : List ℕ) (limit : Option ℕ) → IsNamed name → OpensNamed (with_limit name limit)
limit-named name None is = tt
limit-named name (Some limit) is = is

file-named : (name : List ℕ) (file : Option (List ℕ)) → IsNamed name → OpensNamed (with_file name file)
file-named name None is = tt
file-named name (Some file) is = is

lone-named : (word : List ℕ) → OpensNamed (lone word)
lone-named word = either-named (spells word (codes "DATA")) Data _ tt (either-named (spells word (codes "END")) End Bad tt tt)

form-named : (ws : List (List ℕ)) → OpensNamed (form ws)
form-named [] = tt
form-named (word ∷ []) = lone-named word
form-named (word ∷ name ∷ []) =
    either-named (spells word (codes "LIST")) _ _ (map-named (λ ident. Opens (opener.List ident)) (identifier name) (λ ident e. identifier-named name ident e))
    (either-named (spells word (codes "JOB")) _ Bad (map-named (λ ident. Opens (opener.Job ident default_limit)) (identifier name)
    (λ ident e. identifier-named name ident e)) tt)
form-named (word ∷ name ∷ last ∷ []) =
    either-named (spells word (codes "JOB")) _ _ (map-named (λ ident. with_limit ident (limit_of last)) (identifier name)
    (λ ident e. limit-named ident (limit_of last) (identifier-named name ident e)))
    (either-named (spells word (codes "RUN")) _ Bad (map-named (λ ident. with_file ident (identifier last)) (identifier name)
    (λ ident e. file-named ident (identifier last) (identifier-named name ident e))) tt)
form-named (word ∷ name ∷ last ∷ more ∷ others) = tt

mark-named : (text : List ℕ) → OpensNamed (behind_mark text)
mark-named [] = tt
mark-named (code ∷ rest) = either-named (code == 32) Bad (form (words (code ∷ rest))) tt (form-named (words (code ∷ rest)))

abbrev MayOpenNamed : Option Control → Type 0
MayOpenNamed None = Unit {0}
MayOpenNamed (Some control) = OpensNamed control

card-named : (card : List ℕ) → MayOpenNamed (control_of card)
card-named [] = tt
card-named (code ∷ rest) =
    let P : Bool → Type 0 = λ t. MayOpenNamed (if t then Some (behind_mark rest) else None) in
    elim (code == 35) as P [ true ↦ mark-named rest | false ↦ tt ]

opener-by : (control : Option Control) (o : Opener) → MayOpenNamed control → opener_in control ≡ Some o → IsNamed (name_of o)
opener-by (Some (Opens o')) o is e = let same : o' ≡ o = cc in subst (λ o. IsNamed (name_of o)) same is
opener-by (Some Data) o is e = absurd cc
opener-by (Some End) o is e = absurd cc
opener-by (Some Bad) o is e = absurd cc
opener-by None o is e = absurd cc

pub opener-named : (item : Item) (o : Opener) → opener_of item ≡ Some o → IsNamed (name_of o)
opener-named (Line card) o e = opener-by (control_of card) o (card-named card) e
opener-named Spoiled o e = absurd cc
