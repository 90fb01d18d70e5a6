-- The cards of a text are items that there can be.
use Rattle.std.proofs.Common.{◌≡◌, ℕ, ◌+◌, ◌≤◌, Bool, true, false, nat_le, if◌then◌else◌, List, [], ◌∷◌, length, map, refl, arith}
use Rattle.std.specs.Prelude.{◌&&◌}
use Rattle.std.specs.List.{list_all}
use Rattle.std.proofs.lemmas.Bool.Decides.{nat_tests}
use Rattle.solo_base.specs.Line.{is_printable}
use Rattle.solo_base.specs.Blanks.{before_trimmed, trimmed}
use Rattle.solo_base.specs.Card.{lines, without_return, card_of, cards}
use Rattle.solo_base.specs.declared.item.Item.TheVariants.{Line, Spoiled}
use Rattle.page_codec.specs.Items.{IsItem, AreItems}

both : (a b : Bool) → a && b ≡ true → (a ≡ true) × (b ≡ true)
both true b is = (refl, is)
both false b is = cc

before-short : (x : ℕ) (rest : List ℕ) → length (before_trimmed x rest) ≤ length rest + 1
before-short x [] = grind (arith, nat_tests)
before-short x (y ∷ rest) = omega arith

trimmed-short : (s : List ℕ) → length (trimmed s) ≤ length s
trimmed-short [] = omega arith
trimmed-short (x ∷ xs) = omega (arith, before-short x (trimmed xs), trimmed-short xs)

before-prints : (x : ℕ) (rest : List ℕ) → is_printable x ≡ true → list_all is_printable rest ≡ true → list_all is_printable (before_trimmed x rest) ≡ true
before-prints x [] is are = grind (arith, nat_tests)
before-prints x (y ∷ rest) is are = rw (is, are) refl

trimmed-prints : (s : List ℕ) → list_all is_printable s ≡ true → list_all is_printable (trimmed s) ≡ true
trimmed-prints [] are = refl
trimmed-prints (x ∷ xs) are =
    let parts : (is_printable x ≡ true) × (list_all is_printable xs ≡ true) = both (is_printable x) (list_all is_printable xs) are in
    before-prints x (trimmed xs) parts.0 (trimmed-prints xs parts.1)

few : (n : ℕ) → nat_le n 80 ≡ true → n ≤ 80
few n is = grind (arith, nat_tests)

judged-by : (test : Bool) (columns : List ℕ) → (nat_le (length columns) 80 && list_all is_printable columns) ≡ test
    → IsItem (if test then Line (trimmed columns) else Spoiled)
judged-by true columns is =
    let parts : _ = both (nat_le (length columns) 80) (list_all is_printable columns) is in
    let shorter : _ = trimmed-short columns in
    let most : _ = few (length columns) parts.0 in
    record { short = omega (arith, shorter, most); printable = trimmed-prints columns parts.1 }
judged-by false columns is = tt

each : (pieces : List (List ℕ)) → AreItems (map card_of pieces)
each [] = tt
each (piece ∷ more) =
    (judged-by (nat_le (length (without_return piece)) 80 && list_all is_printable (without_return piece)) (without_return piece) refl, each more)

pub card-items : (bytes : List ℕ) → AreItems (cards bytes)
card-items bytes = each (lines bytes)
