-- The symbol that is read is the longest that stands there.
use Rattle.std.proofs.Common.{◌≡◌, ℕ, ◌≤◌, Bool, true, false, cond, List, [], ◌∷◌, ◌++◌, length, Option, Some, None, refl, sym, ap, subst, arith}
use Rattle.std.specs.Prelude.{bytes_eq, nat_le}
use Rattle.std.specs.List.{list_all}
use Rattle.std.specs.Cmp.{first_so, second_so}
use Rattle.std.proofs.lemmas.Slice.Eq.{bytes_eq-Decides}
use Rattle.std.proofs.lemmas.Bool.Decides.{nat_tests}
use Rattle.pascal_tree.specs.declared.token.Symbol.{Symbol}
use Rattle.pascal_read.specs.Piece.{Bad, look_up, symbols, symbol_or, symbol_at, covered}

abbrev is_short : List ℕ × Symbol → Bool
is_short entry = nat_le (length entry.0) 2

short-step : (entry : List ℕ × Symbol) (others : List (List ℕ × Symbol)) (spelling : List ℕ) (found : Symbol) (same : Bool) → bytes_eq spelling entry.0 ≡ same → is_short entry ≡ true → (look_up others spelling ≡ Some found → length spelling ≤ 2) → cond same (Some entry.1) (look_up others spelling) ≡ Some found → length spelling ≤ 2
short-step entry others spelling found true same short later is =
    let equal = ap length ((bytes_eq-Decides spelling entry.0).0 same) in
    grind (arith, nat_tests)
short-step entry others spelling found false same short later is = later is

-- what a table of short spellings has is short
short_found : (table : List (List ℕ × Symbol)) (spelling : List ℕ) (found : Symbol) → list_all is_short table ≡ true → look_up table spelling ≡ Some found → length spelling ≤ 2
short_found [] spelling found short is = cc
short_found (entry ∷ others) spelling found short is =
    short-step entry others spelling found (bytes_eq spelling entry.0) refl (first_so _ _ short) (short_found others spelling found (second_so _ _ short)) is

one_or_two : (two : Option Symbol) (one : Option Symbol) (found : Symbol) → one ≡ Some found → 1 ≤ covered (symbol_or two 2 (symbol_or one 1 Bad))
one_or_two None one found is = let P : Option Symbol → Type 0 = λ o. 1 ≤ covered (symbol_or o 1 Bad) in subst P (sym is) (omega arith)
one_or_two (Some other) one found is = omega arith

pub longest_symbol_is : (spelling rest : List ℕ) (found : Symbol) → look_up symbols spelling ≡ Some found → length spelling ≤ covered (symbol_at (spelling ++ rest))
longest_symbol_is [] rest found is = omega arith
longest_symbol_is (one ∷ []) [] found is =
    let P : Option Symbol → Type 0 = λ o. 1 ≤ covered (symbol_or o 1 (symbol_or o 1 Bad)) in subst P (sym is) (omega arith)
longest_symbol_is (one ∷ []) (next ∷ rest) found is =
    one_or_two (look_up symbols (one ∷ next ∷ [])) (look_up symbols (one ∷ [])) found is
longest_symbol_is (one ∷ two ∷ []) rest found is =
    let P : Option Symbol → Type 0 = λ o. 2 ≤ covered (symbol_or o 2 (symbol_or (look_up symbols (one ∷ [])) 1 Bad)) in subst P (sym is) (omega arith)
longest_symbol_is (one ∷ two ∷ three ∷ more) rest found is =
    absurd (omega (arith, short_found symbols (one ∷ two ∷ three ∷ more) found refl is))
