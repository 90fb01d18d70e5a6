-- The arguments of a call, from the first one on.
use Rattle.std.proofs.Common.{◌≡◌, ℕ, ◌≤◌, ◌-◌, List, [], ◌∷◌, ◌++◌, length, map, take, drop, sym, ap, ◌∙◌, arith, append_assoc}
use Rattle.std.specs.Prelude.{slice_index_or}
use Rattle.std.proofs.lemmas.List.{take_rest}
use Rattle.stack_code.specs.declared.instr.Instr.{Instr}
use Rattle.pascal_tree.specs.Expression.{Expr, Exprs, Arguments, arguments}
use Rattle.pascal_mean.specs.Expressions.{name_in}
use Rattle.pascal_code.specs.Senses.{Sense, Site}
use Rattle.pascal_code.specs.Calls.{passed_code}
use Rattle.pascal_code.specs.Expressions.{expr_code, exprs_code, arguments_code}
use Rattle.pascal_compile.specs.declared.senses.Passing.{Passing}
use Rattle.pascal_compile.specs.Seen.{seen_passing}

-- a list that isn't empty is its first item and the others
pub whole_list : (ways : List Passing) (d : Passing) → 1 ≤ length ways
    → ways ≡ slice_index_or ways 0 d ∷ take (length ways - 1) (drop 1 ways)
whole_list [] d some = absurd (omega (arith, some))
whole_list (way ∷ others) d some = ap (λ rest. way ∷ rest) (sym (take_rest (way ∷ others) 1))

-- the first argument, and the later ones behind it
pub first_passed : (site : Site) (callee : Sense) (ways : List Passing) (way : Passing) (others : List Passing)
    (opening : ℕ) (e : Expr) (rest : Exprs) (closing : ℕ) (list : Arguments) (old one two : List Instr)
    → list ≡ arguments opening e rest closing → ways ≡ way ∷ others
    → one ≡ old ++ passed_code callee (seen_passing way) (site.names (name_in e)) (expr_code site e)
    → two ≡ one ++ exprs_code site callee (map seen_passing others) rest
    → two ≡ old ++ arguments_code site callee (map seen_passing ways) list
first_passed site callee ways way others opening e rest closing list old one two made is e1 e2 =
    let first = passed_code callee (seen_passing way) (site.names (name_in e)) (expr_code site e) in
    let later = exprs_code site callee (map seen_passing others) rest in
    e2 ∙ ap (λ a. a ++ later) e1 ∙ append_assoc old first later
    ∙ ap (λ l. old ++ arguments_code site callee (map seen_passing (way ∷ others)) l) (sym made)
    ∙ ap (λ w. old ++ arguments_code site callee (map seen_passing w) list) (sym is)
