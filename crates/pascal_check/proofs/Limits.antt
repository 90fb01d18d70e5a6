-- Parameters pass 16 words before their frame passes 4,096.
use Rattle.std.proofs.Common.{◌≡◌, ℕ, ◌≤◌, nat_lt, Bool, true, false, List, [], ◌∷◌, Option, Some, None, refl, sym, ap, subst, ◌∙◌, true≢false, arith}
use Rattle.std.proofs.lemmas.Bool.{ltb-false, le-ltb}
use Rattle.pascal_tree.specs.Word.{NameAt}
use Rattle.pascal_tree.specs.Program.{ParameterGroup}
use Rattle.pascal_tree.specs.Scopes.{Scope, declare, words_of_means}
use Rattle.pascal_tree.specs.ExpressionRules.{Judged, breaks}
use Rattle.pascal_tree.specs.DeclarationRules.{judged_once, judged_parameter, judged_parameter_group, judged_type_name, one_by_one, all_names, scalar_named, or_integer, parameter_means, group_means, frame_words, first_broken}
use Rattle.pascal_tree.specs.declared.broken.Broken.{Broken}
use Rattle.pascal_tree.specs.declared.scalar.Scalar.{Scalar}
use Rattle.pascal_tree.specs.declared.means.Means.{Means}
use Rattle.pascal_check.specs.Frames.{judged_within}
use Rattle.pascal_check.proofs.Framed.{one_more}
use Rattle.pascal_check.proofs.Headings.{past_none}

-- a parameter takes one word or two
pub few_words : (v : Option ℕ) (t : Scalar) → words_of_means (parameter_means v t) ≤ 2
few_words None t = omega arith
few_words (Some line) t = omega arith

one_limit : (once : Option Broken) (large larger : Bool) (l : ℕ) (more rest : Judged) → large ≡ false
    → (larger ≡ false → first_broken more ≡ first_broken rest)
    → first_broken (once ∷ breaks 6 large l ∷ breaks 7 larger l ∷ more) ≡ first_broken (once ∷ breaks 7 larger l ∷ rest)
one_limit (Some b) large larger l more rest few same = refl
one_limit None true larger l more rest few same = absurd (true≢false few)
one_limit None false true l more rest few same = refl
one_limit None false false l more rest few same = same refl

pub parameters_within : (m : Means) → words_of_means m ≤ 2 → (names : List NameAt) (s : Scope) → frame_words s ≤ 16
    → first_broken (one_by_one judged_parameter s m names) ≡ first_broken (one_by_one (judged_within 7 16) s m names)
parameters_within m small [] s fits = refl
parameters_within m small (n ∷ more) s fits =
    let t = declare s n.letters m in
    let few : frame_words t ≤ 18 = omega (arith, one_more s n.letters m, small, fits) in
    one_limit (judged_once s n) (nat_lt 4096 (frame_words t)) (nat_lt 16 (frame_words t)) n.line (one_by_one judged_parameter t m more)
    (one_by_one (judged_within 7 16) t m more) (le-ltb 4096 (frame_words t) (omega (arith, few)))
    (λ no. parameters_within m small more t (ltb-false 16 (frame_words t) no))

-- a group of parameters is judged by its names where its type is one
pub group_within : (s : Scope) (g : ParameterGroup) (t : Scalar) (m : Means) (used : ℕ) → judged_type_name s g.kind ≡ None → scalar_named s g.kind ≡ Some t
    → m ≡ parameter_means g.var t → used ≡ frame_words s → used ≤ 16
    → first_broken (judged_parameter_group s g) ≡ first_broken (one_by_one (judged_within 7 16) s m (all_names g.names))
group_within s g t m used known typed is counted fits =
    let names = all_names g.names in
    let meant : group_means s g ≡ m = ap (λ o. parameter_means g.var (or_integer o)) typed ∙ sym is in
    past_none (judged_type_name s g.kind) (one_by_one judged_parameter s (group_means s g) names) known
    ∙ ap (λ x. first_broken (one_by_one judged_parameter s x names)) meant
    ∙ parameters_within m (subst (λ x. words_of_means x ≤ 2) (sym is) (few_words g.var t)) names s (subst (λ n. n ≤ 16) counted fits)
