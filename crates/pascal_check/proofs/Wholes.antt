-- Terms and factors behind each other, judged as a whole.
use Rattle.std.proofs.Common.{◌≡◌, ℕ, ◌++◌, Option, Some, None, ap, ◌∙◌}
use Rattle.pascal_tree.specs.Expression.{simple, Addends, Term, term, Multipliers, Factor}
use Rattle.pascal_tree.specs.Scopes.{Scope, or_else}
use Rattle.pascal_tree.specs.ExpressionRules.{judged_simple, judged_term, judged_factor, judged_addends, judged_adding, judged_sign, judged_multipliers, judged_multiplying, simple_type, term_type, factor_type, signed_type, addends_type, multipliers_type}
use Rattle.pascal_tree.specs.DeclarationRules.{first_broken}
use Rattle.pascal_tree.specs.declared.expression.Sign.{Sign}
use Rattle.pascal_tree.specs.declared.scalar.Scalar.{Scalar}
use Rattle.pascal_check.proofs.Firsts.{first_append, first_behind}

signs : (sign : Option (Sign × ℕ)) (t : Option Scalar) (u v : Scalar) → t ≡ Some u → signed_type sign (Some u) ≡ Some v → signed_type sign t ≡ Some v
signs sign t u v is typed = ap (signed_type sign) is ∙ typed

-- the judgement of a simple expression, where its terms break no rule
pub simple_whole : (s : Scope) (sign : Option (Sign × ℕ)) (t : Term) (more : Addends) (u v : Scalar)
    → first_broken (judged_term s t) ≡ None → term_type s t ≡ Some u → first_broken (judged_addends s more) ≡ None
    → signed_type sign (Some u) ≡ Some v
    → first_broken (judged_simple s (simple sign t more)) ≡ or_else (first_broken (judged_sign sign (Some u))) (first_broken (judged_adding s (Some v) more))
simple_whole s sign t more u v first typed later signed =
    let operators = judged_sign sign (term_type s t) ++ judged_adding s (signed_type sign (term_type s t)) more in
    first_behind (judged_term s t) (judged_addends s more ++ operators) first
    ∙ first_behind (judged_addends s more) operators later
    ∙ first_append (judged_sign sign (term_type s t)) (judged_adding s (signed_type sign (term_type s t)) more)
    ∙ ap (λ o. or_else (first_broken (judged_sign sign o)) (first_broken (judged_adding s (signed_type sign (term_type s t)) more))) typed
    ∙ ap (λ o. or_else (first_broken (judged_sign sign (Some u))) (first_broken (judged_adding s o more))) (signs sign (term_type s t) u v typed signed)

pub simple_typed : (s : Scope) (sign : Option (Sign × ℕ)) (t : Term) (more : Addends) (u v : Scalar)
    → term_type s t ≡ Some u → signed_type sign (Some u) ≡ Some v → simple_type s (simple sign t more) ≡ addends_type (Some v) more
simple_typed s sign t more u v typed signed = ap (λ o. addends_type o more) (signs sign (term_type s t) u v typed signed)

-- the judgement of a term, where its factors break no rule
pub term_whole : (s : Scope) (f : Factor) (more : Multipliers) (u : Scalar)
    → first_broken (judged_factor s f) ≡ None → factor_type s f ≡ Some u → first_broken (judged_multipliers s more) ≡ None
    → first_broken (judged_term s (term f more)) ≡ first_broken (judged_multiplying s (Some u) more)
term_whole s f more u first typed later =
    first_behind (judged_factor s f) (judged_multipliers s more ++ judged_multiplying s (factor_type s f) more) first
    ∙ first_behind (judged_multipliers s more) (judged_multiplying s (factor_type s f) more) later
    ∙ ap (λ o. first_broken (judged_multiplying s o more)) typed

pub term_typed : (s : Scope) (f : Factor) (more : Multipliers) (u : Scalar) → factor_type s f ≡ Some u
    → term_type s (term f more) ≡ multipliers_type (Some u) more
term_typed s f more u typed = ap (λ o. multipliers_type o more) typed
