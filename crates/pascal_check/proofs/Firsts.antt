-- The first broken rule of nodes that stand one behind the other.
use Rattle.std.proofs.Common.{◌≡◌, [], ◌∷◌, ◌++◌, Some, None, refl, ap, ◌∙◌}
use Rattle.pascal_tree.specs.declared.broken.Broken.{Broken}
use Rattle.pascal_tree.specs.Scopes.{or_else}
use Rattle.pascal_tree.specs.ExpressionRules.{Judged}
use Rattle.pascal_tree.specs.DeclarationRules.{first_broken}

pub first_append : (a b : Judged) → first_broken (a ++ b) ≡ or_else (first_broken a) (first_broken b)
first_append [] b = refl
first_append (None ∷ a) b = first_append a b
first_append (Some x ∷ a) b = refl

-- where no rule is broken, the nodes behind decide
pub first_behind : (a b : Judged) → first_broken a ≡ None → first_broken (a ++ b) ≡ first_broken b
first_behind a b none = first_append a b ∙ ap (λ o. or_else o (first_broken b)) none

pub first_here : (a b : Judged) (x : Broken) → first_broken a ≡ Some x → first_broken (a ++ b) ≡ Some x
first_here a b x some = first_append a b ∙ ap (λ o. or_else o (first_broken b)) some

pub ruleset firsts = (first_behind, first_here)
