-- The names of a group under one limit, and what the parameters of a group want.
use Rattle.std.specs.Prelude.{ℕ, List, [], ◌∷◌}
use Rattle.pascal_tree.specs.Word.{NameAt}
use Rattle.pascal_tree.specs.Program.{ParameterGroup}
use Rattle.pascal_tree.specs.Scopes.{Scope}
use Rattle.pascal_tree.specs.declared.parameter.Parameter.{Parameter}
use Rattle.pascal_tree.specs.declared.means.Means.{Means}
use Rattle.pascal_tree.specs.ExpressionRules.{Judged}
use Rattle.pascal_tree.specs.DeclarationRules.{judged_once, judged_words, group_wants, parameter_wants, or_integer, scalar_named, all_names}

-- a name that its list doesn't have, and with which the frame has at most so many words
abbrev pub judged_within : (rule most : ℕ) → Scope → Means → NameAt → Judged
judged_within rule most s m n = judged_once s n ∷ judged_words rule most s m n ∷ []

-- what the parameters of a group want
abbrev pub group_wanted : Scope → ParameterGroup → List Parameter
group_wanted s g =
    group_wants (parameter_wants g.var (or_integer (scalar_named s g.kind))) (all_names g.names)
