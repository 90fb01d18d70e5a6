-- Groups of parameters, one behind the other.
use Rattle.std.proofs.Common.{◌≡◌, ℕ, List, [], ◌∷◌, ◌++◌, map, Option, Some, option_map, refl, sym, ap, ◌∙◌, append_assoc}
use Rattle.pascal_tree.specs.Program.{ParameterGroup}
use Rattle.pascal_tree.specs.Scopes.{Scope}
use Rattle.pascal_tree.specs.SeenProgram.{seen_parameter_group, seen_parameters}
use Rattle.pascal_tree.specs.DeclarationRules.{behind_parameter_group, parameters_wanted, all_groups}
use Rattle.pascal_tree.specs.declared.parameter.Parameter.{Parameter}
use Rattle.pascal_tree.specs.declared.declaration.ParameterGroup as coded
use Rattle.pascal_tree.specs.declared.declaration.Parameters as headings
use Rattle.pascal_check.specs.Frames.{group_wanted}

-- what the groups want, behind what those before them want
pub parameters_more : (s t : Scope) (g : ParameterGroup) (left more : List ParameterGroup) (old new ps : List Parameter) → left ≡ g ∷ more
    → t ≡ behind_parameter_group s g → new ≡ old ++ group_wanted s g
    → old ++ parameters_wanted s left ≡ ps → new ++ parameters_wanted t more ≡ ps
parameters_more s t g left more old new ps split at grown is =
    ap (λ l. l ++ parameters_wanted t more) grown
    ∙ ap (λ u. (old ++ group_wanted s g) ++ parameters_wanted u more) at
    ∙ append_assoc old (group_wanted s g) (parameters_wanted (behind_parameter_group s g) more)
    ∙ ap (λ l. old ++ parameters_wanted s l) (sym split)
    ∙ is

abbrev pub seen_groups : List (ℕ × coded.ParameterGroup) → List ParameterGroup
seen_groups all = map (λ g. seen_parameter_group g.1) all

later_groups : (all : List (ℕ × coded.ParameterGroup))
    → map (λ (later : ℕ × ParameterGroup). later.1) (map (λ (g : ℕ × coded.ParameterGroup). (g.0, seen_parameter_group g.1)) all) ≡ seen_groups all
later_groups [] = refl
later_groups (g ∷ all) = ap (λ l. seen_parameter_group g.1 ∷ l) (later_groups all)

-- all groups of a heading
pub all_groups_are : (ps : Option headings.Parameters) (p : headings.Parameters) (rest : List (ℕ × coded.ParameterGroup))
    → ps ≡ Some p → rest ≡ (p.rest).items → all_groups (option_map seen_parameters ps) ≡ seen_parameter_group p.first ∷ seen_groups rest
all_groups_are ps p rest is rest_is =
    ap (λ o. all_groups (option_map seen_parameters o)) is
    ∙ ap (λ l. seen_parameter_group p.first ∷ l) (later_groups (p.rest).items)
    ∙ ap (λ l. seen_parameter_group p.first ∷ seen_groups l) (sym rest_is)
