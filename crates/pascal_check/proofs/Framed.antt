-- What declarations leave of a scope, and the words that they add to its frame.
use Rattle.std.proofs.Common.{◌≡◌, ℕ, ◌+◌, List, [], ◌∷◌, Option, Some, None, refl, ◌∙◌, arith}
use Rattle.pascal_tree.specs.Word.{NameAt}
use Rattle.pascal_tree.specs.Program.{Consts, Group, Vars, ParameterGroup}
use Rattle.pascal_tree.specs.Scopes.{Scope, declare, words_of_means, words_of_list, result_words}
use Rattle.pascal_tree.specs.StatementRules.{Valued, value_of}
use Rattle.pascal_tree.specs.DeclarationRules.{behind_names, behind_definition, behind_definitions, behind_consts, behind_group, behind_groups, behind_vars, behind_parameter_group, behind_parameter_groups, constant_means, frame_words, all_names, group_means, type_of_kind}
use Rattle.pascal_tree.specs.declared.means.Means.{Means}
use Rattle.pascal_tree.specs.declared.means.Means.TheVariants as means
use Rattle.pascal_tree.specs.declared.declaration.Definition.{Definition}

-- the same but for the own list
pub record SameBut (s t : Scope) : Type 0 where
  pub outer : t.outer ≡ s.outer
  pub within : t.within ≡ s.within

pub same_but : (s : Scope) → SameBut s s
same_but s = record { outer = refl; within = refl }

pub then_same : {s t u : Scope} → SameBut s t → SameBut t u → SameBut s u
then_same a b = record { outer = b.outer ∙ a.outer; within = b.within ∙ a.within }

pub names_same : (s : Scope) (m : Means) (names : List NameAt) → SameBut s (behind_names s m names)
names_same s m [] = same_but s
names_same s m (n ∷ more) =
    let rest = names_same (declare s n.letters m) m more in
    record { outer = rest.outer; within = rest.within }

definitions_same : (s : Scope) (ds : List Definition) → SameBut s (behind_definitions s ds)
definitions_same s [] = same_but s
definitions_same s (d ∷ more) =
    let rest = definitions_same (behind_definition s d) more in
    record { outer = rest.outer; within = rest.within }

pub consts_same : (s : Scope) (c : Option Consts) → SameBut s (behind_consts s c)
consts_same s None = same_but s
consts_same s (Some c) =
    let rest = definitions_same (behind_definition s c.first) c.rest in
    record { outer = rest.outer; within = rest.within }

groups_same : (s : Scope) (gs : List Group) → SameBut s (behind_groups s gs)
groups_same s [] = same_but s
groups_same s (g ∷ more) =
    then_same (names_same s (means.Variable (type_of_kind s g.kind)) (all_names g.names)) (groups_same (behind_group s g) more)

pub vars_same : (s : Scope) (v : Option Vars) → SameBut s (behind_vars s v)
vars_same s None = same_but s
vars_same s (Some v) = groups_same s (v.first ∷ v.rest)

pub parameters_same : (s : Scope) (gs : List ParameterGroup) → SameBut s (behind_parameter_groups s gs)
parameters_same s [] = same_but s
parameters_same s (g ∷ more) =
    then_same (names_same s (group_means s g) (all_names g.names)) (parameters_same (behind_parameter_group s g) more)

-- ---- Words

pub one_more : (s : Scope) (name : List ℕ) (m : Means) → frame_words (declare s name m) ≡ frame_words s + words_of_means m
one_more s name m = by (words_of_means m) (words_of_list s.own) (result_words s.within) where
  by : (a b c : ℕ) → (a + b) + c ≡ (b + c) + a
  by a b c = omega arith

constant_words : (v : Option Valued) → words_of_means (constant_means v) ≡ 0
constant_words None = refl
constant_words (Some v) = refl

definition_words : (s : Scope) (d : Definition) → frame_words (behind_definition s d) ≡ frame_words s
definition_words s d =
    one_more s d.name.letters (constant_means (value_of s d.value)) ∙ by _ _ (constant_words (value_of s d.value)) where
      by : (a b : ℕ) → b ≡ 0 → a + b ≡ a
      by a b h = omega arith

definitions_words : (s : Scope) (ds : List Definition) → frame_words (behind_definitions s ds) ≡ frame_words s
definitions_words s [] = refl
definitions_words s (d ∷ more) = definitions_words (behind_definition s d) more ∙ definition_words s d

pub consts_words : (s : Scope) (c : Option Consts) → frame_words (behind_consts s c) ≡ frame_words s
consts_words s None = refl
consts_words s (Some c) = definitions_words (behind_definition s c.first) c.rest ∙ definition_words s c.first

-- ---- The same, an equation each

pub consts_outer : (s : Scope) (c : Option Consts) → (behind_consts s c).outer ≡ s.outer
consts_outer s c = (consts_same s c).outer

pub consts_within : (s : Scope) (c : Option Consts) → (behind_consts s c).within ≡ s.within
consts_within s c = (consts_same s c).within

pub vars_outer : (s : Scope) (v : Option Vars) → (behind_vars s v).outer ≡ s.outer
vars_outer s v = (vars_same s v).outer

pub vars_within : (s : Scope) (v : Option Vars) → (behind_vars s v).within ≡ s.within
vars_within s v = (vars_same s v).within

pub parameters_outer : (s : Scope) (gs : List ParameterGroup) → (behind_parameter_groups s gs).outer ≡ s.outer
parameters_outer s gs = (parameters_same s gs).outer

pub parameters_within : (s : Scope) (gs : List ParameterGroup) → (behind_parameter_groups s gs).within ≡ s.within
parameters_within s gs = (parameters_same s gs).within

pub ruleset counted = (one_more)

pub ruleset blocks = (consts_words, consts_outer, consts_within, vars_outer, vars_within)
