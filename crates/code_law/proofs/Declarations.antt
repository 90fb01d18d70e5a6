-- Constants and variables, to the rules and to the code.
use Rattle.std.proofs.Common.{◌≡◌, ℕ, Bool, not, is_some, List, [], ◌∷◌, ◌++◌, map, Option, Some, None, refl, ap, subst}
use Rattle.pascal_tree.specs.Word.{NameAt, AreWords}
use Rattle.pascal_tree.specs.Program.{Names, Consts, Group, Vars}
use Rattle.pascal_tree.specs.SpellExpression.{symbol_at}
use Rattle.pascal_tree.specs.SpellConstant.{spelled_constant}
use Rattle.pascal_tree.specs.SpellProgram.{spelled_definition, spelled_definitions, spelled_consts, spelled_more_names, spelled_kind, spelled_group, spelled_groups, spelled_vars}
use Rattle.pascal_tree.specs.Scopes as rules
use Rattle.pascal_tree.specs.Scopes.{Declared, words_of_means}
use Rattle.pascal_tree.specs.ExpressionRules.{breaks}
use Rattle.pascal_tree.specs.StatementRules.{value_of, judged_constant}
use Rattle.pascal_tree.specs.DeclarationRules.{constant_means, behind_definition, behind_definitions, behind_consts, judged_definition, judged_definitions, judged_consts, scalar_named, or_integer, type_of_kind, judged_kind, all_names, judged_variable, one_by_one, judged_type_name, are_bounds, behind_group, behind_groups, behind_vars, judged_group, judged_groups, judged_vars, first_broken}
use Rattle.pascal_tree.specs.declared.constant.Constant.{Constant}
use Rattle.pascal_tree.specs.declared.declaration.Definition.{Definition}
use Rattle.pascal_tree.specs.declared.declaration.Kind.{Kind}
use Rattle.pascal_tree.specs.declared.declaration.Kind.TheVariants as kind
use Rattle.pascal_tree.specs.declared.token.Symbol.TheVariants as symbol
use Rattle.pascal_tree.specs.declared.means.Means.TheVariants as means
use Rattle.pascal_check.proofs.Unbroken.{before, behind}
use Rattle.pascal_mean.specs.Means.{Owner}
use Rattle.pascal_mean.specs.Means as meant
use Rattle.pascal_mean.specs.Predeclared.{Item}
use Rattle.pascal_mean.specs.Scope as meaning
use Rattle.pascal_mean.specs.Scope.{constant_number, constant_scalar}
use Rattle.pascal_mean.specs.Declarations.{name_list, declared_names, constant_item, declared_definitions, declared_constants, variable_of, declared_groups, declared_variables}
use Rattle.pascal_code.specs.Frames.{words_of}
use Rattle.pascal_code.specs.Senses.{Sense, sense}
use Rattle.pascal_code.proofs.SensesAgree.{constants_alike}
use Rattle.code_law.specs.Suits.{Routines}
use Rattle.code_law.proofs.Numbers.{words_before, words_behind}
use Rattle.code_law.proofs.Tests.{parted}
use Rattle.code_law.proofs.Senses.{IsMeant, AreMeant}
use Rattle.code_law.proofs.Constants.{IsNumber, constant_is}
use Rattle.code_law.proofs.Declared.{Stands, one_declared, variables_new, names_declared, constant_sense, no_words, no_function, array_sense, array_words}

pub number_is : (rs : Routines) (s : rules.Scope) (scope : meaning.Scope) → AreMeant rs s scope → (c : Constant) → AreWords (spelled_constant c)
    → first_broken (judged_constant s c) ≡ None → IsNumber (value_of s c) (constant_number scope c)
number_is rs s scope are c words none =
    let names : List ℕ → Sense = λ x. sense (scope x) 0 in
    subst (IsNumber (value_of s c)) (constants_alike scope names (λ x. (0, refl)) c) (constant_is rs s names (λ x. are x 0) c words none)

-- the names of a group are those that the rules see
pub letters_of : (more : List (ℕ × NameAt))
    → map (λ (n : NameAt). n.letters) (map (λ (l : ℕ × NameAt). l.1) more) ≡ map (λ (m : ℕ × NameAt). (m.1).letters) more
letters_of [] = refl
letters_of (n ∷ more) = ap (λ (xs : List (List ℕ)). (n.1).letters ∷ xs) (letters_of more)

pub group_letters : (n : Names) → map (λ (x : NameAt). x.letters) (all_names n) ≡ name_list n
group_letters n = ap (λ (xs : List (List ℕ)). (n.first).letters ∷ xs) (letters_of n.rest)

module _ {rs : Routines} {routines : Bool} {outer : List Declared} {within : Option (List ℕ)} {first : List Item} (scope : List Item → meaning.Scope)
    (scope_is : (s : rules.Scope) (items : List Item) → Stands rs routines outer within first s items → AreMeant rs s (scope items)) where
  -- ---- Constants
  definition_declared : (s : rules.Scope) (items : List Item) (d : Definition) → Stands rs routines outer within first s items → AreWords (spelled_definition d)
      → first_broken (judged_definition s d) ≡ None → Stands rs routines outer within first (behind_definition s d) (constant_item (scope items) d ∷ items)
  definition_declared s items d st words none =
      let w = constant_number (scope items) d.value in
      let rule = breaks 1 (is_some (rules.found s.own (d.name).letters)) (d.name).line in
      let v = number_is rs s (scope items) (scope_is s items st) d.value
      (words_before (spelled_constant d.value) (symbol_at symbol.Semicolon d.semicolon ∷ []) words.1.1)
      (before (judged_constant s d.value) (rule ∷ []) none) in
      one_declared s items (d.name).letters (d.name).line (constant_means (value_of s d.value)) (meant.Constant (constant_scalar (scope items) d.value) w) st
      (parted rule [] (behind (judged_constant s d.value) (rule ∷ []) none)).0
      (constant_sense rs (value_of s d.value) (constant_scalar (scope items) d.value) w v) (no_words (value_of s d.value))
      (λ no. no_function (value_of s d.value))

  definitions_declared : (ds : List Definition) (s : rules.Scope) (items : List Item) → Stands rs routines outer within first s items
      → AreWords (spelled_definitions ds)
      → first_broken (judged_definitions s ds) ≡ None → Stands rs routines outer within first (behind_definitions s ds) (declared_definitions scope ds items)
  definitions_declared [] s items st words none = st
  definitions_declared (d ∷ more) s items st words none =
      definitions_declared more (behind_definition s d) (constant_item (scope items) d ∷ items)
      (definition_declared s items d st (words_before (spelled_definition d) (spelled_definitions more) words)
      (before (judged_definition s d) (judged_definitions (behind_definition s d) more) none))
      (words_behind (spelled_definition d) (spelled_definitions more) words)
      (behind (judged_definition s d) (judged_definitions (behind_definition s d) more) none)

  pub constants_declared : (c : Option Consts) (s : rules.Scope) (items : List Item) → Stands rs routines outer within first s items
      → AreWords (spelled_consts c)
      → first_broken (judged_consts s c) ≡ None → Stands rs routines outer within first (behind_consts s c) (declared_constants scope c items)
  constants_declared None s items st words none = st
  constants_declared (Some c) s items st words none = definitions_declared (c.first ∷ c.rest) s items st words.1 none

  -- ---- Variables
  kind_meant : (owner : Owner) (s : rules.Scope) (items : List Item) (k : Kind) → Stands rs routines outer within first s items → AreWords (spelled_kind k)
      → first_broken (judged_kind s k) ≡ None
      → IsMeant rs (Some (means.Variable (type_of_kind s k))) (variable_of owner (scope items) k)
      × (words_of_means (means.Variable (type_of_kind s k)) ≡ words_of (variable_of owner (scope items) k))
  kind_meant owner s items (kind.Name n) st words none = ((λ a. tt), refl)
  kind_meant owner s items (kind.Array l o a u b c f n) st words none =
      let rest = judged_type_name s n ∷ breaks 5 (not (are_bounds (value_of s a) (value_of s b))) l ∷ [] in
      let low = constant_number (scope items) a in
      let high = constant_number (scope items) b in
      let is = scope_is s items st in
      let one = number_is rs s (scope items) is a (words_before (spelled_constant a) _ words.1.1)
      (before (judged_constant s a) (judged_constant s b ++ rest) none) in
      let two = number_is rs s (scope items) is b (words_before (spelled_constant b) _ (words_behind (spelled_constant a) _ words.1.1).1)
      (before (judged_constant s b) rest (behind (judged_constant s a) (judged_constant s b ++ rest) none)) in
      let t = or_integer (scalar_named s n) in (
        array_sense rs (value_of s a) (value_of s b) t owner (meaning.scalar_named (scope items n.letters)) low high one two,
        array_words rs (value_of s a) (value_of s b) t low high one two,
      )

  pub group_declared : (owner : Owner) (s : rules.Scope) (items : List Item) (g : Group) → Stands rs routines outer within first s items
      → AreWords (spelled_group g)
      → first_broken (judged_group s g) ≡ None
      → Stands rs routines outer within first (behind_group s g) (declared_names (variable_of owner (scope items) g.kind) (name_list g.names) items)
  group_declared owner s items g st words none =
      let m = means.Variable (type_of_kind s g.kind) in
      let n = variable_of owner (scope items) g.kind in
      let names = all_names g.names in
      let judged = one_by_one judged_variable s m names in
      let colon = symbol_at symbol.Colon g.colon ∷ (spelled_kind g.kind ++ symbol_at symbol.Semicolon g.semicolon ∷ []) in
      let k = kind_meant owner s items g.kind st
      (words_before (spelled_kind g.kind) (symbol_at symbol.Semicolon g.semicolon ∷ []) (words_behind (spelled_more_names (g.names).rest) colon words.1).1)
      (before (judged_kind s g.kind) judged none) in
      subst (λ (xs : List (List ℕ)). Stands rs routines outer within first (behind_group s g) (declared_names n xs items)) (group_letters g.names)
      (names_declared m n k.0 k.1 (λ no. refl) names s items st (variables_new names s m (behind (judged_kind s g.kind) judged none)))

  groups_declared : (owner : Owner) (gs : List Group) (s : rules.Scope) (items : List Item) → Stands rs routines outer within first s items
      → AreWords (spelled_groups gs)
      → first_broken (judged_groups s gs) ≡ None → Stands rs routines outer within first (behind_groups s gs) (declared_groups owner scope gs items)
  groups_declared owner [] s items st words none = st
  groups_declared owner (g ∷ more) s items st words none =
      groups_declared owner more (behind_group s g) (declared_names (variable_of owner (scope items) g.kind) (name_list g.names) items)
      (group_declared owner s items g st (words_before (spelled_group g) (spelled_groups more) words)
      (before (judged_group s g) (judged_groups (behind_group s g) more) none))
      (words_behind (spelled_group g) (spelled_groups more) words)
      (behind (judged_group s g) (judged_groups (behind_group s g) more) none)

  pub variables_declared : (owner : Owner) (v : Option Vars) (s : rules.Scope) (items : List Item) → Stands rs routines outer within first s items
      → AreWords (spelled_vars v)
      → first_broken (judged_vars s v) ≡ None → Stands rs routines outer within first (behind_vars s v) (declared_variables owner scope v items)
  variables_declared owner None s items st words none = st
  variables_declared owner (Some v) s items st words none = groups_declared owner (v.first ∷ v.rest) s items st words.1 none
