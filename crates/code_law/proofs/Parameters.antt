-- Parameters, to the rules and to the code.
use Rattle.std.proofs.Common.{◌≡◌, ℕ, Bool, List, [], ◌∷◌, ◌++◌, map, Option, Some, None, refl, sym, ap, subst}
use Rattle.pascal_tree.specs.Word.{NameAt}
use Rattle.pascal_tree.specs.Program.{ParameterGroup, Parameters}
use Rattle.pascal_tree.specs.Scopes as rules
use Rattle.pascal_tree.specs.Scopes.{Declared, declare}
use Rattle.pascal_tree.specs.DeclarationRules.{parameter_means, parameter_wants, group_means, group_wants, parameters_wanted, all_groups, all_names, behind_names, judged_parameter, one_by_one, judged_type_name, or_integer, scalar_named, behind_parameter_group, behind_parameter_groups, judged_parameter_group, judged_parameter_groups, first_broken}
use Rattle.pascal_tree.specs.declared.parameter.Parameter as wanted
use Rattle.pascal_tree.specs.declared.scalar.Scalar.{Scalar}
use Rattle.pascal_check.proofs.Unbroken.{before, behind}
use Rattle.pascal_mean.specs.Means.{OfRoutine, Parameter}
use Rattle.pascal_mean.specs.Means as meant
use Rattle.pascal_mean.specs.Predeclared.{Item}
use Rattle.pascal_mean.specs.Scope as meaning
use Rattle.pascal_mean.specs.Scope.{scope_of}
use Rattle.pascal_mean.specs.Calls.{Passing, passing_of}
use Rattle.pascal_mean.specs.Declarations.{parameter_of, group_parameters, declared_parameters, parameters_after, parameter_list}
use Rattle.pascal_code.specs.Senses.{Sense}
use Rattle.code_law.specs.Suits.{Routines, TakesVariables}
use Rattle.code_law.proofs.Tests.{parted}
use Rattle.code_law.proofs.Senses.{AreWanted}
use Rattle.code_law.proofs.Declared.{Stands, one_declared, AreNew, parameters_new}
use Rattle.code_law.proofs.Declarations.{group_letters}

declared_both : (these more : List Parameter) (items : List Item)
    → declared_parameters (these ++ more) items ≡ declared_parameters more (declared_parameters these items)
declared_both [] more items = refl
declared_both (p ∷ these) more items = declared_both these more _

module _ {rs : Routines} {routines : Bool} {outer : List Declared} {within : Option (List ℕ)} {first : List Item} where
  names_passed : (v : Option ℕ) (t : Scalar) (u : meant.Scalar) (names : List NameAt) (s : rules.Scope) (items : List Item)
      → Stands rs routines outer within first s items
      → AreNew s (parameter_means v t) names
      → Stands rs routines outer within first (behind_names s (parameter_means v t) names)
      (declared_parameters (map (parameter_of v u) (map (λ (n : NameAt). n.letters) names)) items)
  names_passed None t u [] s items st new = st
  names_passed (Some l) t u [] s items st new = st
  names_passed None t u (x ∷ more) s items st new =
      let m = parameter_means None t in
      names_passed None t u more (declare s x.letters m) (record { letters = x.letters; means = meant.Variable OfRoutine u } ∷ items)
      (one_declared s items x.letters x.line m (meant.Variable OfRoutine u) st new.0 (λ a. tt) refl (λ no. refl)) new.1
  names_passed (Some l) t u (x ∷ more) s items st new =
      let m = parameter_means (Some l) t in
      names_passed (Some l) t u more (declare s x.letters m) (record { letters = x.letters; means = meant.Reference u } ∷ items)
      (one_declared s items x.letters x.line m (meant.Reference u) st new.0 (λ a. tt) refl (λ no. refl)) new.1

  pub groups_passed : (program : List Item) (gs : List (ℕ × ParameterGroup)) (s : rules.Scope) (items : List Item)
      → Stands rs routines outer within first s items
      → first_broken (judged_parameter_groups s (map (λ (g : ℕ × ParameterGroup). g.1) gs)) ≡ None
      → Stands rs routines outer within first (behind_parameter_groups s (map (λ (g : ℕ × ParameterGroup). g.1) gs))
      (declared_parameters (parameters_after items program gs) items)
  groups_passed program [] s items st none = st
  groups_passed program (g ∷ more) s items st none =
      let scope = scope_of items program in
      let these = group_parameters scope g.1 in
      let later = map (λ (h : ℕ × ParameterGroup). h.1) more in
      let m = group_means s g.1 in
      let names = all_names (g.1).names in
      let t = or_integer (scalar_named s (g.1).kind) in
      let u = meaning.scalar_named (scope ((g.1).kind).letters) in
      let one = subst (λ (xs : List (List ℕ)). Stands rs routines outer within first (behind_parameter_group s g.1)
      (declared_parameters (map (parameter_of (g.1).var u) xs) items)) (group_letters (g.1).names)
      (names_passed (g.1).var t u names s items st
      (parameters_new names s m (parted (judged_type_name s (g.1).kind) (one_by_one judged_parameter s m names)
      (before (judged_parameter_group s g.1) (judged_parameter_groups (behind_parameter_group s g.1) later) none)).1)) in
      subst (λ (is : List Item). Stands rs routines outer within first (behind_parameter_groups (behind_parameter_group s g.1) later) is)
      (sym (declared_both these (parameters_after (declared_parameters these items) program more) items))
      (groups_passed program more (behind_parameter_group s g.1) (declared_parameters these items) one
      (behind (judged_parameter_group s g.1) (judged_parameter_groups (behind_parameter_group s g.1) later) none))

-- ---- What parameters want
both_wanted : (callee : Sense) (ps qs : List wanted.Parameter) (bs cs : List Passing) → AreWanted callee ps bs → AreWanted callee qs cs
    → AreWanted callee (ps ++ qs) (bs ++ cs)
both_wanted callee [] qs [] cs h i = i
both_wanted callee [] qs (b ∷ bs) cs h i = absurd h
both_wanted callee (p ∷ ps) qs [] cs h i = absurd h
both_wanted callee (p ∷ ps) qs (b ∷ bs) cs h i = (h.0, both_wanted callee ps qs bs cs h.1 i)

passing_both : (these more : List Parameter) → map passing_of (these ++ more) ≡ map passing_of these ++ map passing_of more
passing_both [] more = refl
passing_both (p ∷ these) more = ap (λ (bs : List Passing). passing_of p ∷ bs) (passing_both these more)

names_wanted : (callee : Sense) → TakesVariables callee → (v : Option ℕ) (t : Scalar) (u : meant.Scalar) (names : List NameAt)
    → AreWanted callee (group_wants (parameter_wants v t) names) (map passing_of (map (parameter_of v u) (map (λ (n : NameAt). n.letters) names)))
names_wanted callee takes None t u [] = tt
names_wanted callee takes (Some l) t u [] = tt
names_wanted callee takes None t u (x ∷ more) = (tt, names_wanted callee takes None t u more)
names_wanted callee takes (Some l) t u (x ∷ more) = (takes, names_wanted callee takes (Some l) t u more)

groups_wanted : (callee : Sense) → TakesVariables callee → (program : List Item) (gs : List (ℕ × ParameterGroup)) (s : rules.Scope) (items : List Item)
    → AreWanted callee (parameters_wanted s (map (λ (g : ℕ × ParameterGroup). g.1) gs)) (map passing_of (parameters_after items program gs))
groups_wanted callee takes program [] s items = tt
groups_wanted callee takes program (g ∷ more) s items =
    let scope = scope_of items program in
    let these = group_parameters scope g.1 in
    let u = meaning.scalar_named (scope ((g.1).kind).letters) in
    let t = or_integer (scalar_named s (g.1).kind) in
    let wants = group_wants (parameter_wants (g.1).var t) (all_names (g.1).names) in
    let others = parameters_after (declared_parameters these items) program more in
    let later = parameters_wanted (behind_parameter_group s g.1) (map (λ (h : ℕ × ParameterGroup). h.1) more) in
    let one : AreWanted callee wants (map passing_of these) =
    subst (λ (xs : List (List ℕ)). AreWanted callee wants (map passing_of (map (parameter_of (g.1).var u) xs))) (group_letters (g.1).names)
    (names_wanted callee takes (g.1).var t u (all_names (g.1).names)) in
    subst (AreWanted callee (wants ++ later)) (sym (passing_both these others))
    (both_wanted callee wants later (map passing_of these) (map passing_of others) one
    (groups_wanted callee takes program more (behind_parameter_group s g.1) (declared_parameters these items)))

pub list_wanted : (callee : Sense) → TakesVariables callee → (program : List Item) (p : Option Parameters) (s : rules.Scope)
    → AreWanted callee (parameters_wanted s (all_groups p)) (map passing_of (parameter_list program p))
list_wanted callee takes program None s = tt
list_wanted callee takes program (Some p) s = groups_wanted callee takes program ((p.opening, p.first) ∷ p.rest) s []

module _ {rs : Routines} {routines : Bool} {outer : List Declared} {within : Option (List ℕ)} where
  pub list_passed : (program : List Item) (p : Option Parameters) (s : rules.Scope) → Stands rs routines outer within [] s []
      → first_broken (judged_parameter_groups s (all_groups p)) ≡ None
      → Stands rs routines outer within [] (behind_parameter_groups s (all_groups p)) (declared_parameters (parameter_list program p) [])
  list_passed program None s st none = st
  list_passed program (Some p) s st none = groups_passed program ((p.opening, p.first) ∷ p.rest) s [] st none
