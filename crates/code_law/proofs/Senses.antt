-- What a name is to the code where it means something to the static rules.
use Rattle.std.proofs.Common.{◌≡◌, ℕ, Bool, true, false, List, [], ◌∷◌, ◌++◌, Option, Some, None, refl, sym, ap, ◌∙◌, true≢false}
use Rattle.std.specs.Prelude.{bytes_eq, if◌then◌else◌}
use Rattle.std.proofs.lemmas.Slice.Eq.{bytes_eq-Decides}
use Rattle.pascal_tree.specs.Scopes as rules
use Rattle.pascal_tree.specs.Scopes.{Declared, or_else, means_of, elements, words_of_means}
use Rattle.pascal_tree.specs.declared.parameter.Parameter.{Parameter}
use Rattle.pascal_tree.specs.declared.parameter.Parameter.TheVariants as parameter
use Rattle.pascal_tree.specs.declared.scalar.VariableType.TheVariants as variable_type
use Rattle.pascal_tree.specs.declared.means.Means.{Means}
use Rattle.pascal_tree.specs.declared.means.Means.TheVariants as means
use Rattle.pascal_mean.specs.Means as meant
use Rattle.pascal_mean.specs.Predeclared.{Item}
use Rattle.pascal_mean.specs.Scope as meaning
use Rattle.pascal_mean.specs.Scope.{first_of_three}
use Rattle.pascal_mean.specs.Calls.{Passing, ByValue, ByVariable, ByArray}
use Rattle.pascal_code.specs.Frames.{words_of}
use Rattle.pascal_code.specs.Senses.{Sense, sense, number_of}
use Rattle.pascal_code.specs.Calls.{passing_of}
use Rattle.code_law.specs.Suits.{Routines, IsHeld, CanLoad, CanIndex, IsScalar, IsArrayOf, CanCall, TakesVariables, TakesArrays, array_size}

-- what is called takes so an argument that a parameter wants
abbrev pub Wants : Sense → Parameter → Passing → Type 0
Wants callee (parameter.Value t) ByValue = Unit {0}
Wants callee (parameter.VariableOf t) ByVariable = TakesVariables callee
Wants callee (parameter.Characters n) ByArray = TakesArrays callee × (array_size callee ≡ n)
Wants callee (parameter.Value t) ByVariable = ⊥
Wants callee (parameter.Value t) ByArray = ⊥
Wants callee (parameter.VariableOf t) ByValue = ⊥
Wants callee (parameter.VariableOf t) ByArray = ⊥
Wants callee (parameter.Characters n) ByValue = ⊥
Wants callee (parameter.Characters n) ByVariable = ⊥

abbrev pub AreWanted : Sense → List Parameter → List Passing → Type 0
AreWanted callee [] [] = Unit {0}
AreWanted callee (p ∷ ps) (b ∷ bs) = Wants callee p b × AreWanted callee ps bs
AreWanted callee [] (b ∷ bs) = ⊥
AreWanted callee (p ∷ ps) [] = ⊥

module _ (rs : Routines) where
  -- what means this to the rules is this to the code
  abbrev pub IsSense : Means → Sense → Type 0
  IsSense (means.Constant t v) s = (number_of s ≡ v) × (IsHeld (number_of s) × CanLoad rs s)
  IsSense (means.Variable (variable_type.Plain t)) s = IsScalar s
  IsSense (means.Variable (variable_type.Array low high t)) s = CanIndex s × IsArrayOf (elements low high) s
  IsSense (means.Reference t) s = IsScalar s
  IsSense (means.Procedure ps) s = CanCall rs false s × AreWanted s ps (passing_of s)
  IsSense (means.Function ps t) s = CanCall rs true s × AreWanted s ps (passing_of s)
  IsSense (means.TypeName t) s = Unit {0}

  abbrev pub IsNamed : Option Means → Sense → Type 0
  IsNamed None s = Unit {0}
  IsNamed (Some m) s = IsSense m s

  -- wherever its words lie
  abbrev pub IsMeant : Option Means → meant.Means → Type 0
  IsMeant m n = (a : ℕ) → IsNamed m (sense n a)

  abbrev pub AreMeant : rules.Scope → meaning.Scope → Type 0
  AreMeant s scope = (x : List ℕ) → IsMeant (means_of s x) (scope x)

  -- ---- Declarations
  pub record IsAlike (d : Declared) (i : Item) : Type 0 where
    pub name : d.name ≡ i.letters
    pub is : IsMeant (Some d.means) i.means
    pub words : words_of_means d.means ≡ words_of i.means

  abbrev pub AreAlike : List Declared → List Item → Type 0
  AreAlike [] [] = Unit {0}
  AreAlike (d ∷ ds) (i ∷ is) = IsAlike d i × AreAlike ds is
  AreAlike [] (i ∷ is) = ⊥
  AreAlike (d ∷ ds) [] = ⊥

  abbrev pub IsFound : Option Means → Option meant.Means → Type 0
  IsFound None None = Unit {0}
  IsFound (Some m) (Some n) = IsMeant (Some m) n
  IsFound None (Some n) = ⊥
  IsFound (Some m) None = ⊥

pub turned : (x y : List ℕ) → bytes_eq x y ≡ bytes_eq y x
turned x y = by (bytes_eq x y) refl (bytes_eq y x) refl
  where
    by : (b : Bool) → bytes_eq x y ≡ b → (c : Bool) → bytes_eq y x ≡ c → b ≡ c
    by true e true f = refl
    by true e false f = sym ((bytes_eq-Decides y x).1 (sym ((bytes_eq-Decides x y).0 e))) ∙ f
    by false e true f = sym e ∙ (bytes_eq-Decides x y).1 (sym ((bytes_eq-Decides y x).0 f))
    by false e false f = refl

module _ (rs : Routines) where
  pub found_if : (b c : Bool) → b ≡ c → (m : Means) (n : meant.Means) → IsMeant rs (Some m) n → (o : Option Means) (p : Option meant.Means)
      → IsFound rs o p → IsFound rs (if b then Some m else o) (if c then Some n else p)
  found_if true true e m n is o p h = is
  found_if false false e m n is o p h = h
  found_if true false e m n is o p h = absurd (true≢false e)
  found_if false true e m n is o p h = absurd (true≢false (sym e))

  -- one list is found in before another
  pub found_before : (ds more : List Declared) (is others : List Item) (x : List ℕ) → AreAlike rs ds is
      → IsFound rs (rules.found more x) (meaning.found others x) → IsFound rs (rules.found (ds ++ more) x) (meaning.found (is ++ others) x)
  found_before [] more [] others x are h = h
  found_before [] more (i ∷ is) others x are h = absurd are
  found_before (d ∷ ds) more [] others x are h = absurd are
  found_before (d ∷ ds) more (i ∷ is) others x are h =
      found_if (bytes_eq x d.name) (bytes_eq i.letters x) (ap (bytes_eq x) (are.0).name ∙ turned x i.letters) d.means i.means (are.0).is
      (rules.found (ds ++ more) x) (meaning.found (is ++ others) x) (found_before ds more is others x are.1 h)

  pub found_alike : (ds : List Declared) (is : List Item) (x : List ℕ) → AreAlike rs ds is → IsFound rs (rules.found ds x) (meaning.found is x)
  found_alike [] [] x are = tt
  found_alike [] (i ∷ is) x are = absurd are
  found_alike (d ∷ ds) [] x are = absurd are
  found_alike (d ∷ ds) (i ∷ is) x are =
      found_if (bytes_eq x d.name) (bytes_eq i.letters x) (ap (bytes_eq x) (are.0).name ∙ turned x i.letters) d.means i.means (are.0).is
      (rules.found ds x) (meaning.found is x) (found_alike ds is x are.1)

  -- in the own list, in the program's, before any program
  pub first_found : (o1 o2 o3 : Option Means) (p1 p2 p3 : Option meant.Means) → IsFound rs o1 p1 → IsFound rs o2 p2 → IsFound rs o3 p3
      → IsMeant rs (or_else o1 (or_else o2 o3)) (first_of_three p1 p2 p3)
  first_found (Some m) o2 o3 (Some n) p2 p3 h i j = h
  first_found (Some m) o2 o3 None p2 p3 h i j = absurd h
  first_found None o2 o3 (Some n) p2 p3 h i j = absurd h
  first_found None (Some m) o3 None (Some n) p3 h i j = i
  first_found None (Some m) o3 None None p3 h i j = absurd i
  first_found None None o3 None (Some n) p3 h i j = absurd i
  first_found None None (Some m) None None (Some n) h i j = j
  first_found None None (Some m) None None None h i j = absurd j
  first_found None None None None None p3 h i j = λ a. tt

  -- the program's own list is the meaning's second
  pub program_found : (o1 o3 : Option Means) (p1 p3 : Option meant.Means) → IsFound rs o1 p1 → IsFound rs o3 p3
      → IsMeant rs (or_else o1 (or_else None o3)) (first_of_three None p1 p3)
  program_found (Some m) o3 (Some n) p3 h j = h
  program_found (Some m) o3 None p3 h j = absurd h
  program_found None o3 (Some n) p3 h j = absurd h
  program_found None (Some m) None (Some n) h j = j
  program_found None (Some m) None None h j = absurd j
  program_found None None None p3 h j = λ a. tt
