-- Lists of declarations, to the rules and to the code.
use Rattle.std.proofs.Common.{◌≡◌, ℕ, Bool, true, false, List, [], ◌∷◌, ◌++◌, map, Option, Some, None, is_some, ℤ, refl, sym, ap, ◌∙◌}
use Rattle.std.specs.Prelude.{bytes_eq, if◌then◌else◌}
use Rattle.pascal_tree.specs.Word.{NameAt}
use Rattle.pascal_tree.specs.Scopes as rules
use Rattle.pascal_tree.specs.Scopes.{Declared, means_of, declare, words_of_means}
use Rattle.pascal_tree.specs.ExpressionRules.{Judged, breaks}
use Rattle.pascal_tree.specs.StatementRules.{is_function, Valued}
use Rattle.pascal_tree.specs.DeclarationRules.{constant_means, array_between, behind_names, judged_once, judged_words, judged_variable, judged_parameter, one_by_one, first_broken}
use Rattle.pascal_tree.specs.declared.scalar.Scalar.{Scalar}
use Rattle.pascal_tree.specs.declared.means.Means.{Means}
use Rattle.pascal_tree.specs.declared.means.Means.TheVariants as means
use Rattle.pascal_check.proofs.Unbroken as parts
use Rattle.pascal_mean.specs.Means.{Owner}
use Rattle.pascal_mean.specs.Means as meant
use Rattle.pascal_mean.specs.Predeclared.{Item}
use Rattle.pascal_mean.specs.Scope.{found}
use Rattle.pascal_mean.specs.Variables.{size_of}
use Rattle.pascal_mean.specs.Declarations.{declared_names}
use Rattle.pascal_code.specs.Frames.{words_of}
use Rattle.code_law.specs.Suits.{Routines}
use Rattle.code_law.proofs.Tests.{never, is_none, parted}
use Rattle.code_law.proofs.Senses.{IsMeant, AreAlike, IsFound, found_alike}
use Rattle.code_law.proofs.Constants.{IsNumber}

-- no name stands twice in a list
abbrev pub AreOnce : List Item → Type 0
AreOnce [] = Unit {0}
AreOnce (i ∷ earlier) = (found earlier i.letters ≡ None) × AreOnce earlier

-- What a list of the rules and one of the meaning keep: behind some items first, no name twice, each alike, and where
-- no routines are declared no function; the outer list and the name of the function stay.
pub record Stands (rs : Routines) (routines : Bool) (outer : List Declared) (within : Option (List ℕ)) (first : List Item) (s : rules.Scope)
    (items : List Item) : Type 0 where
  pub outer_is : s.outer ≡ outer
  pub within_is : s.within ≡ within
  pub alike : AreAlike rs s.own items
  pub once : AreOnce items
  pub plain : routines ≡ false → (x : List ℕ) → is_function (rules.found s.own x) ≡ false
  pub later : List Item
  pub behind : items ≡ later ++ first

-- a constant has no words, and is no function
pub no_function : (v : Option Valued) → is_function (Some (constant_means v)) ≡ false
no_function None = refl
no_function (Some v) = refl

pub no_words : (v : Option Valued) → words_of_means (constant_means v) ≡ 0
no_words None = refl
no_words (Some v) = refl

module _ (rs : Routines) where
  pub none_too : (o : Option Means) (p : Option meant.Means) → IsFound rs o p → o ≡ None → p ≡ None
  none_too None None h e = refl
  none_too None (Some n) h e = absurd h
  none_too (Some m) None h e = absurd h
  none_too (Some m) (Some n) h e = never e

  pub constant_sense : (v : Option Valued) (t : meant.Scalar) (w : ℤ) → IsNumber v w → IsMeant rs (Some (constant_means v)) (meant.Constant t w)
  constant_sense None t w h = absurd h
  constant_sense (Some v) t w h = λ a. (h.0, (h.1, h.1))

  pub array_sense : (v w : Option Valued) (t : Scalar) (owner : Owner) (u : meant.Scalar) (low high : ℤ) → IsNumber v low → IsNumber w high
      → IsMeant rs (Some (means.Variable (array_between v w t))) (meant.Array owner u (record { low = low; high = high }))
  array_sense None w t owner u low high h i = absurd h
  array_sense (Some v) None t owner u low high h i = absurd i
  array_sense (Some v) (Some w) t owner u low high h i =
      λ a. ((h.1, i.1), ap (λ (x : ℤ). size_of (record { low = x; high = high })) h.0 ∙ ap (λ (y : ℤ). size_of (record { low = v.value; high = y })) i.0)

  pub array_words : (v w : Option Valued) (t : Scalar) (low high : ℤ) → IsNumber v low → IsNumber w high
      → words_of_means (means.Variable (array_between v w t)) ≡ size_of (record { low = low; high = high })
  array_words None w t low high h i = absurd h
  array_words (Some v) None t low high h i = absurd i
  array_words (Some v) (Some w) t low high h i =
      sym (ap (λ (x : ℤ). size_of (record { low = x; high = high })) h.0 ∙ ap (λ (y : ℤ). size_of (record { low = v.value; high = y })) i.0)

-- each of these names is new to the list, where it is declared
abbrev pub AreNew : rules.Scope → Means → List NameAt → Type 0
AreNew s m [] = Unit {0}
AreNew s m (n ∷ more) = (judged_once s n ≡ None) × AreNew (declare s n.letters m) m more

-- names that are judged one by one, and among others by this rule
are_new : (judged : rules.Scope → Means → NameAt → Judged)
    → ((s : rules.Scope) (m : Means) (n : NameAt) → first_broken (judged s m n) ≡ None → judged_once s n ≡ None)
    → (names : List NameAt) (s : rules.Scope) (m : Means) → first_broken (one_by_one judged s m names) ≡ None → AreNew s m names
are_new judged first [] s m none = tt
are_new judged first (n ∷ more) s m none =
    let t = declare s n.letters m in
    let others = one_by_one judged t m more in
    (first s m n (parts.before (judged s m n) others none), are_new judged first more t m (parts.behind (judged s m n) others none))

pub variables_new : (names : List NameAt) (s : rules.Scope) (m : Means) → first_broken (one_by_one judged_variable s m names) ≡ None → AreNew s m names
variables_new = are_new judged_variable (λ s m n none. (parted (judged_once s n) (judged_words 6 4096 s m n ∷ []) none).0)

pub parameters_new : (names : List NameAt) (s : rules.Scope) (m : Means) → first_broken (one_by_one judged_parameter s m names) ≡ None → AreNew s m names
parameters_new = are_new judged_parameter (λ s m n none. (parted (judged_once s n) (judged_words 6 4096 s m n ∷ judged_words 7 16 s m n ∷ []) none).0)

module _ {rs : Routines} {routines : Bool} {outer : List Declared} {within : Option (List ℕ)} {first : List Item} where
  pub one_declared : (s : rules.Scope) (items : List Item) (x : List ℕ) (l : ℕ) (m : Means) (n : meant.Means) → Stands rs routines outer within first s items
      → breaks 1 (is_some (rules.found s.own x)) l ≡ None → IsMeant rs (Some m) n → words_of_means m ≡ words_of n
      → (routines ≡ false → is_function (Some m) ≡ false) → Stands rs routines outer within first (declare s x m) (record { letters = x; means = n } ∷ items)
  one_declared s items x l m n st new is words plain = record {
    outer_is = st.outer_is;
    within_is = st.within_is;
    alike = (record { name = refl; is = is; words = words }, st.alike);
    once = (
      none_too rs (rules.found s.own x) (found items x) (found_alike rs s.own items x st.alike)
          (is_none (rules.found s.own x) (unbroken (is_some (rules.found s.own x)) new)),
      st.once,
    );
    plain = λ no y. plain_if (bytes_eq y x) m (rules.found s.own y) (plain no) (st.plain no y);
    later = record { letters = x; means = n } ∷ st.later;
    behind = ap (λ (is : List Item). record { letters = x; means = n } ∷ is) st.behind;
  }
    where
      plain_if : (b : Bool) (m : Means) (o : Option Means) → is_function (Some m) ≡ false → is_function o ≡ false
          → is_function (if b then Some m else o) ≡ false
      plain_if true m o h i = h
      plain_if false m o h i = i

      unbroken : (b : Bool) → breaks 1 b l ≡ None → b ≡ false
      unbroken false h = refl
      unbroken true h = never h

  -- ---- Names of one meaning
  pub names_declared : (m : Means) (n : meant.Means) → IsMeant rs (Some m) n → words_of_means m ≡ words_of n → (routines ≡ false → is_function (Some m) ≡ false)
      → (names : List NameAt) (s : rules.Scope) (items : List Item) → Stands rs routines outer within first s items
      → AreNew s m names
      → Stands rs routines outer within first (behind_names s m names) (declared_names n (map (λ x. x.letters) names) items)
  names_declared m n is words plain [] s items st new = st
  names_declared m n is words plain (x ∷ more) s items st new =
      names_declared m n is words plain more (declare s x.letters m) (record { letters = x.letters; means = n } ∷ items)
      (one_declared s items x.letters x.line m n st new.0 is words plain) new.1
