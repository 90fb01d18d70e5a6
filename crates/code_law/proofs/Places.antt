-- Parameters lie one behind another from the first word of a frame on.
use Rattle.std.proofs.Common.{◌≡◌, ℕ, ◌+◌, ◌<◌, ◌≤◌, Bool, true, false, List, [], ◌∷◌, ◌++◌, Some, None, refl, sym, ap, subst, ◌∙◌, true≢false, arith}
use Rattle.std.specs.Prelude.{bytes_eq, nat_lt, if◌then◌else◌}
use Rattle.std.proofs.lemmas.Bool.{ltb-false}
use Rattle.std.proofs.lemmas.Slice.Eq.{bytes_eq-Decides}
use Rattle.pascal_mean.specs.Means.{Scalar, OfRoutine, Parameter}
use Rattle.pascal_mean.specs.Means as meant
use Rattle.pascal_mean.specs.Predeclared.{Item}
use Rattle.pascal_mean.specs.Scope.{found}
use Rattle.pascal_mean.specs.Calls.{ByValue, ByVariable, passing_of}
use Rattle.pascal_mean.specs.Declarations.{parameter_means, declared_parameters}
use Rattle.pascal_code.specs.Frames.{Frame, words_of, words_in, behind_result, place_behind}
use Rattle.pascal_code.specs.Senses.{sense, sense_among, sense_in}
use Rattle.code_law.specs.Arguments.{Lies, LieFrom, words_by}
use Rattle.code_law.proofs.Tests.{never}
use Rattle.code_law.proofs.Declared.{AreOnce}

-- what stands in a list is found there
there : (more : List Item) (i : Item) (earlier : List Item) → found (more ++ i ∷ earlier) i.letters ≡ None → ⊥
there [] i earlier h = by (bytes_eq i.letters i.letters) ((bytes_eq-Decides i.letters i.letters).1 refl) h
  where
    by : (b : Bool) → b ≡ true → (if b then Some i.means else found earlier i.letters) ≡ None → ⊥
    by true e g = never g
    by false e g = absurd (true≢false (sym e))
there (j ∷ more) i earlier h = by (bytes_eq j.letters i.letters) h (there more i earlier)
  where
    by : (b : Bool) → (if b then Some j.means else found (more ++ i ∷ earlier) i.letters) ≡ None → (found (more ++ i ∷ earlier) i.letters ≡ None → ⊥) → ⊥
    by true g later = never g
    by false g later = later g

-- where no name stands twice, each is itself
itself : (f : Frame) (more : List Item) (i : Item) (earlier : List Item) → AreOnce (more ++ i ∷ earlier)
    → sense_among f (more ++ i ∷ earlier) i.letters ≡ Some (sense i.means (place_behind f earlier))
itself f [] i earlier once = by (bytes_eq i.letters i.letters) ((bytes_eq-Decides i.letters i.letters).1 refl)
  where
    by : (b : Bool) → b ≡ true → (if b then Some (sense i.means (place_behind f earlier)) else sense_among f earlier i.letters)
        ≡ Some (sense i.means (place_behind f earlier))
    by true e = refl
    by false e = absurd (true≢false (sym e))
itself f (j ∷ more) i earlier once = by (bytes_eq j.letters i.letters) refl (itself f more i earlier once.1)
  where
    by : (b : Bool) → bytes_eq j.letters i.letters ≡ b
        → sense_among f (more ++ i ∷ earlier) i.letters ≡ Some (sense i.means (place_behind f earlier))
        → (if b then Some (sense j.means (place_behind f (more ++ i ∷ earlier))) else sense_among f (more ++ i ∷ earlier) i.letters)
        ≡ Some (sense i.means (place_behind f earlier))
    by true e later = absurd (there more i earlier
        (subst (λ (x : List ℕ). found (more ++ i ∷ earlier) x ≡ None) ((bytes_eq-Decides j.letters i.letters).0 e) once.0))
    by false e later = later

-- declarations of parameters stand behind earlier ones
abbrev item_of : Parameter → Item
item_of p = record { letters = p.letters; means = parameter_means p }

record IsBehind (items later : List Item) : Type 0 where
  more : List Item
  is : later ≡ more ++ items

assoc : (a b c : List Item) → (a ++ b) ++ c ≡ a ++ (b ++ c)
assoc [] b c = refl
assoc (i ∷ a) b c = ap (λ (is : List Item). i ∷ is) (assoc a b c)

parameters_behind : (ps : List Parameter) (earlier : List Item) → IsBehind earlier (declared_parameters ps earlier)
parameters_behind [] earlier = record { more = []; is = refl }
parameters_behind (p ∷ ps) earlier =
    let b = parameters_behind ps (item_of p ∷ earlier) in
    record { more = b.more ++ item_of p ∷ []; is = b.is ∙ sym (assoc b.more (item_of p ∷ []) earlier) }

-- their words
parameter_words : (p : Parameter) → words_of (parameter_means p) ≡ words_by (passing_of p)
parameter_words p = by p.is_variable
  where
    by : (b : Bool) → words_of (if b then meant.Reference p.scalar else meant.Variable OfRoutine p.scalar) ≡ words_by (if b then ByVariable else ByValue)
    by true = refl
    by false = refl

some_words : (p : Parameter) → 1 ≤ words_of (parameter_means p)
some_words p = by p.is_variable
  where
    by : (b : Bool) → 1 ≤ words_of (if b then meant.Reference p.scalar else meant.Variable OfRoutine p.scalar)
    by true = omega arith
    by false = omega arith

more_words : (ps : List Parameter) (earlier : List Item) → words_in earlier ≤ words_in (declared_parameters ps earlier)
more_words [] earlier = omega arith
more_words (p ∷ ps) earlier = omega (arith, more_words ps (item_of p ∷ earlier))

lies_by : (f : Frame) (n : ℕ) (x : List ℕ) (t : Scalar) (b : Bool)
    → sense_in f x ≡ Some (sense (if b then meant.Reference t else meant.Variable OfRoutine t) n) → Lies f n x (if b then ByVariable else ByValue)
lies_by f n x t true h = h
lies_by f n x t false h = h

-- a place among the words of parameters is not behind the result
before_result : (f : Frame) (words : ℕ) → words < f.parameters → behind_result f words ≡ words
before_result f words low = by (nat_lt words f.parameters) refl
  where
    by : (b : Bool) → nat_lt words f.parameters ≡ b → (if b then words else words + f.result) ≡ words
    by true e = refl
    by false e = absurd (omega (arith, low, ltb-false words f.parameters e))

pub lie : (f : Frame) (ps : List Parameter) (earlier more : List Item) → f.items ≡ more ++ declared_parameters ps earlier → AreOnce f.items
    → f.parameters ≡ words_in (declared_parameters ps earlier) → LieFrom f (words_in earlier) ps
lie f [] earlier more is once words = words
lie f (p ∷ ps) earlier more is once words =
    let i = item_of p in
    let b = parameters_behind ps (i ∷ earlier) in
    let whole : f.items ≡ (more ++ b.more) ++ i ∷ earlier = is ∙ ap (λ (is : List Item). more ++ is) b.is ∙ sym (assoc more b.more (i ∷ earlier)) in
    let low : words_in earlier < f.parameters = omega (arith, words, some_words p, more_words ps (i ∷ earlier)) in
    let at : sense_in f p.letters ≡ Some (sense (parameter_means p) (words_in earlier)) =
    ap (λ (is : List Item). sense_among f is p.letters) whole
    ∙ itself f (more ++ b.more) i earlier (subst AreOnce whole once)
    ∙ ap (λ (n : ℕ). Some (sense (parameter_means p) n)) (before_result f (words_in earlier) low) in
    let next : words_in (i ∷ earlier) ≡ words_in earlier + words_by (passing_of p) = omega (arith, parameter_words p) in (
      lies_by f (words_in earlier) p.letters p.scalar p.is_variable at,
      subst (λ (n : ℕ). LieFrom f n ps) next (lie f ps (i ∷ earlier) more is once words),
    )
