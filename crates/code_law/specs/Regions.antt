-- The words that names have in a frame.
use Rattle.std.specs.Prelude.{◌≡◌, ℕ, ◌+◌, ◌≤◌, ◌⊎◌, List, Option, Some, None}
use Rattle.pascal_mean.specs.Variables.{size_of}
use Rattle.pascal_code.specs.Frames.{Frame, declared_words}
use Rattle.pascal_code.specs.Senses.{Sense, Constant, Variable, Array, Reference, Routine, Function, Interface, Nothing, sense_in}

pub record Region : Type 0 where
  pub first : ℕ
  pub count : ℕ

-- a scalar variable has one word, an array one for each element, a VAR parameter two
abbrev pub region_of : Sense → Option Region
region_of (Variable owner a) = Some (record { first = a; count = 1 })
region_of (Array owner a bounds) = Some (record { first = a; count = size_of bounds })
region_of (Reference a) = Some (record { first = a; count = 2 })
region_of (Constant v) = None
region_of (Routine k passing) = None
region_of (Function f) = None
region_of (Interface p) = None
region_of Nothing = None

abbrev pub region_found : Option Sense → Option Region
region_found None = None
region_found (Some s) = region_of s

abbrev pub region_in : Frame → List ℕ → Option Region
region_in f x = region_found (sense_in f x)

-- the word of a function's result; none in another frame
abbrev pub result_region : Frame → Region
result_region f = record { first = f.parameters; count = f.result }

-- one ends before the other begins
abbrev pub Apart : Region → Region → Type 0
Apart r s = (r.first + r.count ≤ s.first) ⊎ (s.first + s.count ≤ r.first)

-- In a frame the words of different names, and that of a result, are different words among those that are
-- declared.
pub record AreApart (f : Frame) : Type 0 where
  pub names : (x y : List ℕ) (r s : Region) → region_in f x ≡ Some r → region_in f y ≡ Some s → (x ≡ y → ⊥)
      → Apart r s
  pub result : (x : List ℕ) (r : Region) → region_in f x ≡ Some r → Apart r (result_region f)
  pub inside : (x : List ℕ) (r : Region) → region_in f x ≡ Some r → r.first + r.count ≤ declared_words f
