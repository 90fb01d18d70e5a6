-- The words in which arguments are passed to a routine.
use Rattle.std.specs.Prelude.{◌≡◌, ℕ, ◌+◌, ◌<◌, List, [], ◌∷◌, slice_get, Some, ℤ, pos}
use Rattle.pascal_mean.specs.Means.{Owner, OfRoutine, Parameter}
use Rattle.pascal_mean.specs.Situation.{Place}
use Rattle.pascal_mean.specs.Calls.{Passing, ByValue, ByVariable, ByArray, passing_of, Given, Value, Alias, Elements}
use Rattle.pascal_code.specs.Frames.{Frame}
use Rattle.pascal_code.specs.Senses.{Variable, Reference, sense_in}

-- Two words are the number of an activation, below this number, and a scalar variable's word in its frame.
pub record IsAlias (frames : List Frame) (number : ℕ) (p : Place) (one two : ℤ) : Type 0 where
  pub below : p.activation < number
  pub first : one ≡ pos p.activation
  pub frame : Frame
  pub frame_is : slice_get frames p.activation ≡ Some frame
  pub owner : Owner
  pub word : ℕ
  pub is : sense_in frame p.letters ≡ Some (Variable owner word)
  pub second : two ≡ pos word

-- a value has one word, a variable two
abbrev pub AreWords : List Frame → ℕ → List Given → List ℤ → Type 0
AreWords frames number [] [] = Unit {0}
AreWords frames number (Value v ∷ given) (w ∷ words) = (w ≡ v) × AreWords frames number given words
AreWords frames number (Alias p ∷ given) (one ∷ two ∷ words) =
    IsAlias frames number p one two × AreWords frames number given words
AreWords frames number given words = ⊥

-- these arguments are passed as the parameters ask
abbrev pub Suits : Parameter → Given → Type 0
Suits p (Value v) = passing_of p ≡ ByValue
Suits p (Alias at) = passing_of p ≡ ByVariable
Suits p (Elements a) = ⊥

abbrev pub Suit : List Parameter → List Given → Type 0
Suit [] [] = Unit {0}
Suit (p ∷ parameters) (g ∷ given) = Suits p g × Suit parameters given
Suit parameters given = ⊥

-- in a frame a parameter has its words from one on: one for a value, two for a variable
abbrev pub Lies : Frame → ℕ → List ℕ → Passing → Type 0
Lies f n x ByValue = sense_in f x ≡ Some (Variable OfRoutine n)
Lies f n x ByVariable = sense_in f x ≡ Some (Reference n)
Lies f n x ByArray = ⊥

abbrev pub words_by : Passing → ℕ
words_by ByValue = 1
words_by ByVariable = 2
words_by ByArray = 0

-- the parameters lie one behind another, from a word on
abbrev pub LieFrom : Frame → ℕ → List Parameter → Type 0
LieFrom f n [] = f.parameters ≡ n
LieFrom f n (p ∷ parameters) =
    Lies f n p.letters (passing_of p) × LieFrom f (n + words_by (passing_of p)) parameters
