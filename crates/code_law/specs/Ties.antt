-- What the words of the open activations hold, told by the maps of a meaning.
use Rattle.std.specs.Prelude.{◌≡◌, ℕ, ◌+◌, ◌<◌, List, length, slice_get, Option, Some, ℤ, pos, ◌+ℤ◌}
use Rattle.stack_machine.specs.States.{Activation}
use Rattle.stack_machine.specs.Activations.{words_from}
use Rattle.pascal_mean.specs.Means.{Owner, Bounds}
use Rattle.pascal_mean.specs.Situation.{Place, Map}
use Rattle.pascal_mean.specs.Variables.{size_of, map_at}
use Rattle.pascal_code.specs.Frames.{Frame, declared_words}
use Rattle.pascal_code.specs.Senses.{Variable, Array, Reference, sense_in}
use Rattle.code_law.specs.Regions.{AreApart}

-- In the activation with a number two words name a place: the number of an activation below it, and the word
-- of a scalar variable there.
pub record IsReferred (frames : List Frame) (number : ℕ) (words : List ℤ) (a : ℕ) (p : Place) : Type 0 where
  pub below : p.activation < number
  pub numbered : slice_get words a ≡ Some (pos p.activation)
  pub frame : Frame
  pub frame_is : slice_get frames p.activation ≡ Some frame
  pub owner : Owner
  pub word : ℕ
  pub is : sense_in frame p.letters ≡ Some (Variable owner word)
  pub placed : slice_get words (a + 1) ≡ Some (pos word)

-- Each variable, element, reference and result has its word.
pub record AreTied (frames : List Frame) (number : ℕ) (f : Frame) (m : Map) (words : List ℤ) : Type 0 where
  pub scalars : (x : List ℕ) (o : Owner) (a : ℕ) → sense_in f x ≡ Some (Variable o a)
      → slice_get words a ≡ Some (m.values x)
  pub arrays : (x : List ℕ) (o : Owner) (a : ℕ) (b : Bounds) (i : ℕ) → sense_in f x ≡ Some (Array o a b)
      → i < size_of b → slice_get words (a + i) ≡ Some (m.elements x (b.low +ℤ pos i))
  pub references : (x : List ℕ) (a : ℕ) → sense_in f x ≡ Some (Reference a)
      → IsReferred frames number words a (m.references x)
  pub answer : f.result ≡ 1 → slice_get words f.parameters ≡ Some m.answer

-- what FOR and CASE hold in the activation with a number, at each depth; nothing at a depth that isn't open
abbrev pub Held : Type 0
Held = ℕ → ℕ → Option ℤ

-- The activations below, and the current one with its own words, have these frames, and their words hold what
-- the maps tell and what is held, behind the declared words.
pub record Agree (frames : List Frame) (held : Held) (maps : List Map) (below : List Activation)
    (own : List ℤ)
    : Type 0 where
  pub as_many : length maps ≡ length frames
  pub all_open : length frames ≡ length below + 1
  pub apart : (d : ℕ) (f : Frame) → slice_get frames d ≡ Some f → AreApart f
  pub tied : (d : ℕ) (f : Frame) → slice_get frames d ≡ Some f
      → AreTied frames d f (map_at maps d) (words_from below own d)
  pub holds : (d i : ℕ) (f : Frame) (v : ℤ) → slice_get frames d ≡ Some f → held d i ≡ Some v
      → slice_get (words_from below own d) (declared_words f + i) ≡ Some v
