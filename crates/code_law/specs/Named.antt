-- What the names at a place of a program have in the frames of the open activations.
use Rattle.std.specs.Prelude.{◌≡◌, ℕ, ◌+◌, ◌≤◌, List, Some, slice_get, pos}
use Rattle.std.specs.Int.{w16, cast_signed}
use Rattle.pascal_mean.specs.Means.{Owner, Bounds}
use Rattle.pascal_mean.specs.Scope.{Scope}
use Rattle.pascal_mean.specs.Variables.{owner_number}
use Rattle.pascal_code.specs.Frames.{Frame, declared_words}
use Rattle.pascal_code.specs.Senses.{sense, Variable, Array, Reference, sense_in, Site}

-- a scalar variable has its word in the frame of its owner
pub record HasWord (frames : List Frame) (number : ℕ) (x : List ℕ) (a : ℕ) : Type 0 where
  pub frame : Frame
  pub frame_is : slice_get frames number ≡ Some frame
  pub owner : Owner
  pub is : sense_in frame x ≡ Some (Variable owner a)
  pub small : cast_signed w16 a ≡ pos a

-- an array has its words there
pub record HasWords (frames : List Frame) (number : ℕ) (x : List ℕ) (a : ℕ) (bounds : Bounds) : Type 0 where
  pub frame : Frame
  pub frame_is : slice_get frames number ≡ Some frame
  pub owner : Owner
  pub is : sense_in frame x ≡ Some (Array owner a bounds)

-- In the activation with a number, whose names mean what the scope says, they are to the code what they mean;
-- and what has words has them in these frames.
pub record Named (frames : List Frame) (number : ℕ) (site : Site) (scope : Scope) : Type 0 where
  pub frame : Frame
  pub own_at : slice_get frames number ≡ Some frame
  pub senses : (x : List ℕ) → (a : ℕ) × (site.names x ≡ sense (scope x) a)
  pub variables : (x : List ℕ) (o : Owner) (a : ℕ) → site.names x ≡ Variable o a
      → HasWord frames (owner_number o number) x a
  pub arrays : (x : List ℕ) (o : Owner) (a : ℕ) (bounds : Bounds) → site.names x ≡ Array o a bounds
      → HasWords frames (owner_number o number) x a bounds
  pub references : (x : List ℕ) (a : ℕ) → site.names x ≡ Reference a → sense_in frame x ≡ Some (Reference a)
  pub owner : owner_number site.owner number ≡ number
  pub low : frame.parameters + frame.result ≤ declared_words frame
  pub result : site.result ≡ frame.parameters
