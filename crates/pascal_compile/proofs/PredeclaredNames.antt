-- The predeclared names, as a row of tests.
use Rattle.std.proofs.Common.{◌≡◌, ℕ, Bool, true, false, List, [], ◌∷◌, Option, Some, None, refl}
use Rattle.std.specs.Prelude.{bytes_eq, if◌then◌else◌}
use Rattle.pascal_mean.specs.Predeclared.{Item}
use Rattle.pascal_code.specs.Frames.{Frame, place_behind}
use Rattle.pascal_code.specs.Senses.{Sense, Nothing, sense, sense_among, first_sense}

abbrev pub in_items : Frame → List Item → List ℕ → Sense
in_items f [] x = Nothing
in_items f (i ∷ earlier) x =
    if bytes_eq i.letters x then sense i.means (place_behind f earlier) else in_items f earlier x

step : (b : Bool) (s : Sense) (o : Option Sense) (t : Sense) → first_sense None None o ≡ t
    → first_sense None None (if b then Some s else o) ≡ (if b then s else t)
step true s o t h = refl
step false s o t h = h

pub as_tests : (f : Frame) (items : List Item) (x : List ℕ)
    → first_sense None None (sense_among f items x) ≡ in_items f items x
as_tests f [] x = refl
as_tests f (i ∷ earlier) x =
    step (bytes_eq i.letters x) (sense i.means (place_behind f earlier)) (sense_among f earlier x) (in_items f earlier x)
    (as_tests f earlier x)
