-- One value or none, and a list.
use Rattle.std.specs.Prelude.{List, [], ◌∷◌, Option, Some, None}
use Rattle.pascal_code.specs.Senses.{Sense}

abbrev pub listed : Option Sense → List Sense
listed None = []
listed (Some s) = s ∷ []

abbrev pub first_of : List Sense → Option Sense
first_of [] = None
first_of (s ∷ more) = Some s
