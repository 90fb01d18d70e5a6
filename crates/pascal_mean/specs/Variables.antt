-- The variables that names stand for, and their values.
use Rattle.std.specs.Prelude.{ℕ, zero, suc, ◌+◌, ◌&&◌, List, [], ◌∷◌, ℤ, pos, negsuc, ◌+ℤ◌, ◌-ℤ◌, unsigned_abs, bytes_eq, if◌then◌else◌}
use Rattle.std.specs.Ordering.{int_eq}
use Rattle.pascal_mean.specs.Means.{Means, Owner, OfProgram, OfRoutine, Bounds}
use Rattle.pascal_mean.specs.Means as meant
use Rattle.pascal_mean.specs.Situation.{Place, Map, Situation}

-- each variable, element and result is 0 when its activation begins
abbrev pub fresh_map : Map
fresh_map = record {
  values = λ x. pos 0;
  elements = λ x i. pos 0;
  references = λ x. record { activation = 0; letters = [] };
  answer = pos 0;
}

-- the map of the activation with a number
abbrev pub map_at : List Map → ℕ → Map
map_at [] number = fresh_map
map_at (m ∷ more) zero = m
map_at (m ∷ more) (suc number) = map_at more number

-- one map of a list is changed
abbrev pub with_map : ℕ → (Map → Map) → List Map → List Map
with_map number change [] = []
with_map zero change (m ∷ more) = change m ∷ more
with_map (suc number) change (m ∷ more) = m ∷ with_map number change more

abbrev pub set_map : ℕ → (Map → Map) → Situation → Situation
set_map number change now = record now { maps = with_map number change now.maps }

-- ---- Scalar variables

abbrev pub put_value : List ℕ → ℤ → Map → Map
put_value x v m = record m { values = λ y. if bytes_eq x y then v else m.values y }

abbrev pub put_reference : List ℕ → Place → Map → Map
put_reference x p m = record m { references = λ y. if bytes_eq x y then p else m.references y }

abbrev pub put_answer : ℤ → Map → Map
put_answer v m = record m { answer = v }

-- the number of the activation whose variable a name in the activation with a number is
abbrev pub owner_number : Owner → ℕ → ℕ
owner_number OfProgram number = 0
owner_number OfRoutine number = number

-- The variable that a name stands for in the activation with a number: a VAR parameter is another name
-- for the variable of its argument.
abbrev pub place_named : Means → ℕ → List ℕ → Situation → Place
place_named (meant.Variable owner t) number x now =
    record { activation = owner_number owner number; letters = x }
place_named (meant.Reference t) number x now = (map_at now.maps number).references x
place_named (meant.Constant t v) number x now = record { activation = number; letters = x }
place_named (meant.Array owner t bounds) number x now = record { activation = number; letters = x }
place_named (meant.Routine k signature) number x now = record { activation = number; letters = x }
place_named (meant.Function f) number x now = record { activation = number; letters = x }
place_named (meant.Interface p) number x now = record { activation = number; letters = x }
place_named (meant.TypeName t) number x now = record { activation = number; letters = x }
place_named meant.Nothing number x now = record { activation = number; letters = x }

abbrev pub value_at : Place → Situation → ℤ
value_at p now = (map_at now.maps p.activation).values p.letters

abbrev pub stored : Place → ℤ → Situation → Situation
stored p v now = set_map p.activation (put_value p.letters v) now

-- The assignment of a value to a name without an index: a variable's, or a function's in its own body.
abbrev pub assigned : Means → ℕ → List ℕ → ℤ → Situation → Situation
assigned (meant.Variable owner t) number x v now =
    stored (place_named (meant.Variable owner t) number x now) v now
assigned (meant.Reference t) number x v now =
    stored (place_named (meant.Reference t) number x now) v now
assigned (meant.Routine k signature) number x v now = set_map number (put_answer v) now
assigned (meant.Constant t w) number x v now = now
assigned (meant.Array owner t bounds) number x v now = now
assigned (meant.Function f) number x v now = now
assigned (meant.Interface p) number x v now = now
assigned (meant.TypeName t) number x v now = now
assigned meant.Nothing number x v now = now

-- ---- Arrays

-- an array: the number of its activation, its name and its bounds
pub record ArrayPlace : Type 0 where
  pub activation : ℕ
  pub letters : List ℕ
  pub bounds : Bounds

abbrev pub no_bounds : Bounds
no_bounds = record { low = pos 0; high = negsuc 0 }

abbrev no_array : ℕ → List ℕ → ArrayPlace
no_array number x = record { activation = number; letters = x; bounds = no_bounds }

-- the array that a name stands for, and one without elements for any other name
abbrev pub array_named : Means → ℕ → List ℕ → ArrayPlace
array_named (meant.Array owner t bounds) number x =
    record { activation = owner_number owner number; letters = x; bounds = bounds }
array_named (meant.Constant t v) number x = no_array number x
array_named (meant.Variable owner t) number x = no_array number x
array_named (meant.Reference t) number x = no_array number x
array_named (meant.Routine k signature) number x = no_array number x
array_named (meant.Function f) number x = no_array number x
array_named (meant.Interface p) number x = no_array number x
array_named (meant.TypeName t) number x = no_array number x
array_named meant.Nothing number x = no_array number x

abbrev pub element_at : ArrayPlace → ℤ → Situation → ℤ
element_at a i now = (map_at now.maps a.activation).elements a.letters i

abbrev pub put_element : List ℕ → ℤ → ℤ → Map → Map
put_element x i v m = record m { elements = λ y j. if bytes_eq x y && int_eq i j then v else m.elements y j }

abbrev pub stored_element : ArrayPlace → ℤ → ℤ → Situation → Situation
stored_element a i v now = set_map a.activation (put_element a.letters i v) now

-- how many elements lie between the bounds, where the lower is not over the upper
abbrev pub size_of : Bounds → ℕ
size_of bounds = unsigned_abs (bounds.high -ℤ bounds.low) + 1

-- so many elements of an array in order, from an index on
abbrev pub elements_from : ArrayPlace → ℤ → ℕ → Situation → List ℤ
elements_from a i zero now = []
elements_from a i (suc count) now = element_at a i now ∷ elements_from a (i +ℤ pos 1) count now

abbrev pub whole_array : ArrayPlace → Situation → List ℤ
whole_array a now = elements_from a (a.bounds).low (size_of a.bounds) now

-- the elements of an array from an index on become these values
abbrev pub stored_elements : ArrayPlace → ℤ → List ℤ → Situation → Situation
stored_elements a i [] now = now
stored_elements a i (v ∷ more) now = stored_elements a (i +ℤ pos 1) more (stored_element a i v now)
