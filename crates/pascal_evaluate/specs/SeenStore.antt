-- What the store of the code stands for.
use Rattle.std.specs.Prelude.{ℕ, zero, suc, ◌+◌, Bool, true, false, ◌&&◌, List, [], ◌∷◌, map, Option, Some, None, option_map, ℤ, pos, bytes_eq, if◌then◌else◌}
use Rattle.std.specs.Borrow.{Bor}
use Rattle.std.specs.Ordering.{int_eq}
use Rattle.solo_base.specs.declared.system_call.SysCall.{SysCall}
use Rattle.solo_base.specs.declared.system_call.SysCall.TheVariants as calls
use Rattle.pascal_mean.specs.Situation.{Place, Map, Situation}
use Rattle.pascal_mean.specs.Variables.{fresh_map, ArrayPlace}
use Rattle.pascal_mean.specs.Calls.{Passing, ByValue, ByVariable, ByArray, Given, Value, Alias, Elements}
use Rattle.pascal_evaluate.specs.SeenNames.{seen_bounds}
use Rattle.pascal_evaluate.specs.declared.entries.Entry as entry_type
use Rattle.pascal_evaluate.specs.declared.activation.Place as place_type
use Rattle.pascal_evaluate.specs.declared.activation.ArrayPlace as array_type
use Rattle.pascal_evaluate.specs.declared.activation.Reference as reference_type
use Rattle.pascal_evaluate.specs.declared.activation.Activation as activation_type
use Rattle.pascal_evaluate.specs.declared.calls.Extent as extent_type
use Rattle.pascal_evaluate.specs.declared.calls.Passing as passing_type
use Rattle.pascal_evaluate.specs.declared.calls.Passing.TheVariants as passing
use Rattle.pascal_evaluate.specs.declared.calls.Given as given_type
use Rattle.pascal_evaluate.specs.declared.calls.Given.TheVariants as given
use Rattle.pascal_evaluate.specs.declared.run.Made as made_type
use Rattle.pascal_evaluate.specs.declared.run.Made.TheVariants as made
use Rattle.pascal_evaluate.specs.declared.run.Run as run_type

-- the value of a name at an index, and 0 where it has none
abbrev pub value_in : List entry_type.Entry → List ℕ → ℤ → ℤ
value_in [] x i = pos 0
value_in (e ∷ more) x i = if bytes_eq e.letters x && int_eq e.index i then e.value else value_in more x i

-- where the value of a name at an index stands
abbrev pub entry_place : List entry_type.Entry → List ℕ → ℤ → Option ℕ
entry_place [] x i = None
entry_place (e ∷ more) x i =
    if bytes_eq e.letters x && int_eq e.index i then Some 0
    else option_map (λ place. place + 1) (entry_place more x i)

-- the entry at a place has another value
abbrev pub with_value : List entry_type.Entry → ℕ → ℤ → List entry_type.Entry
with_value [] place v = []
with_value (e ∷ more) zero v = record e { value = v } ∷ more
with_value (e ∷ more) (suc place) v = e ∷ with_value more place v

abbrev pub seen_place : place_type.Place → Place
seen_place p = record { activation = p.activation; letters = p.letters }

abbrev pub place_in : List reference_type.Reference → List ℕ → Place
place_in [] x = record { activation = 0; letters = [] }
place_in (r ∷ more) x = if bytes_eq r.letters x then seen_place r.place else place_in more x

-- a scalar variable stands at index 0
abbrev pub seen_activation : activation_type.Activation → Map
seen_activation a = record {
  values = λ x. value_in (a.values).items x (pos 0);
  elements = λ x i. value_in (a.elements).items x i;
  references = λ x. place_in (a.references).items x;
  answer = a.answer;
}

-- an activation that is there, or one that begins
abbrev pub or_fresh : Option (Bor activation_type.Activation) → Map
or_fresh None = fresh_map
or_fresh (Some a) = seen_activation a.now

abbrev pub seen_made : made_type.Made → SysCall
seen_made made.Read = calls.Read
seen_made (made.Write code) = calls.Write code
seen_made (made.WriteInt number) = calls.WriteInt number

abbrev pub is_read : made_type.Made → Bool
is_read made.Read = true
is_read (made.Write code) = false
is_read (made.WriteInt number) = false

-- how many characters were read
abbrev pub reads : List made_type.Made → ℕ
reads [] = 0
reads (call ∷ more) = if is_read call then reads more + 1 else reads more

abbrev pub situation : run_type.Run → Situation
situation r = record {
  maps = map seen_activation (r.activations).items;
  line = r.line;
  ticks = r.ticks;
  made = map seen_made (r.made).items;
}

-- ---- Arguments

abbrev pub seen_passing : passing_type.Passing → Passing
seen_passing passing.ByValue = ByValue
seen_passing passing.ByVariable = ByVariable
seen_passing passing.ByArray = ByArray

abbrev pub seen_array : array_type.ArrayPlace → ArrayPlace
seen_array a = record { activation = a.activation; letters = a.letters; bounds = seen_bounds a.bounds }

abbrev pub seen_extent : extent_type.Extent → List ℕ → ArrayPlace
seen_extent e letters = record { activation = e.activation; letters = letters; bounds = seen_bounds e.bounds }

abbrev pub seen_given : given_type.Given → Given
seen_given (given.Value v) = Value v
seen_given (given.Alias p) = Alias (seen_place p)
seen_given (given.Elements a) = Elements (seen_array a)

abbrev pub all_given : List given_type.Given → List Given
all_given = map seen_given

-- the last variable among some arguments, and the first array, as the code finds them
abbrev pub seen_alias : Option (Bor place_type.Place) → Option Place
seen_alias None = None
seen_alias (Some p) = Some (seen_place p.now)

abbrev pub seen_elements : Option (Bor array_type.ArrayPlace) → Option ArrayPlace
seen_elements None = None
seen_elements (Some a) = Some (seen_array a.now)

abbrev pub alias_or : Option Place → Given → Option Place
alias_or (Some last) g = Some last
alias_or None (Value v) = None
alias_or None (Alias p) = Some p
alias_or None (Elements a) = None

abbrev pub last_alias : List Given → Option Place
last_alias [] = None
last_alias (g ∷ more) = alias_or (last_alias more) g

abbrev pub first_elements : List Given → Option ArrayPlace
first_elements [] = None
first_elements (Value v ∷ more) = first_elements more
first_elements (Alias p ∷ more) = first_elements more
first_elements (Elements a ∷ more) = Some a
