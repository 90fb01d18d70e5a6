-- Arguments, and what calls of the interface do.
use Rattle.std.specs.Prelude.{ℕ, ◌-◌, List, [], ◌∷◌, map, reverse, Option, Some, None, option_map, ℤ, pos, unsigned_abs, if◌then◌else◌}
use Rattle.solo_base.specs.declared.outcome.ProgResult.TheVariants as result
use Rattle.solo_base.specs.declared.system_call.SysCall.{SysCall}
use Rattle.solo_base.specs.declared.system_call.SysCall.TheVariants as calls
use Rattle.solo_base.specs.declared.system_call.SysReply.{SysReply}
use Rattle.solo_base.specs.declared.interface.Procedure.{Procedure}
use Rattle.solo_base.specs.declared.interface.Procedure.TheVariants as row
use Rattle.solo_base.specs.Arithmetic.{byte_of, are_bytes}
use Rattle.solo_base.specs.Replies.{results_in, array_in}
use Rattle.pascal_mean.specs.Means.{Means, Parameter, Signature}
use Rattle.pascal_mean.specs.Means as meant
use Rattle.pascal_mean.specs.Situation.{Answers, Place, Map, Situation, Part, Gives, and_then, end_with, make_call}
use Rattle.pascal_mean.specs.Variables.{fresh_map, put_value, put_reference, place_named, stored, ArrayPlace, array_named, whole_array, stored_elements}

-- ---- Arguments

-- how an argument is taken: by its value, as a variable or as a whole array
pub data Passing : Type 0 where
  ByValue : Passing
  ByVariable : Passing
  ByArray : Passing

-- an argument as a call gets it
pub data Given : Type 0 where
  Value : ℤ → Given
  Alias : Place → Given
  Elements : ArrayPlace → Given

abbrev pub passing_of : Parameter → Passing
passing_of p = if p.is_variable then ByVariable else ByValue

-- the arguments of each row of the interface
abbrev pub row_passing : Procedure → List Passing
row_passing row.Read = ByVariable ∷ []
row_passing row.Write = ByValue ∷ []
row_passing row.WriteInt = ByValue ∷ []
row_passing row.Accept = ByVariable ∷ []
row_passing row.Display = ByValue ∷ []
row_passing row.Open = ByValue ∷ ByArray ∷ ByVariable ∷ []
row_passing row.Close = ByValue ∷ []
row_passing row.Get = ByValue ∷ ByValue ∷ ByArray ∷ []
row_passing row.Put = ByValue ∷ ByValue ∷ ByArray ∷ []
row_passing row.Length = ByValue ∷ []
row_passing row.Lookup = ByArray ∷ ByVariable ∷ ByVariable ∷ []
row_passing row.ReadArg = ByVariable ∷ ByVariable ∷ ByArray ∷ []
row_passing row.WriteArg = ByValue ∷ ByValue ∷ ByArray ∷ []
row_passing row.Run = ByArray ∷ ByVariable ∷ ByVariable ∷ []

-- the arguments of what is called by a name
abbrev pub passing_named : Means → List Passing
passing_named (meant.Routine k signature) = map passing_of signature.parameters
passing_named (meant.Function f) = ByValue ∷ []
passing_named (meant.Interface p) = row_passing p
passing_named (meant.Constant t v) = []
passing_named (meant.Variable owner t) = []
passing_named (meant.Array owner t bounds) = []
passing_named (meant.Reference t) = []
passing_named (meant.TypeName t) = []
passing_named meant.Nothing = []

-- An argument that the call takes so: a value is evaluated, and of a variable or an array the name alone
-- counts. The name, what it means and the number of the activation come before the evaluation.
abbrev pub passed : Passing → Means → ℕ → List ℕ → Part ℤ → Part Given
passed ByValue means number x value now = and_then (value now) (λ v then_is. Gives (Value v) then_is)
passed ByVariable means number x value now = Gives (Alias (place_named means number x now)) now
passed ByArray means number x value now = Gives (Elements (array_named means number x)) now

abbrev pub values_in : List Given → List ℤ
values_in [] = []
values_in (Value v ∷ more) = v ∷ values_in more
values_in (Alias p ∷ more) = values_in more
values_in (Elements a ∷ more) = values_in more

abbrev pub variables_in : List Given → List Place
variables_in [] = []
variables_in (Value v ∷ more) = variables_in more
variables_in (Alias p ∷ more) = p ∷ variables_in more
variables_in (Elements a ∷ more) = variables_in more

abbrev pub arrays_in : List Given → List ArrayPlace
arrays_in [] = []
arrays_in (Value v ∷ more) = arrays_in more
arrays_in (Alias p ∷ more) = arrays_in more
arrays_in (Elements a ∷ more) = a ∷ arrays_in more

-- the first of some values, and the second
abbrev pub first_value : List ℤ → ℤ
first_value [] = pos 0
first_value (v ∷ more) = v

abbrev pub second_value : List ℤ → ℤ
second_value [] = pos 0
second_value (v ∷ more) = first_value more

-- a parameter has the value of its argument, or is another name for its variable
abbrev pub with_given : List ℕ → Given → Map → Map
with_given x (Value v) m = put_value x v m
with_given x (Alias p) m = put_reference x p m
with_given x (Elements a) m = m

-- the map of an activation that begins with these arguments
abbrev pub begun_map : List Parameter → List Given → Map
begun_map [] given = fresh_map
begun_map (p ∷ more) [] = begun_map more []
begun_map (p ∷ more) (g ∷ given) = with_given p.letters g (begun_map more given)

-- ---- The interface

-- The call that a row makes with these values in order, this array and so many ticks left, and none
-- where WRITE, DISPLAY or PUT would give a number outside 0 to 255.
abbrev pub call_for : Procedure → List ℤ → List ℤ → ℕ → Option SysCall
call_for row.Read values array left = Some calls.Read
call_for row.Write values array left =
    option_map (λ byte. calls.Write byte) (byte_of (first_value values))
call_for row.WriteInt values array left = Some (calls.WriteInt (first_value values))
call_for row.Accept values array left = Some calls.Accept
call_for row.Display values array left =
    option_map (λ byte. calls.Display byte) (byte_of (first_value values))
call_for row.Open values array left = Some (calls.Open (first_value values) array)
call_for row.Close values array left = Some (calls.Close (first_value values))
call_for row.Get values array left = Some (calls.Get (first_value values) (second_value values))
call_for row.Put values array left =
    if are_bytes array
    then Some (calls.Put (first_value values) (second_value values) (record { 0 = map unsigned_abs array }))
    else None
call_for row.Length values array left = Some (calls.Length (first_value values))
call_for row.Lookup values array left = Some (calls.Lookup array)
call_for row.ReadArg values array left = Some calls.ReadArg
call_for row.WriteArg values array left =
    Some (calls.WriteArg (first_value values) (second_value values) array)
call_for row.Run values array left = Some (calls.Run array left)

-- the words of the array that a call reads
abbrev pub array_read : List ArrayPlace → Situation → List ℤ
array_read [] now = []
array_read (a ∷ more) now = whole_array a now

abbrev pub set_array : List ArrayPlace → List ℤ → Situation → Situation
set_array [] words now = now
set_array (a ∷ more) words now = stored_elements a ((a.bounds).low) words now

abbrev pub set_variables : List Place → List ℤ → Situation → Situation
set_variables [] values now = now
set_variables (p ∷ more) [] now = now
set_variables (p ∷ more) (v ∷ values) now = set_variables more values (stored p v now)

-- what a reply sets: the array, then the variables from the last to the first
abbrev pub set_by : SysReply → List Given → Situation → Situation
set_by reply given now =
    set_variables (reverse (variables_in given)) (results_in reply)
    (set_array (arrays_in given) (array_in reply) now)

abbrev pub after_call : Answers → Option SysCall → List Given → Part ℤ
after_call answers None given now = end_with result.RangeError now
after_call answers (Some call) given now =
    and_then (make_call answers call now) (λ reply then_is.
    Gives (first_value (results_in reply)) (set_by reply given then_is))

-- A call of the interface, which gives the result of LENGTH and no result that counts for the others.
-- The array is read after all values were evaluated.
abbrev pub interface_value : Answers → ℕ → Procedure → List Given → Part ℤ
interface_value answers limit p given now =
    let call = call_for p (values_in given) (array_read (arrays_in given) now) (limit - now.ticks) in
    after_call answers call given now
