-- Variables, arguments and calls of the interface, however calls are answered.
use Rattle.std.proofs.Common.{ℕ, ◌-◌, Option, Some, None, List, [], ◌∷◌, ℤ, pos, refl, ◌∙◌}
use Rattle.std.specs.Prelude.{◌+ℤ◌, reverse}
use Rattle.solo_base.specs.declared.system_call.SysCall.{SysCall}
use Rattle.solo_base.specs.declared.system_call.SysReply.{SysReply}
use Rattle.solo_base.specs.declared.interface.Procedure.{Procedure}
use Rattle.solo_base.specs.Replies.{results_in, array_in}
use Rattle.pascal_mean.specs.Means.{Means, Standard, Abs, Succ, Pred, Ord, Chr, Bounds}
use Rattle.pascal_mean.specs.Means as meant
use Rattle.pascal_mean.specs.Situation.{Answers, Place, Situation, Part, Gives}
use Rattle.pascal_mean.specs.Variables.{place_named, stored, assigned, ArrayPlace, array_named, stored_element, stored_elements}
use Rattle.pascal_mean.specs.Values.{standard_value, within}
use Rattle.pascal_mean.specs.Calls.{Passing, ByValue, ByVariable, ByArray, Given, Value, Alias, Elements, passed, values_in, variables_in, arrays_in, first_value, call_for, array_read, set_array, set_variables, set_by, after_call, interface_value}
use Rattle.pascal_mean.proofs.Steady.{IsSteady, Keeps, then_steady, choose_steady, at_each, gives_steady, value_steady, end_steady, number_steady, call_steady}

-- ---- Variables

pub assigned_kept : (means : Means) (number : ℕ) (x : List ℕ) (v : ℤ) → Keeps (assigned means number x v)
assigned_kept (meant.Variable owner t) number x v now = refl
assigned_kept (meant.Reference t) number x v now = refl
assigned_kept (meant.Routine k signature) number x v now = refl
assigned_kept (meant.Constant t w) number x v now = refl
assigned_kept (meant.Array owner t bounds) number x v now = refl
assigned_kept (meant.Function f) number x v now = refl
assigned_kept (meant.Interface p) number x v now = refl
assigned_kept (meant.TypeName t) number x v now = refl
assigned_kept meant.Nothing number x v now = refl

elements_kept : (array : ArrayPlace) (i : ℤ) (words : List ℤ) → Keeps (stored_elements array i words)
elements_kept array i [] now = refl
elements_kept array i (v ∷ more) now = elements_kept array (i +ℤ pos 1) more (stored_element array i v now)

-- ---- Values

pub standard_steady : {a b : Answers} (f : Standard) (v : ℤ) → IsSteady a b (standard_value f v) (standard_value f v)
standard_steady Abs v = number_steady _
standard_steady Succ v = number_steady _
standard_steady Pred v = number_steady _
standard_steady Ord v = value_steady v
standard_steady Chr v = choose_steady _ (value_steady v) (end_steady _)

pub within_steady : {a b : Answers} (bounds : Bounds) (v : ℤ) → IsSteady a b (within bounds v) (within bounds v)
within_steady bounds v = choose_steady _ (value_steady v) (end_steady _)

-- ---- Arguments and calls

pub passed_steady : {a b : Answers} {value other : Part ℤ} (p : Passing) (means : Means) (number : ℕ) (x : List ℕ) → IsSteady a b value other
    → IsSteady a b (passed p means number x value) (passed p means number x other)
passed_steady ByValue means number x steady =
    let go : ℤ → Part Given = λ v. Gives (Value v) in
    then_steady go go steady (λ v. value_steady (Value v))
passed_steady ByVariable means number x steady = gives_steady (λ now. Alias (place_named means number x now)) (λ now. now) (λ now. refl)
passed_steady ByArray means number x steady = value_steady (Elements (array_named means number x))

array_kept : (arrays : List ArrayPlace) (words : List ℤ) → Keeps (set_array arrays words)
array_kept [] words now = refl
array_kept (array ∷ others) words now = elements_kept array _ words now

variables_kept : (places : List Place) (values : List ℤ) → Keeps (set_variables places values)
variables_kept [] values now = refl
variables_kept (p ∷ others) [] now = refl
variables_kept (p ∷ others) (v ∷ values) now = variables_kept others values (stored p v now)

set_kept : (reply : SysReply) (given : List Given) → Keeps (set_by reply given)
set_kept reply given now =
    variables_kept (reverse (variables_in given)) (results_in reply) (set_array (arrays_in given) (array_in reply) now)
    ∙ array_kept (arrays_in given) (array_in reply) now

after_call_steady : {a b : Answers} (call : Option SysCall) (given : List Given) → IsSteady a b (after_call a call given) (after_call b call given)
after_call_steady None given = end_steady _
after_call_steady (Some call) given =
    let go : SysReply → Part ℤ = λ reply now. Gives (first_value (results_in reply)) (set_by reply given now) in
    then_steady go go (call_steady call) (λ reply. gives_steady (λ now. first_value (results_in reply)) (set_by reply given) (set_kept reply given))

pub interface_steady : {a b : Answers} (limit : ℕ) (p : Procedure) (given : List Given)
    → IsSteady a b (interface_value a limit p given) (interface_value b limit p given)
interface_steady {a = a} {b = b} limit p given =
    let part : Answers → Situation
    → Part ℤ = λ answers now. after_call answers (call_for p (values_in given) (array_read (arrays_in given) now) (limit - now.ticks)) given in
    at_each (part a) (part b) (λ now. after_call_steady _ given)
