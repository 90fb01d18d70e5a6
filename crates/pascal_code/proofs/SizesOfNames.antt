-- How many instructions names and calls have.
use Rattle.std.proofs.Common.{◌≡◌, ℕ, List, [], ◌∷◌, length, arith, refl, ap, ◌∙◌, length-append}
use Rattle.stack_code.specs.declared.instr.Instr.{Instr}
use Rattle.pascal_tree.specs.Expression.{Arguments, arguments, Exprs, no_expr, next_expr}
use Rattle.pascal_mean.specs.Means.{Means, Standard, Abs, Succ, Pred, Ord, Chr}
use Rattle.pascal_mean.specs.Means as meant
use Rattle.pascal_mean.specs.Calls.{Passing, ByValue, ByVariable, ByArray, row_passing, passing_named}
use Rattle.pascal_mean.specs.Expressions.{name_in}
use Rattle.pascal_mean.specs.Scope.{Scope}
use Rattle.pascal_code.specs.Senses.{AreSenses, sense, Site}
use Rattle.pascal_code.specs.Names.{name_code, store_code, reference_code, test_code, element_code, store_element_code}
use Rattle.pascal_code.specs.Calls.{standard_code, variable_code, passed_code, given_exprs, given_arguments, variables_among, stores_code, call_code}
use Rattle.pascal_code.specs.Size.{name_size, store_size, reference_size, array_size, variable_size, passed_size, set_size, standard_size, call_size, exprs_of}

pub name_sized : (m : Means) (a : ℕ) → length (name_code (sense m a)) ≡ name_size m
name_sized (meant.Constant t v) a = refl
name_sized (meant.Variable owner t) a = refl
name_sized (meant.Array owner t bounds) a = refl
name_sized (meant.Reference t) a = refl
name_sized (meant.Routine k signature) a = refl
name_sized (meant.Function f) a = refl
name_sized (meant.Interface p) a = refl
name_sized (meant.TypeName t) a = refl
name_sized meant.Nothing a = refl

pub store_sized : (result : ℕ) (m : Means) (a : ℕ) → length (store_code result (sense m a)) ≡ store_size m
store_sized result (meant.Constant t v) a = refl
store_sized result (meant.Variable owner t) a = refl
store_sized result (meant.Array owner t bounds) a = refl
store_sized result (meant.Reference t) a = refl
store_sized result (meant.Routine k signature) a = refl
store_sized result (meant.Function f) a = refl
store_sized result (meant.Interface p) a = refl
store_sized result (meant.TypeName t) a = refl
store_sized result meant.Nothing a = refl

pub reference_sized : (m : Means) (a : ℕ) → length (reference_code (sense m a)) ≡ reference_size m
reference_sized (meant.Constant t v) a = refl
reference_sized (meant.Variable owner t) a = refl
reference_sized (meant.Array owner t bounds) a = refl
reference_sized (meant.Reference t) a = refl
reference_sized (meant.Routine k signature) a = refl
reference_sized (meant.Function f) a = refl
reference_sized (meant.Interface p) a = refl
reference_sized (meant.TypeName t) a = refl
reference_sized meant.Nothing a = refl

pub test_sized : (m : Means) (a : ℕ) → length (test_code (sense m a)) ≡ array_size m
test_sized (meant.Constant t v) a = refl
test_sized (meant.Variable owner t) a = refl
test_sized (meant.Array owner t bounds) a = refl
test_sized (meant.Reference t) a = refl
test_sized (meant.Routine k signature) a = refl
test_sized (meant.Function f) a = refl
test_sized (meant.Interface p) a = refl
test_sized (meant.TypeName t) a = refl
test_sized meant.Nothing a = refl

pub element_sized : (m : Means) (a : ℕ) → length (element_code (sense m a)) ≡ array_size m
element_sized (meant.Constant t v) a = refl
element_sized (meant.Variable owner t) a = refl
element_sized (meant.Array owner t bounds) a = refl
element_sized (meant.Reference t) a = refl
element_sized (meant.Routine k signature) a = refl
element_sized (meant.Function f) a = refl
element_sized (meant.Interface p) a = refl
element_sized (meant.TypeName t) a = refl
element_sized meant.Nothing a = refl

pub store_element_sized : (m : Means) (a : ℕ) → length (store_element_code (sense m a)) ≡ array_size m
store_element_sized (meant.Constant t v) a = refl
store_element_sized (meant.Variable owner t) a = refl
store_element_sized (meant.Array owner t bounds) a = refl
store_element_sized (meant.Reference t) a = refl
store_element_sized (meant.Routine k signature) a = refl
store_element_sized (meant.Function f) a = refl
store_element_sized (meant.Interface p) a = refl
store_element_sized (meant.TypeName t) a = refl
store_element_sized meant.Nothing a = refl

-- ---- Calls

variable_sized : (m : Means) (a : ℕ) (n : Means) (b : ℕ)
    → length (variable_code (sense m a) (sense n b)) ≡ variable_size m n
variable_sized (meant.Constant t v) a n b = refl
variable_sized (meant.Variable owner t) a n b = refl
variable_sized (meant.Array owner t bounds) a n b = refl
variable_sized (meant.Reference t) a n b = refl
variable_sized (meant.Routine k signature) a n b = reference_sized n b
variable_sized (meant.Function f) a n b = refl
variable_sized (meant.Interface p) a n b = refl
variable_sized (meant.TypeName t) a n b = refl
variable_sized meant.Nothing a n b = refl

pub passed_sized : (m : Means) (a : ℕ) (p : Passing) (n : Means) (b : ℕ) (value : List Instr)
    → length (passed_code (sense m a) p (sense n b) value) ≡ passed_size m p n (length value)
passed_sized m a ByValue n b value = refl
passed_sized m a ByVariable n b value = variable_sized m a n b
passed_sized m a ByArray n b value = refl

standard_sized : (f : Standard) → length (standard_code f) ≡ standard_size f
standard_sized Abs = refl
standard_sized Succ = refl
standard_sized Pred = refl
standard_sized Ord = refl
standard_sized Chr = refl

module _ (site : Site) (scope : Scope) (are : AreSenses scope site.names) where
  stores_sized : (passing : List Passing) (e : Exprs)
      → length (stores_code site.result (variables_among passing (given_exprs site e))) ≡ set_size scope passing e
  stores_sized [] no_expr = refl
  stores_sized (p ∷ others) no_expr = refl
  stores_sized [] (next_expr comma e more) = refl
  stores_sized (ByValue ∷ others) (next_expr comma e more) = stores_sized others more
  stores_sized (ByArray ∷ others) (next_expr comma e more) = stores_sized others more
  stores_sized (ByVariable ∷ others) (next_expr comma e more) =
      let x = name_in e in
      let first : length (store_code site.result (site.names x)) ≡ store_size (scope x) =
      ap (λ s. length (store_code site.result s)) (are x).1 ∙ store_sized site.result (scope x) (are x).0 in
      let later = stores_code site.result (variables_among others (given_exprs site more)) in
      omega (arith, length-append later (store_code site.result (site.names x)), first, stores_sized others more)

  given_again : (a : Arguments) → given_arguments site a ≡ given_exprs site (exprs_of a)
  given_again (arguments opening e more closing) = refl

  -- a call behind its arguments
  pub call_sized : (m : Means) (a : ℕ) (given : Arguments)
      → length (call_code site.result (sense m a) (given_arguments site given))
      ≡ call_size m (set_size scope (passing_named m) (exprs_of given))
  call_sized (meant.Routine k signature) a given = refl
  call_sized (meant.Function f) a given = standard_sized f
  call_sized (meant.Interface p) a given =
      let here = variables_among (row_passing p) (given_arguments site given) in
      let same : length (stores_code site.result here) ≡ set_size scope (row_passing p) (exprs_of given) =
      ap (λ g. length (stores_code site.result (variables_among (row_passing p) g))) (given_again given)
      ∙ stores_sized (row_passing p) (exprs_of given) in
      omega (arith, same)
  call_sized (meant.Constant t v) a given = refl
  call_sized (meant.Variable owner t) a given = refl
  call_sized (meant.Array owner t bounds) a given = refl
  call_sized (meant.Reference t) a given = refl
  call_sized (meant.TypeName t) a given = refl
  call_sized meant.Nothing a given = refl

nothing_is_set : (result : ℕ) (passing : List Passing)
    → length (stores_code result (variables_among passing [])) ≡ 0
nothing_is_set result [] = refl
nothing_is_set result (p ∷ others) = refl

-- a call without arguments
pub bare_call_sized : (result : ℕ) (m : Means) (a : ℕ) → length (call_code result (sense m a) []) ≡ call_size m 0
bare_call_sized result (meant.Routine k signature) a = refl
bare_call_sized result (meant.Function f) a = standard_sized f
bare_call_sized result (meant.Interface p) a = omega (arith, nothing_is_set result (row_passing p))
bare_call_sized result (meant.Constant t v) a = refl
bare_call_sized result (meant.Variable owner t) a = refl
bare_call_sized result (meant.Array owner t bounds) a = refl
bare_call_sized result (meant.Reference t) a = refl
bare_call_sized result (meant.TypeName t) a = refl
bare_call_sized result meant.Nothing a = refl
