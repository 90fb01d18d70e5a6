-- The code of names: what each is to those who load it, store into it or pass it on. In what breaks no static
-- rule each name has code.
use Rattle.std.specs.Prelude.{ℕ, ◌+◌, List, [], ◌∷◌}
use Rattle.stack_code.specs.declared.table.Op.TheVariants as op
use Rattle.stack_code.specs.declared.instr.Instr.{Instr}
use Rattle.pascal_mean.specs.Means.{OfRoutine}
use Rattle.pascal_mean.specs.Variables.{size_of}
use Rattle.pascal_code.specs.Instructions.{with_a, push, test_index, load_word, store_word, load_element, store_element, refer}
use Rattle.pascal_code.specs.Senses.{Sense, Constant, Variable, Array, Reference, Routine, Function, Interface, Nothing}

-- A name as a factor: a constant is pushed, a variable loaded, a VAR parameter loaded through its two words,
-- a function called.
abbrev pub name_code : Sense → List Instr
name_code (Constant v) = push v ∷ []
name_code (Variable owner a) = load_word owner a ∷ []
name_code (Reference a) = with_a op.LoadR a ∷ []
name_code (Routine k passing) = with_a op.Call k ∷ []
name_code (Array owner a bounds) = []
name_code (Function f) = []
name_code (Interface p) = []
name_code Nothing = []

-- A name that is set, where a function's result has this word: the name of a function, in its own body, is
-- its result.
abbrev pub store_code : ℕ → Sense → List Instr
store_code result (Variable owner a) = store_word owner a ∷ []
store_code result (Reference a) = with_a op.StoreR a ∷ []
store_code result (Routine k passing) = store_word OfRoutine result ∷ []
store_code result (Constant v) = []
store_code result (Array owner a bounds) = []
store_code result (Function f) = []
store_code result (Interface p) = []
store_code result Nothing = []

-- A variable that is passed on to a VAR parameter: a VAR parameter hands on its own two words.
abbrev pub reference_code : Sense → List Instr
reference_code (Variable owner a) = refer owner a ∷ []
reference_code (Reference a) = load_word OfRoutine a ∷ load_word OfRoutine (a + 1) ∷ []
reference_code (Constant v) = []
reference_code (Array owner a bounds) = []
reference_code (Routine k passing) = []
reference_code (Function f) = []
reference_code (Interface p) = []
reference_code Nothing = []

-- ---- Arrays

-- an index behind its evaluation is tested
abbrev pub test_code : Sense → List Instr
test_code (Array owner a bounds) = test_index bounds ∷ []
test_code (Constant v) = []
test_code (Variable owner a) = []
test_code (Reference a) = []
test_code (Routine k passing) = []
test_code (Function f) = []
test_code (Interface p) = []
test_code Nothing = []

abbrev pub element_code : Sense → List Instr
element_code (Array owner a bounds) = load_element owner a (size_of bounds) ∷ []
element_code (Constant v) = []
element_code (Variable owner a) = []
element_code (Reference a) = []
element_code (Routine k passing) = []
element_code (Function f) = []
element_code (Interface p) = []
element_code Nothing = []

abbrev pub store_element_code : Sense → List Instr
store_element_code (Array owner a bounds) = store_element owner a (size_of bounds) ∷ []
store_element_code (Constant v) = []
store_element_code (Variable owner a) = []
store_element_code (Reference a) = []
store_element_code (Routine k passing) = []
store_element_code (Function f) = []
store_element_code (Interface p) = []
store_element_code Nothing = []
