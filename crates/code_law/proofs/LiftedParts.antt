-- How high the operand stack stands along single instructions, names and calls.
use Rattle.std.proofs.Common.{◌≡◌, ℕ, ◌+◌, ◌≤◌, Bool, true, false, Some, None, Option, List, [], ◌∷◌, ◌++◌, length, refl, sym, ◌∙◌, ap, subst, arith}
use Rattle.std.proofs.lemmas.Bool.{true≢false}
use Rattle.solo_base.specs.declared.interface.Procedure.{Procedure}
use Rattle.solo_base.specs.declared.interface.Procedure.TheVariants as row
use Rattle.solo_base.specs.Interface.{values_of, results_of, call_row_of}
use Rattle.stack_code.specs.declared.table.Op.{Op}
use Rattle.stack_code.specs.declared.table.Op.TheVariants as op
use Rattle.stack_code.specs.declared.instr.Instr.{Instr}
use Rattle.stack_code.specs.CodeLists.{CodeLists}
use Rattle.stack_code.specs.CodeFile.{mark}
use Rattle.stack_code.specs.Rules.{pops, pushes, leaves_nothing}
use Rattle.pascal_tree.specs.declared.expression.Relation.{Relation}
use Rattle.pascal_tree.specs.declared.expression.Relation.TheVariants as relation
use Rattle.pascal_tree.specs.declared.expression.Sign.{Sign}
use Rattle.pascal_tree.specs.declared.expression.Sign.TheVariants as sign
use Rattle.pascal_tree.specs.declared.expression.Adding.{Adding}
use Rattle.pascal_tree.specs.declared.expression.Adding.TheVariants as adding
use Rattle.pascal_tree.specs.declared.expression.Multiplying.{Multiplying}
use Rattle.pascal_tree.specs.declared.expression.Multiplying.TheVariants as multiplying
use Rattle.pascal_tree.specs.Expression.{Arguments, arguments, Exprs, no_expr, next_expr}
use Rattle.pascal_mean.specs.Means.{Owner, OfProgram, OfRoutine, Standard, Abs, Succ, Pred, Ord, Chr}
use Rattle.pascal_mean.specs.Calls.{Passing, ByValue, ByVariable, ByArray, row_passing}
use Rattle.pascal_mean.specs.Expressions.{name_in}
use Rattle.pascal_code.specs.Instructions.{bare, with_a, load_word, store_word, load_element, store_element, refer, test_index}
use Rattle.pascal_code.specs.Senses.{Sense, Constant, Variable, Array, Reference, Routine, Function, Interface, Nothing, Site}
use Rattle.pascal_code.specs.Names.{store_code, reference_code, test_code, element_code, store_element_code}
use Rattle.pascal_code.specs.Calls.{row_number, standard_code, variable_code, given_exprs, given_arguments, variables_among, arrays_among, row_call, stores_code, call_code}
use Rattle.pascal_code.specs.Expressions.{relation_op, adding_op, multiplying_op, sign_code}
use Rattle.code_law.specs.Heights.{behind, Lift, passed_words}
use Rattle.code_law.specs.Suits.{Routines, CanIndex, CanStore, IsScalar, CanCall, CanPass, variable_count, SuitsExpr, SuitsArguments, SuitsExprs}

-- ---- One code behind another

pub lifts : (c : CodeLists) (least most : ℕ) (first rest : List Instr) (h k n : ℕ) → Lift c least most first h k → Lift c least most rest k n
    → Lift c least most (first ++ rest) h n
lifts c least most [] rest h k n one two = subst (λ m. Lift c least most rest m n) (sym one) two
lifts c least most (i ∷ first) rest h k n one two =
    (one.0, one.1, one.2, one.3, lifts c least most first rest (behind c i h) k n one.4 two)

pub lift_wider : (c : CodeLists) (least most lower higher : ℕ) (code : List Instr) (h k : ℕ) → lower ≤ least → most ≤ higher
    → Lift c least most code h k → Lift c lower higher code h k
lift_wider c least most lower higher [] h k low high lift = lift
lift_wider c least most lower higher (i ∷ code) h k low high lift = (
  lift.0,
  omega (arith, low, lift.1),
  omega (arith, high, lift.2),
  lift.3,
  lift_wider c least most lower higher code (behind c i h) k low high lift.4,
)

-- the same with other names for its heights
pub lift_moved : (c : CodeLists) (least most : ℕ) (code : List Instr) (h k h' k' : ℕ) → h ≡ h' → k ≡ k' → Lift c least most code h k
    → Lift c least most code h' k'
lift_moved c least most code h k h' k' one two lift = subst (λ m. Lift c least most code m k') one (subst (λ m. Lift c least most code h m) two lift)

-- an instruction in front, behind which there are so many
pub lift_step : (c : CodeLists) (least most : ℕ) (i : Instr) (code : List Instr) (h m k : ℕ) → pops c i.op i.a ≤ h → behind c i h ≡ m
    → least ≤ m → m ≤ most → leaves_nothing i.op ≡ false → Lift c least most code m k → Lift c least most (i ∷ code) h k
lift_step c least most i code h m k has is low high stays lift = (
  has,
  omega (arith, is, low),
  omega (arith, is, high),
  (λ e. absurd (true≢false (sym e ∙ stays))),
  subst (λ n. Lift c least most code n k) (sym is) lift,
)

-- ---- Operators

pub record IsOperator (c : CodeLists) (o : Op) (from : ℕ) : Type 0 where
  pub pops_so : pops c o 0 ≡ from
  pub pushes_so : pushes c o 0 ≡ 1
  pub stays : leaves_nothing o ≡ false

pub relation_is : (c : CodeLists) (r : Relation) → IsOperator c (relation_op r) 2
relation_is c relation.Equal = record { pops_so = refl; pushes_so = refl; stays = refl }
relation_is c relation.NotEqual = record { pops_so = refl; pushes_so = refl; stays = refl }
relation_is c relation.Less = record { pops_so = refl; pushes_so = refl; stays = refl }
relation_is c relation.Greater = record { pops_so = refl; pushes_so = refl; stays = refl }
relation_is c relation.LessOrEqual = record { pops_so = refl; pushes_so = refl; stays = refl }
relation_is c relation.GreaterOrEqual = record { pops_so = refl; pushes_so = refl; stays = refl }

pub adding_is : (c : CodeLists) (a : Adding) → IsOperator c (adding_op a) 2
adding_is c adding.Plus = record { pops_so = refl; pushes_so = refl; stays = refl }
adding_is c adding.Minus = record { pops_so = refl; pushes_so = refl; stays = refl }
adding_is c adding.Or = record { pops_so = refl; pushes_so = refl; stays = refl }

pub multiplying_is : (c : CodeLists) (m : Multiplying) → IsOperator c (multiplying_op m) 2
multiplying_is c multiplying.Times = record { pops_so = refl; pushes_so = refl; stays = refl }
multiplying_is c multiplying.Div = record { pops_so = refl; pushes_so = refl; stays = refl }
multiplying_is c multiplying.Mod = record { pops_so = refl; pushes_so = refl; stays = refl }
multiplying_is c multiplying.And = record { pops_so = refl; pushes_so = refl; stays = refl }

-- an operator of two operands, and one of one
pub binary_lifts : (c : CodeLists) (most : ℕ) (o : Op) (code : List Instr) (h k : ℕ) → IsOperator c o 2 → h + 1 ≤ most
    → Lift c (h + 1) most code (h + 1) k → Lift c (h + 1) most (bare o ∷ code) (h + 1 + 1) k
binary_lifts c most o code h k is low more =
    lift_step c (h + 1) most (bare o) code (h + 1 + 1) (h + 1) k (omega (arith, is.pops_so)) (omega (arith, is.pops_so, is.pushes_so))
    (omega arith) low is.stays more

pub unary_lifts : (c : CodeLists) (most : ℕ) (o : Op) (code : List Instr) (h k : ℕ) → IsOperator c o 1 → h + 1 ≤ most
    → Lift c (h + 1) most code (h + 1) k → Lift c (h + 1) most (bare o ∷ code) (h + 1) k
unary_lifts c most o code h k is low more =
    lift_step c (h + 1) most (bare o) code (h + 1) (h + 1) k (omega (arith, is.pops_so)) (omega (arith, is.pops_so, is.pushes_so))
    (omega arith) low is.stays more

pub sign_lifts : (c : CodeLists) (most : ℕ) (s : Option (Sign × ℕ)) (h : ℕ) → h + 1 ≤ most → Lift c (h + 1) most (sign_code s) (h + 1) (h + 1)
sign_lifts c most None h low = refl
sign_lifts c most (Some (sign.Plus, line)) h low = refl
sign_lifts c most (Some (sign.Minus, line)) h low =
    unary_lifts c most op.Neg [] h (h + 1) (record { pops_so = refl; pushes_so = refl; stays = refl }) low refl

-- ---- Words

pub push_lifts : (c : CodeLists) (most a h : ℕ) → h + 1 ≤ most → Lift c (h + 1) most (with_a op.Push a ∷ []) h (h + 1)
push_lifts c most a h low = lift_step c (h + 1) most (with_a op.Push a) [] h (h + 1) (h + 1) (omega arith) (omega arith) (omega arith) low refl refl

pub load_lifts : (c : CodeLists) (least most : ℕ) (o : Owner) (a : ℕ) (code : List Instr) (h k : ℕ) → least ≤ h + 1 → h + 1 ≤ most
    → Lift c least most code (h + 1) k → Lift c least most (load_word o a ∷ code) h k
load_lifts c least most OfProgram a code h k few low more =
    lift_step c least most (load_word OfProgram a) code h (h + 1) k (omega arith) (omega arith) few low refl more
load_lifts c least most OfRoutine a code h k few low more =
    lift_step c least most (load_word OfRoutine a) code h (h + 1) k (omega arith) (omega arith) few low refl more

pub refer_lifts : (c : CodeLists) (most : ℕ) (o : Owner) (a h : ℕ) → h + 2 ≤ most → Lift c (h + 1) most (refer o a ∷ []) h (h + 2)
refer_lifts c most OfProgram a h low =
    lift_step c (h + 1) most (refer OfProgram a) [] h (h + 2) (h + 2) (omega arith) (omega arith) (omega arith) low refl refl
refer_lifts c most OfRoutine a h low =
    lift_step c (h + 1) most (refer OfRoutine a) [] h (h + 2) (h + 2) (omega arith) (omega arith) (omega arith) low refl refl

pub reference_lifts : (c : CodeLists) (most : ℕ) (m : Sense) (h : ℕ) → IsScalar m → h + 2 ≤ most → Lift c (h + 1) most (reference_code m) h (h + 2)
reference_lifts c most (Variable o a) h is low = refer_lifts c most o a h low
reference_lifts c most (Reference a) h is low =
    load_lifts c (h + 1) most OfRoutine a (load_word OfRoutine (a + 1) ∷ []) h (h + 2) (omega arith) (omega (arith, low))
    (load_lifts c (h + 1) most OfRoutine (a + 1) [] (h + 1) (h + 2) (omega arith) (omega (arith, low)) (omega arith))
reference_lifts c most (Constant v) h is low = absurd is
reference_lifts c most (Array o a b) h is low = absurd is
reference_lifts c most (Routine j passing) h is low = absurd is
reference_lifts c most (Function f) h is low = absurd is
reference_lifts c most (Interface p) h is low = absurd is
reference_lifts c most Nothing h is low = absurd is

pub store_word_lifts : (c : CodeLists) (least most : ℕ) (o : Owner) (a h : ℕ) → least ≤ h → h ≤ most
    → Lift c least most (store_word o a ∷ []) (h + 1) h
store_word_lifts c least most OfProgram a h few low =
    lift_step c least most (store_word OfProgram a) [] (h + 1) h h (omega arith) (omega arith) few low refl refl
store_word_lifts c least most OfRoutine a h few low =
    lift_step c least most (store_word OfRoutine a) [] (h + 1) h h (omega arith) (omega arith) few low refl refl

pub store_lifts : (c : CodeLists) (least most result : ℕ) (inside : Bool) (m : Sense) (h : ℕ) → CanStore inside m → least ≤ h → h ≤ most
    → Lift c least most (store_code result m) (h + 1) h
store_lifts c least most result inside (Variable o a) h can few low = store_word_lifts c least most o a h few low
store_lifts c least most result inside (Routine j passing) h can few low = store_word_lifts c least most OfRoutine result h few low
store_lifts c least most result inside (Reference a) h can few low =
    lift_step c least most (with_a op.StoreR a) [] (h + 1) h h (omega arith) (omega arith) few low refl refl
store_lifts c least most result inside (Constant v) h can few low = absurd can
store_lifts c least most result inside (Array o a b) h can few low = absurd can
store_lifts c least most result inside (Function f) h can few low = absurd can
store_lifts c least most result inside (Interface p) h can few low = absurd can
store_lifts c least most result inside Nothing h can few low = absurd can

-- ---- Arrays

pub test_lifts : (c : CodeLists) (most : ℕ) (m : Sense) (h : ℕ) → CanIndex m → h + 1 ≤ most → Lift c (h + 1) most (test_code m) (h + 1) (h + 1)
test_lifts c most (Array o a b) h can low =
    lift_step c (h + 1) most (test_index b) [] (h + 1) (h + 1) (h + 1) (omega arith) (omega arith) (omega arith) low refl refl
test_lifts c most (Constant v) h can low = absurd can
test_lifts c most (Variable o a) h can low = absurd can
test_lifts c most (Reference a) h can low = absurd can
test_lifts c most (Routine j passing) h can low = absurd can
test_lifts c most (Function f) h can low = absurd can
test_lifts c most (Interface p) h can low = absurd can
test_lifts c most Nothing h can low = absurd can

pub load_element_lifts : (c : CodeLists) (most : ℕ) (o : Owner) (a size h : ℕ) → h + 1 ≤ most
    → Lift c (h + 1) most (load_element o a size ∷ []) (h + 1) (h + 1)
load_element_lifts c most OfProgram a size h low =
    lift_step c (h + 1) most (load_element OfProgram a size) [] (h + 1) (h + 1) (h + 1) (omega arith) (omega arith) (omega arith) low refl refl
load_element_lifts c most OfRoutine a size h low =
    lift_step c (h + 1) most (load_element OfRoutine a size) [] (h + 1) (h + 1) (h + 1) (omega arith) (omega arith) (omega arith) low refl refl

pub element_lifts : (c : CodeLists) (most : ℕ) (m : Sense) (h : ℕ) → CanIndex m → h + 1 ≤ most → Lift c (h + 1) most (element_code m) (h + 1) (h + 1)
element_lifts c most (Array o a b) h can low = load_element_lifts c most o a _ h low
element_lifts c most (Constant v) h can low = absurd can
element_lifts c most (Variable o a) h can low = absurd can
element_lifts c most (Reference a) h can low = absurd can
element_lifts c most (Routine j passing) h can low = absurd can
element_lifts c most (Function f) h can low = absurd can
element_lifts c most (Interface p) h can low = absurd can
element_lifts c most Nothing h can low = absurd can

pub store_array_lifts : (c : CodeLists) (least most : ℕ) (o : Owner) (a size h : ℕ) → least ≤ h → h ≤ most
    → Lift c least most (store_element o a size ∷ []) (h + 2) h
store_array_lifts c least most OfProgram a size h few low =
    lift_step c least most (store_element OfProgram a size) [] (h + 2) h h (omega arith) (omega arith) few low refl refl
store_array_lifts c least most OfRoutine a size h few low =
    lift_step c least most (store_element OfRoutine a size) [] (h + 2) h h (omega arith) (omega arith) few low refl refl

pub store_element_lifts : (c : CodeLists) (least most : ℕ) (m : Sense) (h : ℕ) → CanIndex m → least ≤ h → h ≤ most
    → Lift c least most (store_element_code m) (h + 2) h
store_element_lifts c least most (Array o a b) h can few low = store_array_lifts c least most o a _ h few low
store_element_lifts c least most (Constant v) h can few low = absurd can
store_element_lifts c least most (Variable o a) h can few low = absurd can
store_element_lifts c least most (Reference a) h can few low = absurd can
store_element_lifts c least most (Routine j passing) h can few low = absurd can
store_element_lifts c least most (Function f) h can few low = absurd can
store_element_lifts c least most (Interface p) h can few low = absurd can
store_element_lifts c least most Nothing h can few low = absurd can

-- ---- What is passed

-- a variable takes two words for a routine, and none for the interface
abbrev pub variable_words : Sense → ℕ
variable_words (Routine j passing) = 2
variable_words (Constant v) = 0
variable_words (Variable o a) = 0
variable_words (Array o a b) = 0
variable_words (Reference a) = 0
variable_words (Function f) = 0
variable_words (Interface p) = 0
variable_words Nothing = 0

-- the words of all arguments: a value takes one, an array none
abbrev pub words_passed : Sense → List Passing → ℕ
words_passed callee [] = 0
words_passed callee (ByValue ∷ more) = 1 + words_passed callee more
words_passed callee (ByVariable ∷ more) = variable_words callee + words_passed callee more
words_passed callee (ByArray ∷ more) = words_passed callee more

pub routine_passes : (j : ℕ) (of : List Passing) (passing : List Passing) → words_passed (Routine j of) passing ≡ passed_words passing
routine_passes j of [] = refl
routine_passes j of (ByValue ∷ more) = ap (λ n. 1 + n) (routine_passes j of more)
routine_passes j of (ByVariable ∷ more) = ap (λ n. 2 + n) (routine_passes j of more)
routine_passes j of (ByArray ∷ more) = routine_passes j of more

pub variable_lifts : (c : CodeLists) (most : ℕ) (callee given : Sense) (h : ℕ) → IsScalar given → h + variable_words callee ≤ most
    → Lift c (h + 1) most (variable_code callee given) h (h + variable_words callee)
variable_lifts c most (Routine j passing) given h is low = reference_lifts c most given h is low
variable_lifts c most (Constant v) given h is low = omega arith
variable_lifts c most (Variable o a) given h is low = omega arith
variable_lifts c most (Array o a b) given h is low = omega arith
variable_lifts c most (Reference a) given h is low = omega arith
variable_lifts c most (Function f) given h is low = omega arith
variable_lifts c most (Interface p) given h is low = omega arith
variable_lifts c most Nothing given h is low = omega arith

-- ---- Calls

abbrev pub AreScalar : List Sense → Type 0
AreScalar [] = Unit {0}
AreScalar (s ∷ more) = IsScalar s × AreScalar more

-- the variables among the arguments are scalar, and as many as are passed so
pub record AreVariables (passing : List Passing) (given : List Sense) : Type 0 where
  pub scalar : AreScalar (variables_among passing given)
  pub as_many : length (variables_among passing given) ≡ variable_count passing

pub one_among : (callee : Sense) (p : Passing) (s : Sense) (suits : Type 0) (others : List Passing) (given : List Sense) → CanPass callee p s suits
    → AreVariables others given → AreVariables (p ∷ others) (s ∷ given)
one_among callee ByValue s suits others given can more = record { scalar = more.scalar; as_many = more.as_many }
one_among callee ByVariable s suits others given can more = record { scalar = (can.1, more.scalar); as_many = omega (arith, more.as_many) }
one_among callee ByArray s suits others given can more = record { scalar = more.scalar; as_many = more.as_many }

pub exprs_among : (rs : Routines) (site : Site) (callee : Sense) (passing : List Passing) (e : Exprs) → SuitsExprs rs site.names callee passing e
    → AreVariables passing (given_exprs site e)
exprs_among rs site callee [] no_expr suits = record { scalar = tt; as_many = refl }
exprs_among rs site callee (p ∷ others) no_expr suits = absurd suits
exprs_among rs site callee [] (next_expr comma e more) suits = absurd suits
exprs_among rs site callee (p ∷ others) (next_expr comma e more) suits =
    one_among callee p (site.names (name_in e)) (SuitsExpr rs site.names e) others (given_exprs site more) suits.0
    (exprs_among rs site callee others more suits.1)

pub arguments_among : (rs : Routines) (site : Site) (callee : Sense) (passing : List Passing) (a : Arguments) → SuitsArguments rs site.names callee passing a
    → AreVariables passing (given_arguments site a)
arguments_among rs site callee [] (arguments opening e more closing) suits = absurd suits
arguments_among rs site callee (p ∷ others) (arguments opening e more closing) suits =
    one_among callee p (site.names (name_in e)) (SuitsExpr rs site.names e) others (given_exprs site more) suits.0
    (exprs_among rs site callee others more suits.1)

pub none_among : (passing : List Passing) → passing ≡ [] → AreVariables passing []
none_among [] is = record { scalar = tt; as_many = refl }
none_among (p ∷ others) is = absurd (omega (arith, ap (λ (l : List Passing). length l) is))

pub scalar_stored : (c : CodeLists) (least most result : ℕ) (m : Sense) (h : ℕ) → IsScalar m → least ≤ h → h ≤ most
    → Lift c least most (store_code result m) (h + 1) h
scalar_stored c least most result (Variable o a) h is few low = store_word_lifts c least most o a h few low
scalar_stored c least most result (Reference a) h is few low = store_lifts c least most result true (Reference a) h tt few low
scalar_stored c least most result (Constant v) h is few low = absurd is
scalar_stored c least most result (Array o a b) h is few low = absurd is
scalar_stored c least most result (Routine j passing) h is few low = absurd is
scalar_stored c least most result (Function f) h is few low = absurd is
scalar_stored c least most result (Interface p) h is few low = absurd is
scalar_stored c least most result Nothing h is few low = absurd is

-- the results of a row go into its variables, one by one
pub stores_lift : (c : CodeLists) (least most result : ℕ) (l : List Sense) (h : ℕ) → AreScalar l → least ≤ h → h + length l ≤ most
    → Lift c least most (stores_code result l) (h + length l) h
stores_lift c least most result [] h are few low = omega arith
stores_lift c least most result (s ∷ later) h are few low =
    lifts c least most (stores_code result later) (store_code result s) (h + length (s ∷ later)) (h + 1) h
    (lift_moved c least most (stores_code result later) (h + 1 + length later) (h + 1) (h + length (s ∷ later)) (h + 1) (omega arith) refl
    (stores_lift c least most result later (h + 1) are.1 (omega (arith, few)) (omega (arith, low))))
    (scalar_stored c least most result s h are.0 few (omega (arith, low)))

pub row_values : (p : Procedure) → values_of (row_number p) ≡ words_passed (Interface p) (row_passing p)
row_values row.Read = refl
row_values row.Write = refl
row_values row.WriteInt = refl
row_values row.Accept = refl
row_values row.Display = refl
row_values row.Open = refl
row_values row.Close = refl
row_values row.Get = refl
row_values row.Put = refl
row_values row.Length = refl
row_values row.Lookup = refl
row_values row.ReadArg = refl
row_values row.WriteArg = refl
row_values row.Run = refl

pub row_results : (p : Procedure) → results_of (row_number p) ≡ (call_row_of p).results
row_results row.Read = refl
row_results row.Write = refl
row_results row.WriteInt = refl
row_results row.Accept = refl
row_results row.Display = refl
row_results row.Open = refl
row_results row.Close = refl
row_results row.Get = refl
row_results row.Put = refl
row_results row.Length = refl
row_results row.Lookup = refl
row_results row.ReadArg = refl
row_results row.WriteArg = refl
row_results row.Run = refl

pub row_few : (p : Procedure) → (words_passed (Interface p) (row_passing p) ≤ 2) × ((call_row_of p).results ≤ 2)
row_few row.Read = (omega arith, omega arith)
row_few row.Write = (omega arith, omega arith)
row_few row.WriteInt = (omega arith, omega arith)
row_few row.Accept = (omega arith, omega arith)
row_few row.Display = (omega arith, omega arith)
row_few row.Open = (omega arith, omega arith)
row_few row.Close = (omega arith, omega arith)
row_few row.Get = (omega arith, omega arith)
row_few row.Put = (omega arith, omega arith)
row_few row.Length = (omega arith, omega arith)
row_few row.Lookup = (omega arith, omega arith)
row_few row.ReadArg = (omega arith, omega arith)
row_few row.WriteArg = (omega arith, omega arith)
row_few row.Run = (omega arith, omega arith)

-- the call of a row, whatever its array is
pub record IsRowCall (c : CodeLists) (p : Procedure) (i : Instr) : Type 0 where
  pub pops_so : pops c i.op i.a ≡ values_of (row_number p)
  pub pushes_so : pushes c i.op i.a ≡ results_of (row_number p)
  pub stays : leaves_nothing i.op ≡ false

pub row_is : (c : CodeLists) (p : Procedure) (l : List Sense) → IsRowCall c p (row_call p l)
row_is c p [] = record { pops_so = refl; pushes_so = refl; stays = refl }
row_is c p (Array OfProgram a b ∷ l) = record { pops_so = refl; pushes_so = refl; stays = refl }
row_is c p (Array OfRoutine a b ∷ l) = record { pops_so = refl; pushes_so = refl; stays = refl }
row_is c p (Constant v ∷ l) = record { pops_so = refl; pushes_so = refl; stays = refl }
row_is c p (Variable o a ∷ l) = record { pops_so = refl; pushes_so = refl; stays = refl }
row_is c p (Reference a ∷ l) = record { pops_so = refl; pushes_so = refl; stays = refl }
row_is c p (Routine j passing ∷ l) = record { pops_so = refl; pushes_so = refl; stays = refl }
row_is c p (Function f ∷ l) = record { pops_so = refl; pushes_so = refl; stays = refl }
row_is c p (Interface q ∷ l) = record { pops_so = refl; pushes_so = refl; stays = refl }
row_is c p (Nothing ∷ l) = record { pops_so = refl; pushes_so = refl; stays = refl }

-- what a row gives, and what it sets
pub row_gives : (rs : Routines) (p : Procedure) (gives : Bool) → CanCall rs gives (Interface p)
    → results_of (row_number p) ≡ mark gives + variable_count (row_passing p)
row_gives rs p true can = omega (arith, row_results p, can.0, can.1)
row_gives rs p false can = omega (arith, row_results p, can)

pub row_lifts : (c : CodeLists) (most : ℕ) (rs : Routines) (result : ℕ) (p : Procedure) (given : List Sense) (gives : Bool) (h : ℕ)
    → CanCall rs gives (Interface p) → AreVariables (row_passing p) given → h + 2 ≤ most
    → Lift c (h + mark gives) most (call_code result (Interface p) given) (h + words_passed (Interface p) (row_passing p)) (h + mark gives)
row_lifts c most rs result p given gives h can are low =
    let variables = variables_among (row_passing p) given in
    let i = row_call p (arrays_among (row_passing p) given) in
    let is : IsRowCall c p i = row_is c p (arrays_among (row_passing p) given) in
    let all : results_of (row_number p) ≡ mark gives + variable_count (row_passing p) = row_gives rs p gives can in
    let few = row_few p in
    let fits : h + mark gives + length variables ≤ most = omega (arith, all, are.as_many, row_results p, few.1, low) in
    lift_step c (h + mark gives) most i (stores_code result variables) (h + words_passed (Interface p) (row_passing p)) (h + mark gives + length variables)
    (h + mark gives) (omega (arith, is.pops_so, row_values p)) (omega (arith, is.pops_so, is.pushes_so, row_values p, all, are.as_many))
    (omega arith) fits is.stays (stores_lift c (h + mark gives) most result variables (h + mark gives) are.scalar (omega arith) fits)

pub standard_lifts : (c : CodeLists) (most : ℕ) (f : Standard) (h : ℕ) → h + 1 ≤ most → Lift c (h + 1) most (standard_code f) (h + 1) (h + 1)
standard_lifts c most Abs h low = unary_lifts c most op.Abs [] h (h + 1) (record { pops_so = refl; pushes_so = refl; stays = refl }) low refl
standard_lifts c most Succ h low = unary_lifts c most op.Succ [] h (h + 1) (record { pops_so = refl; pushes_so = refl; stays = refl }) low refl
standard_lifts c most Pred h low = unary_lifts c most op.Pred [] h (h + 1) (record { pops_so = refl; pushes_so = refl; stays = refl }) low refl
standard_lifts c most Ord h low = refl
standard_lifts c most Chr h low = unary_lifts c most op.Chr [] h (h + 1) (record { pops_so = refl; pushes_so = refl; stays = refl }) low refl
