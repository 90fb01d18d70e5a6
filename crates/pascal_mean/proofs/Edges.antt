-- Each result at each kind of place, loops at their edges, and what names mean, by computing alone.
use Rattle.std.proofs.Common.{◌≡◌, ℕ, List, [], ◌∷◌, Some, pos, negsuc, refl}
use Rattle.std.specs.Prelude.{codes, replicate}
use Rattle.solo_base.specs.declared.outcome.ProgResult.TheVariants as result
use Rattle.solo_base.specs.declared.system_call.SysCall.TheVariants as calls
use Rattle.solo_base.specs.declared.system_call.SysReply.TheVariants as replies
use Rattle.solo_base.specs.RunOutcome.{RunOutcome, Ends}
use Rattle.pascal_tree.specs.declared.constant.Constant.TheVariants as constant
use Rattle.pascal_tree.specs.declared.declaration.Kind.{Kind}
use Rattle.pascal_tree.specs.declared.declaration.Kind.TheVariants as kind
use Rattle.pascal_tree.specs.declared.expression.Adding.TheVariants as adding
use Rattle.pascal_tree.specs.declared.expression.Multiplying.TheVariants as multiplying
use Rattle.pascal_tree.specs.declared.expression.Relation.TheVariants as relation
use Rattle.pascal_tree.specs.declared.expression.Sign.TheVariants as sign
use Rattle.pascal_tree.specs.declared.statement.Direction.TheVariants as direction
use Rattle.pascal_tree.specs.Expression.{Expr, alone, simple, no_addend, term, no_multiplier}
use Rattle.pascal_tree.specs.Statement.{Statement, empty, if_then, if_else, while_do, repeat_until, for_do, case_of, branch, no_branch}
use Rattle.pascal_tree.specs.Program.{Program, Routine, Consts}
use Rattle.pascal_mean.specs.Meaning.{meaning, meaning_with}
use Rattle.pascal_mean.proofs.Trees.{at, num, name, only, in_parentheses, adds, multiplies, compares, apply, item, all_of, set, set_item, do_call, print, labels, integer, array, of_kind, by_value, by_name, a_procedure, a_function, a_program}

abbrev i : List ℕ
i = codes "I"

abbrev n : List ℕ
n = codes "N"

-- a program with the variables I, N and A (array 1 to 3)
abbrev with_variables : List Routine → List Statement → Program
with_variables routines statements =
    a_program (of_kind i (n ∷ []) integer ∷ of_kind (codes "A") [] (array 1 3) ∷ []) routines statements

abbrev outcome_in : ℕ → List Statement → RunOutcome
outcome_in limit statements = meaning (with_variables [] statements) limit (replicate 4 replies.Done)

abbrev outcome_with : List Routine → List Statement → RunOutcome
outcome_with routines statements = meaning (with_variables routines statements) 1000 (replicate 4 replies.Done)

abbrev minus : ℕ → Expr
minus v = alone (simple (Some (sign.Minus, 1)) (term (num v) no_multiplier) no_addend)

abbrev one : Expr
one = only (num 1)

-- 1 DIV 0
abbrev fails : Expr
fails = multiplies (num 1) multiplying.Div (num 0)

-- TRUE and FALSE
abbrev yes : Expr
yes = only (name (codes "TRUE"))

abbrev never : Expr
never = only (name (codes "FALSE"))

-- ---- An overflow in each place for an expression

abbrev OverflowsAt : ℕ → ℕ → Statement → Type 0
OverflowsAt line ticks s = outcome_in 1000 (s ∷ []) ≡ Ends result.Overflow line ticks []

in_an_assignment : OverflowsAt 2 1 (set 2 n fails)
unfolding meaning meaning_with
in_an_assignment = refl

in_an_index : OverflowsAt 2 1 (set 2 n (only (item (codes "A") fails)))
unfolding meaning meaning_with
in_an_index = refl

in_an_index_on_the_left : OverflowsAt 2 1 (set_item 2 (codes "A") fails one)
unfolding meaning meaning_with
in_an_index_on_the_left = refl

in_an_argument : OverflowsAt 2 1 (print 2 fails)
unfolding meaning meaning_with
in_an_argument = refl

in_a_standard_function : OverflowsAt 2 1 (print 2 (only (apply (codes "ABS") fails [])))
unfolding meaning meaning_with
in_a_standard_function = refl

in_an_if : OverflowsAt 2 1 (if_then 2 fails 2 empty)
unfolding meaning meaning_with
in_an_if = refl

in_a_while : OverflowsAt 2 2 (while_do 2 fails 2 empty)
unfolding meaning meaning_with
in_a_while = refl

in_an_until : OverflowsAt 2 2 (repeat_until 2 (all_of empty []) 3 fails)
unfolding meaning meaning_with
in_an_until = refl

in_a_first_bound : OverflowsAt 2 1 (for_do 2 (at 2 i) 2 fails direction.To 2 one 2 empty)
unfolding meaning meaning_with
in_a_first_bound = refl

in_a_last_bound : OverflowsAt 2 1 (for_do 2 (at 2 i) 2 one direction.To 2 fails 2 empty)
unfolding meaning meaning_with
in_a_last_bound = refl

in_a_selector : OverflowsAt 2 1 (case_of 2 fails 2 (branch (labels 1 []) 2 empty) no_branch 2)
unfolding meaning meaning_with
in_a_selector = refl

-- ---- The time limit at each kind of tick

no_time_for_a_statement : outcome_in 0 (set 2 n one ∷ []) ≡ Ends result.TimeLimit 2 0 []
unfolding meaning meaning_with
no_time_for_a_statement = refl

no_time_for_a_test : outcome_in 1 (while_do 2 yes 2 empty ∷ []) ≡ Ends result.TimeLimit 2 1 []
unfolding meaning meaning_with
no_time_for_a_test = refl

no_time_for_a_test_of_repeat : outcome_in 2 (repeat_until 2 (all_of (set 3 n one) []) 4 never ∷ []) ≡ Ends result.TimeLimit 2 2 []
unfolding meaning meaning_with
no_time_for_a_test_of_repeat = refl

no_time_for_a_turn : outcome_in 2 (for_do 2 (at 2 i) 2 one direction.To 2 (only (num 9)) 2 empty ∷ []) ≡ Ends result.TimeLimit 2 2 []
unfolding meaning meaning_with
no_time_for_a_turn = refl

-- all ticks may be taken, and a program without statements needs none
just_enough_time : outcome_in 1 (set 2 n one ∷ []) ≡ Ends result.Terminated 2 1 []
unfolding meaning meaning_with
just_enough_time = refl

no_time_is_needed : outcome_in 0 (empty ∷ []) ≡ Ends result.Terminated 0 0 []
unfolding meaning meaning_with
no_time_is_needed = refl

-- ---- Control

a_while_without_a_turn : outcome_in 1000 (while_do 2 never 2 (set 3 n one) ∷ []) ≡ Ends result.Terminated 2 2 []
unfolding meaning meaning_with
a_while_without_a_turn = refl

a_repeat_has_a_turn : outcome_in 1000 (repeat_until 2 (all_of (set 3 n one) []) 4 yes ∷ print 5 (only (name n)) ∷ [])
    ≡ Ends result.Terminated 5 4 (calls.WriteInt (pos 1) ∷ [])
unfolding meaning meaning_with
a_repeat_has_a_turn = refl

the_other_way : outcome_in 1000 (if_else 2 never 2 (print 3 one) 4 (print 5 (only (num 2))) ∷ if_then 6 never 6 (print 7 one) ∷ [])
    ≡ Ends result.Terminated 6 3 (calls.WriteInt (pos 2) ∷ [])
unfolding meaning meaning_with
the_other_way = refl

-- FOR I := -32767 DOWNTO -32767 - 1
down_to_the_least_number : outcome_in 1000
    (for_do 2 (at 2 i) 2 (minus 32767) direction.Downto 2 (adds (in_parentheses (minus 32767)) adding.Minus (num 1)) 2 (print 3 (only (name i))) ∷ [])
    ≡ Ends result.Terminated 3 5 (calls.WriteInt (negsuc 32766) ∷ calls.WriteInt (negsuc 32767) ∷ [])
unfolding meaning meaning_with
down_to_the_least_number = refl

no_turn_downwards : outcome_in 1000 (for_do 2 (at 2 i) 2 one direction.Downto 2 (only (num 2)) 2 (print 3 one) ∷ print 4 (only (name i)) ∷ [])
    ≡ Ends result.Terminated 4 2 (calls.WriteInt (pos 0) ∷ [])
unfolding meaning meaning_with
no_turn_downwards = refl

-- one variable for two loops, one in the other: the outer one counts on
nested_loops : outcome_in 1000
    (for_do 2 (at 2 i) 2 one direction.To 2 (only (num 2)) 2
    (for_do 3 (at 3 i) 3 (only (num 5)) direction.To 3 (only (num 6)) 3 (print 4 (only (name i)))) ∷ [])
    ≡ Ends result.Terminated 4 13 (calls.WriteInt (pos 5) ∷ calls.WriteInt (pos 6) ∷ calls.WriteInt (pos 5) ∷ calls.WriteInt (pos 6) ∷ [])
unfolding meaning meaning_with
nested_loops = refl

-- a loop that counts by a VAR parameter
a_loop_over_a_reference : outcome_with
    (a_procedure (codes "P") (by_name (codes "V") [] ∷ []) []
    (for_do 1 (at 1 (codes "V")) 1 one direction.To 1 (only (num 2)) 1 (print 1 (only (name n))) ∷ []) ∷ [])
    (do_call 2 (codes "P") (only (name n) ∷ []) ∷ print 3 (only (name n)) ∷ [])
    ≡ Ends result.Terminated 3 7 (calls.WriteInt (pos 1) ∷ calls.WriteInt (pos 2) ∷ calls.WriteInt (pos 2) ∷ [])
unfolding meaning meaning_with
a_loop_over_a_reference = refl

-- ---- Activations

-- R(V, D): V := V * 10 + D; IF D > 1 THEN R(V, D - 1): each V is the program's N
one_variable_down_the_recursion : outcome_with
    (a_procedure (codes "R") (by_name (codes "V") [] ∷ by_value (codes "D") ∷ []) []
    (set 1 (codes "V") (adds (in_parentheses (multiplies (name (codes "V")) multiplying.Times (num 10))) adding.Plus (name (codes "D")))
    ∷ if_then 1 (compares (name (codes "D")) relation.Greater (num 1)) 1
    (do_call 1 (codes "R") (only (name (codes "V")) ∷ adds (name (codes "D")) adding.Minus (num 1) ∷ [])) ∷ []) ∷ [])
    (do_call 2 (codes "R") (only (name n) ∷ only (num 3) ∷ []) ∷ print 3 (only (name n)) ∷ [])
    ≡ Ends result.Terminated 3 10 (calls.WriteInt (pos 321) ∷ [])
unfolding meaning meaning_with
one_variable_down_the_recursion = refl

-- S(V, D): L := D; IF D > 0 THEN S(L, D - 1) ELSE V := 9; WRITEINT(L): the inner call sets the outer one's L, not its own
a_variable_of_an_outer_activation : outcome_with
    (a_procedure (codes "S") (by_name (codes "V") [] ∷ by_value (codes "D") ∷ []) (of_kind (codes "L") [] integer ∷ [])
    (set 1 (codes "L") (only (name (codes "D")))
    ∷ if_else 1 (compares (name (codes "D")) relation.Greater (num 0)) 1
    (do_call 1 (codes "S") (only (name (codes "L")) ∷ adds (name (codes "D")) adding.Minus (num 1) ∷ [])) 1
    (set 1 (codes "V") (only (num 9)))
    ∷ print 1 (only (name (codes "L"))) ∷ []) ∷ [])
    (do_call 2 (codes "S") (only (name n) ∷ one ∷ []) ∷ [])
    ≡ Ends result.Terminated 2 9 (calls.WriteInt (pos 0) ∷ calls.WriteInt (pos 9) ∷ [])
unfolding meaning meaning_with
a_variable_of_an_outer_activation = refl

-- the elements of a routine's array are 0 at each call
arrays_start_as_zero : outcome_with
    (a_procedure (codes "P") [] (of_kind (codes "A") [] (array 1 2) ∷ [])
    (print 1 (only (item (codes "A") one)) ∷ set_item 1 (codes "A") one (only (num 5)) ∷ []) ∷ [])
    (do_call 2 (codes "P") [] ∷ do_call 3 (codes "P") [] ∷ print 4 (only (item (codes "A") one)) ∷ [])
    ≡ Ends result.Terminated 4 7 (calls.WriteInt (pos 0) ∷ calls.WriteInt (pos 0) ∷ calls.WriteInt (pos 0) ∷ [])
unfolding meaning meaning_with
arrays_start_as_zero = refl

-- FACT: IF X > 1 THEN FACT := X * FACT(X - 1) ELSE FACT := 1
a_recursive_function : outcome_with
    (a_function (codes "FACT") (by_value (codes "X") ∷ []) []
    (if_else 1 (compares (name (codes "X")) relation.Greater (num 1)) 1
    (set 1 (codes "FACT") (multiplies (name (codes "X")) multiplying.Times (apply (codes "FACT") (adds (name (codes "X")) adding.Minus (num 1)) []))) 1
    (set 1 (codes "FACT") one) ∷ []) ∷ [])
    (print 2 (only (apply (codes "FACT") (only (num 7)) [])) ∷ print 3 (only (apply (codes "FACT") (only (num 8)) [])) ∷ [])
    ≡ Ends result.Overflow 1 32 (calls.WriteInt (pos 5040) ∷ [])
unfolding meaning meaning_with
a_recursive_function = refl

-- a function that calls itself without end, in an expression
a_stack_limit_in_an_expression : outcome_with (a_function (codes "F") [] [] (set 1 (codes "F") (adds (name (codes "F")) adding.Plus (num 1)) ∷ []) ∷ [])
    (print 2 (only (name (codes "F"))) ∷ [])
    ≡ Ends result.StackLimit 1 64 []
unfolding meaning meaning_with
a_stack_limit_in_an_expression = refl

-- ---- What names mean

-- FUNCTION F(F: INTEGER): the parameter hides the function, whose result stays 0
a_parameter_hides_its_function : outcome_with
    (a_function (codes "F") (by_value (codes "F") ∷ []) [] (set 1 (codes "F") (only (num 7)) ∷ print 1 (only (name (codes "F"))) ∷ []) ∷ [])
    (print 2 (only (apply (codes "F") one [])) ∷ [])
    ≡ Ends result.Terminated 2 3 (calls.WriteInt (pos 7) ∷ calls.WriteInt (pos 0) ∷ [])
unfolding meaning meaning_with
a_parameter_hides_its_function = refl

abbrev constants : Consts
constants = record {
  line = 1;
  first = record { name = at 1 n; equal = 1; value = constant.Negative 1 (record { value = 2; line = 1 }); semicolon = 1 };
  rest = record { name = at 1 (codes "M"); equal = 1; value = constant.Name (at 1 n); semicolon = 1 }
      ∷ record { name = at 1 (codes "L"); equal = 1; value = constant.Character (record { code = 65; line = 1 }); semicolon = 1 }
      ∷ record { name = at 1 (codes "TRUE"); equal = 1; value = constant.Name (at 1 (codes "FALSE")); semicolon = 1 } ∷ [];
}

-- CONST N = -2; M = N; L = 'A'; TRUE = FALSE
constants_of_the_program : meaning
    (record (a_program [] [] (print 1 (only (name (codes "M"))) ∷ do_call 2 (codes "WRITE") (only (name (codes "L")) ∷ []) ∷ if_then 3 yes 3 (print 4 one)
    ∷ [])) { consts = Some constants })
    1000 (replicate 4 replies.Done)
    ≡ Ends result.Terminated 3 3 (calls.WriteInt (negsuc 1) ∷ calls.Write 65 ∷ [])
unfolding meaning meaning_with
constants_of_the_program = refl

-- VAR N, M: ARRAY (.0..N.) OF INTEGER in a routine, with the program's constant N = 2
abbrev up_to_n : Kind
up_to_n = kind.Array 1 1 (constant.Number (record { value = 0; line = 1 })) 1 (constant.Name (at 1 n)) 1 1 (at 1 (codes "INTEGER"))

bounds_before_the_names : meaning
    (record (a_program []
    (a_procedure (codes "P") [] (of_kind n (codes "M" ∷ []) up_to_n ∷ [])
    (print 1 (only (item (codes "M") (only (num 2)))) ∷ print 2 (only (item (codes "M") (only (num 3)))) ∷ []) ∷ [])
    (do_call 3 (codes "P") [] ∷ [])) {
      consts = Some (record {
        line = 1;
        first = record { name = at 1 n; equal = 1; value = constant.Number (record { value = 2; line = 1 }); semicolon = 1 };
        rest = [];
      });
    })
    1000 (replicate 4 replies.Done)
    ≡ Ends result.RangeError 2 3 (calls.WriteInt (pos 0) ∷ [])
unfolding meaning meaning_with
bounds_before_the_names = refl
