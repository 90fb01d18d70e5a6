-- The sentences of the language, each with a program that shows it, by computing alone.
use Rattle.std.proofs.Common.{◌≡◌, ℕ, List, [], ◌∷◌, Some, pos, negsuc, refl}
use Rattle.std.specs.Prelude.{codes, replicate}
use Rattle.solo_base.specs.declared.outcome.ProgResult.TheVariants as result
use Rattle.solo_base.specs.declared.system_call.SysCall.TheVariants as calls
use Rattle.solo_base.specs.declared.system_call.SysReply.TheVariants as replies
use Rattle.solo_base.specs.RunOutcome.{RunOutcome, Ends}
use Rattle.pascal_tree.specs.declared.expression.Adding.TheVariants as adding
use Rattle.pascal_tree.specs.declared.expression.Multiplying.TheVariants as multiplying
use Rattle.pascal_tree.specs.declared.expression.Relation.TheVariants as relation
use Rattle.pascal_tree.specs.declared.expression.Sign.TheVariants as sign
use Rattle.pascal_tree.specs.declared.statement.Direction.TheVariants as direction
use Rattle.pascal_tree.specs.Expression.{Expr, alone, simple, addend, no_addend, term, no_multiplier}
use Rattle.pascal_tree.specs.Statement.{Statement, empty, if_then, while_do, repeat_until, for_do, compound}
use Rattle.pascal_tree.specs.Program.{Routine}
use Rattle.pascal_mean.specs.Meaning.{meaning, meaning_with}
use Rattle.pascal_mean.proofs.Trees.{at, num, char, name, only, in_parentheses, adds, multiplies, compares, apply, item, all_of, block_body, set, set_item, do_call, print, integer, array, of_kind, by_value, by_name, a_procedure, a_function, a_program}

-- what a program with the variables I, N and A (array 1 to 3) does with its calls done
abbrev outcome_with : List Routine → List Statement → RunOutcome
outcome_with routines statements =
    meaning (a_program (of_kind (codes "I") (codes "N" ∷ []) integer ∷ of_kind (codes "A") [] (array 1 3) ∷ []) routines statements)
    1000 (replicate 4 replies.Done)

abbrev n : List ℕ
n = codes "N"

abbrev minus : ℕ → Expr
minus v = alone (simple (Some (sign.Minus, 1)) (term (num v) no_multiplier) no_addend)

-- F: N := N * 10 + 1, and 1; G: N := N * 10 + 2, and 2
abbrev digit : List ℕ → ℕ → Routine
digit f d = a_function f [] [] (
    set 1 n (adds (in_parentheses (multiplies (name n) multiplying.Times (num 10))) adding.Plus (num d))
    ∷ set 1 f (only (num d)) ∷ [])

abbrev digits : List Routine
digits = digit (codes "F") 1 ∷ digit (codes "G") 2 ∷ []

-- a variable is 0 at first, and each has a value of its own
variables_start_as_zero : outcome_with [] (print 1 (only (name n)) ∷ []) ≡ Ends result.Terminated 1 1 (calls.WriteInt (pos 0) ∷ [])
unfolding meaning meaning_with
variables_start_as_zero = refl

-- a function whose result is never assigned gives 0, though another call of it gave 7 before
results_start_as_zero : outcome_with
    (a_function (codes "F") (by_value (codes "X") ∷ []) []
    (if_then 1 (compares (name (codes "X")) relation.Equal (num 1)) 1 (set 1 (codes "F") (only (num 7))) ∷ []) ∷ [])
    (print 2 (only (apply (codes "F") (only (num 1)) [])) ∷ print 3 (only (apply (codes "F") (only (num 0)) [])) ∷ [])
    ≡ Ends result.Terminated 3 5 (calls.WriteInt (pos 7) ∷ calls.WriteInt (pos 0) ∷ [])
unfolding meaning meaning_with
results_start_as_zero = refl

-- F + G: F goes first
operands_from_left_to_right : outcome_with digits
    (set 2 (codes "I") (adds (name (codes "F")) adding.Plus (name (codes "G"))) ∷ print 3 (only (name n)) ∷ [])
    ≡ Ends result.Terminated 3 6 (calls.WriteInt (pos 12) ∷ [])
unfolding meaning meaning_with
operands_from_left_to_right = refl

-- FALSE & (F = G): both operands are evaluated
both_operands_always : outcome_with digits
    (set 2 (codes "I") (multiplies (name (codes "FALSE")) multiplying.And
    (in_parentheses (compares (name (codes "F")) relation.Less (name (codes "G")))))
    ∷ print 3 (only (name n)) ∷ [])
    ≡ Ends result.Terminated 3 6 (calls.WriteInt (pos 12) ∷ [])
unfolding meaning meaning_with
both_operands_always = refl

division_goes_towards_zero : outcome_with []
    (print 1 (multiplies (in_parentheses (minus 7)) multiplying.Div (num 2))
    ∷ print 2 (multiplies (in_parentheses (minus 7)) multiplying.Mod (num 2))
    ∷ print 3 (multiplies (num 7) multiplying.Mod (in_parentheses (minus 2))) ∷ [])
    ≡ Ends result.Terminated 3 3 (calls.WriteInt (negsuc 2) ∷ calls.WriteInt (negsuc 0) ∷ calls.WriteInt (pos 1) ∷ [])
unfolding meaning meaning_with
division_goes_towards_zero = refl

a_zero_divisor_overflows : outcome_with [] (print 4 (multiplies (num 1) multiplying.Div (num 0)) ∷ []) ≡ Ends result.Overflow 4 1 []
unfolding meaning meaning_with
a_zero_divisor_overflows = refl

a_zero_divisor_of_mod_overflows : outcome_with [] (print 4 (multiplies (num 1) multiplying.Mod (num 0)) ∷ []) ≡ Ends result.Overflow 4 1 []
unfolding meaning meaning_with
a_zero_divisor_of_mod_overflows = refl

-- -(-32767 - 1) overflows, and (-32767 - 1) MOD -1 is 0
the_least_number : outcome_with []
    (set 1 n (adds (in_parentheses (minus 32767)) adding.Minus (num 1))
    ∷ print 2 (multiplies (name n) multiplying.Mod (in_parentheses (minus 1)))
    ∷ print 3 (alone (simple (Some (sign.Minus, 3)) (term (name n) no_multiplier) no_addend)) ∷ [])
    ≡ Ends result.Overflow 3 3 (calls.WriteInt (pos 0) ∷ [])
unfolding meaning meaning_with
the_least_number = refl

the_least_number_has_no_quotient : outcome_with []
    (set 1 n (adds (in_parentheses (minus 32767)) adding.Minus (num 1))
    ∷ print 2 (multiplies (name n) multiplying.Div (in_parentheses (minus 1))) ∷ [])
    ≡ Ends result.Overflow 2 2 []
unfolding meaning meaning_with
the_least_number_has_no_quotient = refl

-- -1 + 3 is 2: the sign is the first term's
a_sign_is_the_first_terms : outcome_with []
    (print 1 (alone (simple (Some (sign.Minus, 1)) (term (num 1) no_multiplier) (addend adding.Plus 1 (term (num 3) no_multiplier) no_addend))) ∷ [])
    ≡ Ends result.Terminated 1 1 (calls.WriteInt (pos 2) ∷ [])
unfolding meaning meaning_with
a_sign_is_the_first_terms = refl

successor_and_predecessor : outcome_with []
    (print 1 (only (apply (codes "PRED") (only (num 0)) [])) ∷ print 2 (only (apply (codes "ABS") (minus 5) []))
    ∷ print 3 (only (apply (codes "SUCC") (only (num 32767)) [])) ∷ [])
    ≡ Ends result.Overflow 3 3 (calls.WriteInt (negsuc 0) ∷ calls.WriteInt (pos 5) ∷ [])
unfolding meaning meaning_with
successor_and_predecessor = refl

a_character_has_a_code_to_127 : outcome_with []
    (do_call 1 (codes "WRITE") (only (apply (codes "CHR") (only (num 127)) []) ∷ [])
    ∷ do_call 2 (codes "WRITE") (only (apply (codes "CHR") (only (num 128)) []) ∷ []) ∷ [])
    ≡ Ends result.RangeError 2 2 (calls.Write 127 ∷ [])
unfolding meaning meaning_with
a_character_has_a_code_to_127 = refl

elements_at_both_bounds : outcome_with []
    (set_item 1 (codes "A") (only (num 1)) (only (num 5)) ∷ set_item 1 (codes "A") (only (num 3)) (only (num 6))
    ∷ print 2 (adds (item (codes "A") (only (num 1))) adding.Plus (item (codes "A") (only (num 3))))
    ∷ print 3 (only (item (codes "A") (only (num 4)))) ∷ [])
    ≡ Ends result.RangeError 3 4 (calls.WriteInt (pos 11) ∷ [])
unfolding meaning meaning_with
elements_at_both_bounds = refl

-- A(.4.) := 1 DIV 0: the index is tested before the value is evaluated
the_index_is_tested_first : outcome_with []
    (set_item 2 (codes "A") (only (num 4)) (multiplies (num 1) multiplying.Div (num 0)) ∷ [])
    ≡ Ends result.RangeError 2 1 []
unfolding meaning meaning_with
the_index_is_tested_first = refl

-- compound and empty statements take no tick
only_other_statements_take_ticks : outcome_with [] (empty ∷ compound (block_body (empty ∷ empty ∷ [])) ∷ []) ≡ Ends result.Terminated 0 0 []
unfolding meaning meaning_with
only_other_statements_take_ticks = refl

-- WHILE I < 2 DO I := I + 1: the statement, three tests and two assignments
a_while_takes_a_tick_for_each_test : outcome_with []
    (while_do 1 (compares (name (codes "I")) relation.Less (num 2)) 1 (set 2 (codes "I") (adds (name (codes "I")) adding.Plus (num 1))) ∷ [])
    ≡ Ends result.Terminated 1 6 []
unfolding meaning meaning_with
a_while_takes_a_tick_for_each_test = refl

-- REPEAT I := I + 1 UNTIL I = 2: the statement, two assignments and two tests
a_repeat_takes_a_tick_for_each_test : outcome_with []
    (repeat_until 1 (all_of (set 2 (codes "I") (adds (name (codes "I")) adding.Plus (num 1))) []) 3 (compares (name (codes "I")) relation.Equal (num 2)) ∷ [])
    ≡ Ends result.Terminated 1 5 []
unfolding meaning meaning_with
a_repeat_takes_a_tick_for_each_test = refl

-- a turn that sets the control variable changes no turn to come
a_counter_of_its_own : outcome_with []
    (for_do 1 (at 1 (codes "I")) 1 (only (num 1)) direction.To 1 (only (num 2)) 1
    (compound (block_body (print 2 (only (name (codes "I"))) ∷ set 3 (codes "I") (only (num 9)) ∷ [])))
    ∷ print 4 (only (name (codes "I"))) ∷ [])
    ≡ Ends result.Terminated 4 8 (calls.WriteInt (pos 1) ∷ calls.WriteInt (pos 2) ∷ calls.WriteInt (pos 9) ∷ [])
unfolding meaning meaning_with
a_counter_of_its_own = refl

-- I := 5; FOR I := 2 TO 1 DO N := 1: no turn, one tick, and I stays
no_turn_leaves_the_variable : outcome_with []
    (set 1 (codes "I") (only (num 5))
    ∷ for_do 2 (at 2 (codes "I")) 2 (only (num 2)) direction.To 2 (only (num 1)) 2 (set 2 n (only (num 1)))
    ∷ print 3 (only (name (codes "I"))) ∷ [])
    ≡ Ends result.Terminated 3 3 (calls.WriteInt (pos 5) ∷ [])
unfolding meaning meaning_with
no_turn_leaves_the_variable = refl

-- FOR I := 3 TO 3 has one turn
a_loop_of_one_turn : outcome_with []
    (for_do 1 (at 1 (codes "I")) 1 (only (num 3)) direction.To 1 (only (num 3)) 1 (print 2 (only (name (codes "I")))) ∷ [])
    ≡ Ends result.Terminated 2 3 (calls.WriteInt (pos 3) ∷ [])
unfolding meaning meaning_with
a_loop_of_one_turn = refl

-- the last value is the greatest number, and the counter never passes it
up_to_the_greatest_number : outcome_with []
    (for_do 1 (at 1 (codes "I")) 1 (only (num 32766)) direction.To 1 (only (num 32767)) 1 (print 2 (only (name (codes "I")))) ∷ [])
    ≡ Ends result.Terminated 2 5 (calls.WriteInt (pos 32766) ∷ calls.WriteInt (pos 32767) ∷ [])
unfolding meaning meaning_with
up_to_the_greatest_number = refl

down_to : outcome_with []
    (for_do 1 (at 1 (codes "I")) 1 (only (num 1)) direction.Downto 1 (minus 1) 1 (print 2 (only (name (codes "I")))) ∷ [])
    ≡ Ends result.Terminated 2 7 (calls.WriteInt (pos 1) ∷ calls.WriteInt (pos 0) ∷ calls.WriteInt (negsuc 0) ∷ [])
unfolding meaning meaning_with
down_to = refl

-- FOR I := F TO G: each bound once
bounds_once : outcome_with digits
    (for_do 2 (at 2 (codes "I")) 2 (only (name (codes "F"))) direction.To 2 (only (name (codes "G"))) 2 empty ∷ print 3 (only (name n)) ∷ [])
    ≡ Ends result.Terminated 3 8 (calls.WriteInt (pos 12) ∷ [])
unfolding meaning meaning_with
bounds_once = refl

-- P calls itself, from line 1: the call made while 64 activations are open ends the program
recursion_is_limited : outcome_with (a_procedure (codes "P") [] [] (do_call 1 (codes "P") [] ∷ []) ∷ []) (do_call 2 (codes "P") [] ∷ [])
    ≡ Ends result.StackLimit 1 64 []
unfolding meaning meaning_with
recursion_is_limited = refl

-- Q calls Q until X is 0: with X = 62 there are 64 activations, and no more
sixty_four_activations : outcome_with
    (a_procedure (codes "Q") (by_value (codes "X") ∷ []) []
    (if_then 1 (compares (name (codes "X")) relation.Greater (num 0)) 1
    (do_call 1 (codes "Q") (adds (name (codes "X")) adding.Minus (num 1) ∷ [])) ∷ []) ∷ [])
    (do_call 2 (codes "Q") (only (num 62) ∷ []) ∷ do_call 3 (codes "Q") (only (num 63) ∷ []) ∷ [])
    ≡ Ends result.StackLimit 1 253 []
unfolding meaning meaning_with
sixty_four_activations = refl

-- the arguments are evaluated before the call is refused
arguments_before_the_stack_limit : outcome_with
    (a_procedure (codes "Q") (by_value (codes "X") ∷ []) []
    (set 1 n (adds (name n) adding.Plus (num 1))
    ∷ do_call 1 (codes "Q") (multiplies (num 1) multiplying.Div (in_parentheses (adds (num 63) adding.Minus (name n))) ∷ []) ∷ []) ∷ [])
    (do_call 2 (codes "Q") (only (num 1) ∷ []) ∷ [])
    ≡ Ends result.Overflow 1 127 []
unfolding meaning meaning_with
arguments_before_the_stack_limit = refl

-- after a call the line is again the caller's
the_line_is_the_callers_again : outcome_with digits
    (print 7 (multiplies (name (codes "F")) multiplying.Div (num 0)) ∷ [])
    ≡ Ends result.Overflow 7 3 []
unfolding meaning meaning_with
the_line_is_the_callers_again = refl

-- what the program wrote before its end stays
what_was_written_stays : outcome_with [] (print 1 (only (num 1)) ∷ print 2 (adds (num 32767) adding.Plus (num 1)) ∷ print 3 (only (num 3)) ∷ [])
    ≡ Ends result.Overflow 2 2 (calls.WriteInt (pos 1) ∷ [])
unfolding meaning meaning_with
what_was_written_stays = refl

-- a VAR parameter of a VAR parameter, and of a variable of an earlier activation
references_through_activations : outcome_with
    (a_procedure (codes "S") (by_name (codes "X") [] ∷ []) [] (set 1 (codes "X") (adds (name (codes "X")) adding.Plus (num 1)) ∷ [])
    ∷ a_procedure (codes "T") (by_name (codes "Y") [] ∷ []) (of_kind (codes "N") [] integer ∷ [])
    (do_call 2 (codes "S") (only (name (codes "Y")) ∷ []) ∷ do_call 3 (codes "S") (only (name n) ∷ []) ∷ print 4 (only (name n)) ∷ []) ∷ [])
    (do_call 5 (codes "T") (only (name (codes "I")) ∷ []) ∷ print 6 (only (name (codes "I"))) ∷ [])
    ≡ Ends result.Terminated 6 7 (calls.WriteInt (pos 1) ∷ calls.WriteInt (pos 1) ∷ [])
unfolding meaning meaning_with
references_through_activations = refl

-- a routine sees the names that were declared up to its own heading: WRITE here is the predeclared one
a_later_name_is_not_seen : outcome_with
    (a_procedure (codes "P") [] [] (do_call 1 (codes "WRITE") (only (char 65) ∷ []) ∷ [])
    ∷ a_procedure (codes "WRITE") (by_value (codes "C") ∷ []) [] [] ∷ [])
    (do_call 2 (codes "P") [] ∷ do_call 3 (codes "WRITE") (only (char 66) ∷ []) ∷ [])
    ≡ Ends result.Terminated 3 3 (calls.Write 65 ∷ [])
unfolding meaning meaning_with
a_later_name_is_not_seen = refl

-- CallError ends the program at the call
a_refused_call_ends_the_program : meaning (a_program [] [] (print 1 (only (num 1)) ∷ print 2 (only (num 2)) ∷ [])) 1000 (replies.CallError ∷ [])
    ≡ Ends result.CallError 1 1 (calls.WriteInt (pos 1) ∷ [])
unfolding meaning meaning_with
a_refused_call_ends_the_program = refl
