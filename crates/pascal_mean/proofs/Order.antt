-- The order in which things are done, made visible by functions that leave a trace, by computing alone.
use Rattle.std.proofs.Common.{◌≡◌, ℕ, None, List, [], ◌∷◌, pos, refl}
use Rattle.std.specs.Prelude.{codes, replicate}
use Rattle.solo_base.specs.declared.outcome.ProgResult.TheVariants as result
use Rattle.solo_base.specs.declared.system_call.SysCall.TheVariants as calls
use Rattle.solo_base.specs.declared.system_call.SysReply.TheVariants as replies
use Rattle.solo_base.specs.RunOutcome.{RunOutcome, Ends}
use Rattle.pascal_tree.specs.declared.expression.Adding.TheVariants as adding
use Rattle.pascal_tree.specs.declared.expression.Multiplying.TheVariants as multiplying
use Rattle.pascal_tree.specs.declared.expression.Relation.TheVariants as relation
use Rattle.pascal_tree.specs.Expression.{Expr, Factor, alone, simple, addend, no_addend, term, multiplier, no_multiplier}
use Rattle.pascal_tree.specs.Statement.{Statement, empty, case_of, branch, no_branch}
use Rattle.pascal_tree.specs.Program.{Routine}
use Rattle.pascal_mean.specs.Meaning.{meaning, meaning_with}
use Rattle.pascal_mean.proofs.Trees.{num, name, only, in_parentheses, adds, multiplies, compares, item, set, set_item, do_call, print, labels, integer, array, of_kind, by_value, a_procedure, a_function, a_program}

abbrev f : Factor
f = name (codes "F")

abbrev g : Factor
g = name (codes "G")

abbrev n : List ℕ
n = codes "N"

-- the function gives a digit, and puts it behind those of N
abbrev digit : List ℕ → ℕ → Routine
digit x d = a_function x [] [] (
    set 1 n (adds (in_parentheses (multiplies (name n) multiplying.Times (num 10))) adding.Plus (num d))
    ∷ set 1 x (only (num d)) ∷ [])

-- F gives 1, G gives 2, and P(X, Y) writes both
abbrev routines : List Routine
routines =
    digit (codes "F") 1 ∷ digit (codes "G") 2
    ∷ a_procedure (codes "P") (by_value (codes "X") ∷ by_value (codes "Y") ∷ []) []
    (print 1 (only (name (codes "X"))) ∷ print 1 (only (name (codes "Y"))) ∷ []) ∷ []

-- what the program does with these statements, and then prints of N
abbrev outcome_with : List Statement → RunOutcome
outcome_with statements =
    meaning (a_program (of_kind (codes "I") (n ∷ []) integer ∷ of_kind (codes "A") [] (array 1 3) ∷ []) routines statements)
    1000 (replicate 4 replies.Done)

-- the statement calls F and then G, and neither again
abbrev FThenG : Expr → Type 0
FThenG e =
    outcome_with (set 2 (codes "I") e ∷ print 3 (only (name n)) ∷ [])
    ≡ Ends result.Terminated 3 6 (calls.WriteInt (pos 12) ∷ [])

a_difference : FThenG (adds f adding.Minus g)
unfolding meaning meaning_with
a_difference = refl

a_disjunction : FThenG (adds f adding.Or g)
unfolding meaning meaning_with
a_disjunction = refl

a_product : FThenG (multiplies f multiplying.Times g)
unfolding meaning meaning_with
a_product = refl

a_quotient : FThenG (multiplies f multiplying.Div g)
unfolding meaning meaning_with
a_quotient = refl

a_remainder : FThenG (multiplies f multiplying.Mod g)
unfolding meaning meaning_with
a_remainder = refl

a_conjunction : FThenG (multiplies f multiplying.And g)
unfolding meaning meaning_with
a_conjunction = refl

an_equation : FThenG (compares f relation.Equal g)
unfolding meaning meaning_with
an_equation = refl

an_inequality : FThenG (compares f relation.NotEqual g)
unfolding meaning meaning_with
an_inequality = refl

less : FThenG (compares f relation.Less g)
unfolding meaning meaning_with
less = refl

greater : FThenG (compares f relation.Greater g)
unfolding meaning meaning_with
greater = refl

less_or_equal : FThenG (compares f relation.LessOrEqual g)
unfolding meaning meaning_with
less_or_equal = refl

greater_or_equal : FThenG (compares f relation.GreaterOrEqual g)
unfolding meaning meaning_with
greater_or_equal = refl

an_element_and_a_value : FThenG (adds (item (codes "A") (only f)) adding.Plus g)
unfolding meaning meaning_with
an_element_and_a_value = refl

-- F + G * F: the operands stand in the order of the text
three_operands : outcome_with
    (set 2 (codes "I") (alone (simple None (term f no_multiplier)
    (addend adding.Plus 2 (term g (multiplier multiplying.Times 2 f no_multiplier)) no_addend)))
    ∷ print 3 (only (name n)) ∷ print 4 (only (name (codes "I"))) ∷ [])
    ≡ Ends result.Terminated 4 9 (calls.WriteInt (pos 121) ∷ calls.WriteInt (pos 3) ∷ [])
unfolding meaning meaning_with
three_operands = refl

-- A(.F.) := G
the_index_before_the_value : outcome_with
    (set_item 2 (codes "A") (only f) (only g) ∷ print 3 (only (name n)) ∷ print 4 (only (item (codes "A") (only (num 1)))) ∷ [])
    ≡ Ends result.Terminated 4 7 (calls.WriteInt (pos 12) ∷ calls.WriteInt (pos 2) ∷ [])
unfolding meaning meaning_with
the_index_before_the_value = refl

-- P(F, G)
the_first_argument_first : outcome_with (do_call 2 (codes "P") (only f ∷ only g ∷ []) ∷ print 3 (only (name n)) ∷ [])
    ≡ Ends result.Terminated 3 8 (calls.WriteInt (pos 1) ∷ calls.WriteInt (pos 2) ∷ calls.WriteInt (pos 12) ∷ [])
unfolding meaning meaning_with
the_first_argument_first = refl

-- P(G, F): arguments go to parameters by their place
arguments_by_their_place : outcome_with (do_call 2 (codes "P") (only g ∷ only f ∷ []) ∷ print 3 (only (name n)) ∷ [])
    ≡ Ends result.Terminated 3 8 (calls.WriteInt (pos 2) ∷ calls.WriteInt (pos 1) ∷ calls.WriteInt (pos 21) ∷ [])
unfolding meaning meaning_with
arguments_by_their_place = refl

-- CASE F OF 2, 1: END evaluates F once, whatever label has the value
a_selector_once : outcome_with
    (case_of 2 (only f) 2 (branch (labels 2 (1 ∷ [])) 2 empty) no_branch 2 ∷ print 3 (only (name n)) ∷ [])
    ≡ Ends result.Terminated 3 4 (calls.WriteInt (pos 1) ∷ [])
unfolding meaning meaning_with
a_selector_once = refl
