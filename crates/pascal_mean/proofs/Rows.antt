-- What each row of the interface asks for and sets, by computing alone.
use Rattle.std.proofs.Common.{◌≡◌, List, [], ◌∷◌, ◌++◌, true, pos, refl}
use Rattle.std.specs.Prelude.{codes, replicate}
use Rattle.solo_base.specs.declared.outcome.ProgResult.TheVariants as result
use Rattle.solo_base.specs.declared.system_call.SysCall.TheVariants as calls
use Rattle.solo_base.specs.declared.system_call.SysReply.{SysReply}
use Rattle.solo_base.specs.declared.system_call.SysReply.TheVariants as replies
use Rattle.solo_base.specs.RunOutcome.{RunOutcome, Ends}
use Rattle.pascal_tree.specs.Expression.{Expr}
use Rattle.pascal_tree.specs.Statement.{Statement}
use Rattle.pascal_mean.specs.Meaning.{meaning, meaning_with}
use Rattle.pascal_mean.proofs.Trees.{num, name, only, apply, item, set_item, do_call, print, integer, array, of_kind, a_program}

-- what a program with the variables X and Y, a name ID and a page B does with these replies
abbrev outcome_with : List Statement → List SysReply → RunOutcome
outcome_with statements replies =
    let scalars = of_kind (codes "X") (codes "Y" ∷ []) integer in
    meaning (a_program (scalars ∷ of_kind (codes "ID") [] (array 1 12) ∷ of_kind (codes "B") [] (array 1 512) ∷ []) [] statements)
    100 replies

abbrev x : Expr
x = only (name (codes "X"))

abbrev y : Expr
y = only (name (codes "Y"))

abbrev id : Expr
id = only (name (codes "ID"))

abbrev b : Expr
b = only (name (codes "B"))

abbrev one : Expr
one = only (num 1)

abbrev two : Expr
two = only (num 2)

abbrev print_both : List Statement
print_both = print 8 x ∷ print 9 y ∷ []

reads_and_accepts : outcome_with (do_call 1 (codes "ACCEPT") (x ∷ []) ∷ print_both) (replies.Char 65 ∷ replies.Done ∷ replies.Done ∷ [])
    ≡ Ends result.Terminated 9 3 (calls.Accept ∷ calls.WriteInt (pos 65) ∷ calls.WriteInt (pos 0) ∷ [])
unfolding meaning meaning_with
reads_and_accepts = refl

displays_a_byte : outcome_with (do_call 1 (codes "DISPLAY") (only (num 255) ∷ []) ∷ do_call 2 (codes "DISPLAY") (only (num 256) ∷ []) ∷ []) (replies.Done ∷ [])
    ≡ Ends result.RangeError 2 2 (calls.Display 255 ∷ [])
unfolding meaning meaning_with
displays_a_byte = refl

opens_and_closes : outcome_with
    (set_item 1 (codes "ID") one (only (num 70)) ∷ do_call 2 (codes "OPEN") (two ∷ id ∷ x ∷ []) ∷ do_call 3 (codes "CLOSE") (two ∷ []) ∷ print_both)
    (replies.Opened true ∷ replies.Done ∷ replies.Done ∷ replies.Done ∷ [])
    ≡ Ends result.Terminated 9 5
    (calls.Open (pos 2) (pos 70 ∷ replicate 11 (pos 0)) ∷ calls.Close (pos 2) ∷ calls.WriteInt (pos 1) ∷ calls.WriteInt (pos 0) ∷ [])
unfolding meaning meaning_with
opens_and_closes = refl

gets_a_page : outcome_with
    (do_call 1 (codes "GET") (one ∷ two ∷ b ∷ []) ∷ print 2 (only (item (codes "B") one)) ∷ print 3 (only (item (codes "B") (only (num 512)))) ∷ [])
    (replies.Page (record { 0 = 5 ∷ (replicate 510 0 ++ 6 ∷ []) }) ∷ replies.Done ∷ replies.Done ∷ [])
    ≡ Ends result.Terminated 3 3 (calls.Get (pos 1) (pos 2) ∷ calls.WriteInt (pos 5) ∷ calls.WriteInt (pos 6) ∷ [])
unfolding meaning meaning_with
gets_a_page = refl

puts_a_page : outcome_with
    (set_item 1 (codes "B") two (only (num 7)) ∷ do_call 2 (codes "PUT") (one ∷ two ∷ b ∷ [])
    ∷ set_item 3 (codes "B") one (only (num 256)) ∷ do_call 4 (codes "PUT") (one ∷ two ∷ b ∷ []) ∷ [])
    (replies.Done ∷ [])
    ≡ Ends result.RangeError 4 4 (calls.Put (pos 1) (pos 2) (record { 0 = 0 ∷ 7 ∷ replicate 510 0 }) ∷ [])
unfolding meaning meaning_with
puts_a_page = refl

gives_a_length : outcome_with (print 1 (only (apply (codes "LENGTH") two [])) ∷ []) (replies.Length (pos 9) ∷ replies.Done ∷ [])
    ≡ Ends result.Terminated 1 1 (calls.Length (pos 2) ∷ calls.WriteInt (pos 9) ∷ [])
unfolding meaning meaning_with
gives_a_length = refl

looks_up_a_name : outcome_with (do_call 1 (codes "LOOKUP") (id ∷ x ∷ y ∷ []) ∷ print_both) (replies.Found (pos 3) true ∷ replies.Done ∷ replies.Done ∷ [])
    ≡ Ends result.Terminated 9 3 (calls.Lookup (replicate 12 (pos 0)) ∷ calls.WriteInt (pos 3) ∷ calls.WriteInt (pos 1) ∷ [])
unfolding meaning meaning_with
looks_up_a_name = refl

-- the tag, the number and the name
reads_an_argument : outcome_with (do_call 1 (codes "READARG") (x ∷ y ∷ id ∷ []) ∷ print 2 (only (item (codes "ID") two)) ∷ print_both)
    (replies.Argument (pos 2) (pos 9) (65 ∷ 66 ∷ replicate 10 32) ∷ replies.Done ∷ replies.Done ∷ replies.Done ∷ [])
    ≡ Ends result.Terminated 9 4 (calls.ReadArg ∷ calls.WriteInt (pos 66) ∷ calls.WriteInt (pos 2) ∷ calls.WriteInt (pos 9) ∷ [])
unfolding meaning meaning_with
reads_an_argument = refl

writes_an_argument : outcome_with (do_call 1 (codes "WRITEARG") (one ∷ two ∷ id ∷ []) ∷ []) (replies.Done ∷ [])
    ≡ Ends result.Terminated 1 1 (calls.WriteArg (pos 1) (pos 2) (replicate 12 (pos 0)) ∷ [])
unfolding meaning meaning_with
writes_an_argument = refl

-- one variable for the line and the result: the line is set last
variables_from_the_last_to_the_first : outcome_with (do_call 1 (codes "RUN") (id ∷ x ∷ x ∷ []) ∷ print 2 x ∷ [])
    (replies.Ran (pos 4) (pos 6) 0 ∷ replies.Done ∷ [])
    ≡ Ends result.Terminated 2 2 (calls.Run (replicate 12 (pos 0)) 99 ∷ calls.WriteInt (pos 4) ∷ [])
unfolding meaning meaning_with
variables_from_the_last_to_the_first = refl

-- a program that is run takes the caller's ticks
runs_with_the_ticks_that_are_left : outcome_with (do_call 1 (codes "RUN") (id ∷ x ∷ y ∷ []) ∷ print_both) (replies.Ran (pos 4) (pos 0) 98 ∷ replies.Done ∷ [])
    ≡ Ends result.TimeLimit 9 100 (calls.Run (replicate 12 (pos 0)) 99 ∷ calls.WriteInt (pos 4) ∷ [])
unfolding meaning meaning_with
runs_with_the_ticks_that_are_left = refl
