-- What some whole programs mean, by computing alone.
use Rattle.std.proofs.Common.{◌≡◌, [], ◌∷◌, pos, refl}
use Rattle.std.specs.Prelude.{codes}
use Rattle.solo_base.specs.declared.outcome.ProgResult.TheVariants as result
use Rattle.solo_base.specs.declared.system_call.SysCall.TheVariants as calls
use Rattle.solo_base.specs.declared.system_call.SysReply.TheVariants as replies
use Rattle.solo_base.specs.RunOutcome.{Ends, Waits}
use Rattle.pascal_tree.specs.declared.expression.Adding.TheVariants as adding
use Rattle.pascal_tree.specs.declared.statement.Direction.TheVariants as direction
use Rattle.pascal_tree.specs.Statement.{while_do, for_do, case_of, branch, no_branch, next_branch}
use Rattle.pascal_tree.specs.Program.{Program}
use Rattle.pascal_mean.specs.Meaning.{meaning, meaning_with}
use Rattle.pascal_mean.proofs.Trees.{at, num, char, name, only, adds, apply, set, do_call, print, labels, integer, of_kind, by_name, a_procedure, a_program}

-- VAR I, S: INTEGER; BEGIN S := 0; FOR I := 1 TO 4 DO S := S + I; WRITEINT(S); WRITE(NL) END.
abbrev pub sum_of_four : Program
sum_of_four = a_program (of_kind (codes "I") (codes "S" ∷ []) integer ∷ []) [] (
    set 3 (codes "S") (only (num 0))
    ∷ for_do 4 (at 4 (codes "I")) 4 (only (num 1)) direction.To 4 (only (num 4)) 4
    (set 4 (codes "S") (adds (name (codes "S")) adding.Plus (name (codes "I"))))
    ∷ print 5 (only (name (codes "S")))
    ∷ do_call 5 (codes "WRITE") (only (name (codes "NL")) ∷ [])
    ∷ [])

sum_takes_twelve_ticks : meaning sum_of_four 10000 (replies.Done ∷ replies.Done ∷ [])
    ≡ Ends result.Terminated 5 12 (calls.WriteInt (pos 10) ∷ calls.Write 10 ∷ [])
unfolding meaning meaning_with
sum_takes_twelve_ticks = refl

sum_in_eleven_ticks : meaning sum_of_four 11 (replies.Done ∷ replies.Done ∷ [])
    ≡ Ends result.TimeLimit 5 11 (calls.WriteInt (pos 10) ∷ [])
unfolding meaning meaning_with
sum_in_eleven_ticks = refl

-- with one reply it waits for the second
sum_waits : meaning sum_of_four 10000 (replies.Done ∷ []) ≡ Waits (calls.WriteInt (pos 10) ∷ calls.Write 10 ∷ [])
unfolding meaning meaning_with
sum_waits = refl

-- BEGIN WHILE TRUE DO WRITE('A') END.
abbrev pub endless : Program
endless = a_program [] []
    (while_do 2 (only (name (codes "TRUE"))) 2 (do_call 2 (codes "WRITE") (only (char 65) ∷ [])) ∷ [])

endless_in_three_ticks : meaning endless 3 (replies.Done ∷ []) ≡ Ends result.TimeLimit 2 3 (calls.Write 65 ∷ [])
unfolding meaning meaning_with
endless_in_three_ticks = refl

-- VAR X: INTEGER; BEGIN X := 32767 + 1 END.
abbrev pub too_big : Program
too_big = a_program (of_kind (codes "X") [] integer ∷ []) []
    (set 3 (codes "X") (adds (num 32767) adding.Plus (num 1)) ∷ [])

too_big_overflows : meaning too_big 10000 [] ≡ Ends result.Overflow 3 1 []
unfolding meaning meaning_with
too_big_overflows = refl

-- VAR C: CHAR; BEGIN READ(C); WRITEINT(ORD(C)); READ(C); WRITE(' '); WRITEINT(ORD(C)) END.
abbrev reads_two : Program
reads_two =
    let the_code = only (apply (codes "ORD") (only (name (codes "C"))) []) in
    a_program (of_kind (codes "C") [] integer ∷ []) [] (
    do_call 2 (codes "READ") (only (name (codes "C")) ∷ [])
    ∷ print 2 the_code
    ∷ do_call 3 (codes "READ") (only (name (codes "C")) ∷ [])
    ∷ do_call 3 (codes "WRITE") (only (char 32) ∷ [])
    ∷ print 3 the_code
    ∷ [])

reads_what_is_given : meaning reads_two 10000
    (replies.Char 90 ∷ replies.Done ∷ replies.Char 10 ∷ replies.Done ∷ replies.Done ∷ [])
    ≡ Ends result.Terminated 3 5
    (calls.Read ∷ calls.WriteInt (pos 90) ∷ calls.Read ∷ calls.Write 32 ∷ calls.WriteInt (pos 10) ∷ [])
unfolding meaning meaning_with
reads_what_is_given = refl

-- VAR N: INTEGER; PROCEDURE P(VAR A, B: INTEGER); BEGIN A := 1; B := B + A END; BEGIN P(N, N); WRITEINT(N) END.
abbrev pub two_names : Program
two_names = a_program (of_kind (codes "N") [] integer ∷ [])
    (a_procedure (codes "P") (by_name (codes "A") (codes "B" ∷ []) ∷ []) []
    (set 3 (codes "A") (only (num 1))
    ∷ set 3 (codes "B") (adds (name (codes "B")) adding.Plus (name (codes "A"))) ∷ []) ∷ [])
    (do_call 4 (codes "P") (only (name (codes "N")) ∷ only (name (codes "N")) ∷ [])
    ∷ print 4 (only (name (codes "N"))) ∷ [])

two_names_of_one_variable : meaning two_names 10000 (replies.Done ∷ []) ≡ Ends result.Terminated 4 4 (calls.WriteInt (pos 2) ∷ [])
unfolding meaning meaning_with
two_names_of_one_variable = refl

-- VAR I: INTEGER; BEGIN FOR I := 1 TO 3 DO CASE I OF 1, 3: WRITE('X'); 2: WRITE('Y') END END.
abbrev pub cases : Program
cases = a_program (of_kind (codes "I") [] integer ∷ []) [] (
    for_do 2 (at 2 (codes "I")) 2 (only (num 1)) direction.To 2 (only (num 3)) 2
    (case_of 3 (only (name (codes "I"))) 3
    (branch (labels 1 (3 ∷ [])) 3 (do_call 3 (codes "WRITE") (only (char 88) ∷ [])))
    (next_branch 3 (branch (labels 2 []) 3 (do_call 3 (codes "WRITE") (only (char 89) ∷ []))) no_branch) 3) ∷ [])

each_case_is_done : meaning cases 10000 (replies.Done ∷ replies.Done ∷ replies.Done ∷ [])
    ≡ Ends result.Terminated 3 10 (calls.Write 88 ∷ calls.Write 89 ∷ calls.Write 88 ∷ [])
unfolding meaning meaning_with
each_case_is_done = refl

-- with CASE I OF 1: WRITE('X') END
abbrev pub no_case_for_two : Program
no_case_for_two = a_program (of_kind (codes "I") [] integer ∷ []) [] (
    for_do 2 (at 2 (codes "I")) 2 (only (num 1)) direction.To 2 (only (num 3)) 2
    (case_of 3 (only (name (codes "I"))) 3
    (branch (labels 1 []) 3 (do_call 3 (codes "WRITE") (only (char 88) ∷ []))) no_branch 3) ∷ [])

a_case_without_a_branch : meaning no_case_for_two 10000 (replies.Done ∷ []) ≡ Ends result.RangeError 3 6 (calls.Write 88 ∷ [])
unfolding meaning meaning_with
a_case_without_a_branch = refl
