-- What the worked programs print in the batch, by computing alone.
use Rattle.std.proofs.Common.{◌≡◌, ℕ, List, [], ◌∷◌, refl}
use Rattle.std.specs.Prelude.{codes, replicate}
use Rattle.std.specs.Fmt.{digits}
use Rattle.solo_base.specs.declared.outcome.ProgResult.{ProgResult}
use Rattle.solo_base.specs.declared.outcome.ProgResult.TheVariants as result
use Rattle.pascal_tree.specs.declared.statement.Direction.TheVariants as direction
use Rattle.pascal_tree.specs.Statement.{for_do}
use Rattle.pascal_tree.specs.Program.{Program}
use Rattle.pascal_mean.specs.Meaning.{meaning_with}
use Rattle.pascal_mean.specs.Batch.{Ending, ending_in_batch}
use Rattle.pascal_mean.proofs.Trees.{at, num, char, name, only, apply, do_call, print, integer, of_kind, a_program}
use Rattle.pascal_mean.proofs.WorkedPrograms.{sum_of_four, endless, too_big, two_names, cases, no_case_for_two}

abbrev ends : ProgResult → ℕ → ℕ → List (List ℕ) → Ending
ends r line ticks output = record { result = r; line = line; ticks = ticks; output = output }

the_sum : ending_in_batch sum_of_four 10000 [] ≡ ends result.Terminated 5 12 (codes "10" ∷ [])
unfolding meaning_with digits
the_sum = refl

the_sum_in_eleven_ticks : ending_in_batch sum_of_four 11 [] ≡ ends result.TimeLimit 5 11 (codes "10" ∷ [])
unfolding meaning_with digits
the_sum_in_eleven_ticks = refl

the_endless_loop : ending_in_batch endless 3 [] ≡ ends result.TimeLimit 2 3 (codes "A" ∷ [])
unfolding meaning_with digits
the_endless_loop = refl

too_big_a_number : ending_in_batch too_big 10000 [] ≡ ends result.Overflow 3 1 []
unfolding meaning_with digits
too_big_a_number = refl

-- VAR I: INTEGER; BEGIN FOR I := 1 TO 133 DO WRITE('A') END.
abbrev many_letters : Program
many_letters = a_program (of_kind (codes "I") [] integer ∷ []) []
    (for_do 2 (at 2 (codes "I")) 2 (only (num 1)) direction.To 2 (only (num 133)) 2 (do_call 2 (codes "WRITE") (only (char 65) ∷ [])) ∷ [])

a_line_has_132_characters : ending_in_batch many_letters 10000 [] ≡ ends result.Terminated 2 267 (replicate 132 65 ∷ (65 ∷ []) ∷ [])
unfolding meaning_with digits
a_line_has_132_characters = refl

-- READ(C); WRITEINT(ORD(C)); READ(C); WRITE(' '); WRITEINT(ORD(C)); READ(C); WRITE(' '); WRITEINT(ORD(C))
abbrev three_characters : Program
three_characters =
    let c = only (name (codes "C")) in
    let code = only (apply (codes "ORD") c []) in
    a_program (of_kind (codes "C") [] integer ∷ []) [] (
    do_call 2 (codes "READ") (c ∷ []) ∷ print 2 code
    ∷ do_call 3 (codes "READ") (c ∷ []) ∷ do_call 3 (codes "WRITE") (only (char 32) ∷ []) ∷ print 3 code
    ∷ do_call 4 (codes "READ") (c ∷ []) ∷ do_call 4 (codes "WRITE") (only (char 32) ∷ []) ∷ print 4 code ∷ [])

the_input_ends_with_25 : ending_in_batch three_characters 10000 (codes "Z" ∷ []) ≡ ends result.Terminated 4 8 (codes "90 10 25" ∷ [])
unfolding meaning_with digits
the_input_ends_with_25 = refl

two_names_print_2 : ending_in_batch two_names 10000 [] ≡ ends result.Terminated 4 4 (codes "2" ∷ [])
unfolding meaning_with digits
two_names_print_2 = refl

cases_print_letters : ending_in_batch cases 10000 [] ≡ ends result.Terminated 3 10 (codes "XYX" ∷ [])
unfolding meaning_with digits
cases_print_letters = refl

a_case_is_missing : ending_in_batch no_case_for_two 10000 [] ≡ ends result.RangeError 3 6 (codes "X" ∷ [])
unfolding meaning_with digits
a_case_is_missing = refl

-- BEGIN WRITE(CHR(7)); ACCEPT(..) END.: what doesn't print is `?`, and ACCEPT is refused
the_typewriter_is_refused : ending_in_batch
    (a_program (of_kind (codes "C") [] integer ∷ []) []
    (do_call 1 (codes "WRITE") (only (apply (codes "CHR") (only (num 7)) []) ∷ []) ∷ do_call 2 (codes "ACCEPT") (only (name (codes "C")) ∷ []) ∷ []))
    10000 []
    ≡ ends result.CallError 2 2 (codes "?" ∷ [])
unfolding meaning_with digits
the_typewriter_is_refused = refl
