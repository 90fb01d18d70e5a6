-- The laws of a program that is under way in the batch.
use Rattle.std.specs.Prelude.{◌≡◌, ℕ, ◌+◌, ◌*◌, ◌≤◌, Bool, true, false, List, ◌++◌, length}
use Rattle.solo_base.specs.declared.system_call.SysReply.{SysReply}
use Rattle.solo_base.specs.LineList.{AreLines}
use Rattle.solo_base.specs.RunOutcome.{RunOutcome}
use Rattle.pascal_tree.specs.Program.{Program}
use Rattle.pascal_mean.specs.Meaning.{meaning}
use Rattle.pascal_mean.specs.MoreReplies.{GoesOn, FitTheMeaning}
use Rattle.pascal_mean.specs.Batch.{ending_in_batch}
use Rattle.stack_code.specs.CodeLists.{CodeLists, IsCode}
use Rattle.stack_code.specs.Rules.{IsGood}
use Rattle.stack_machine.specs.Run.{Runs}
use Rattle.batch_program.specs.Outcome.{Work, ComesTo, lines_of, meaning_so_far, EndsAs}
use Rattle.batch_program.specs.RunSoFar.{run_so_far}
use Rattle.batch_program.specs.Progress.{Progress}
use Rattle.batch_program.specs.Told.{IsTold, Tells, IsAt}
use Rattle.batch_program.specs.declared.told.Told.{Told}

-- ---- What comes of it

-- with cards that are lines, good code comes to something
abbrev pub SomeOutcome : Type 0
SomeOutcome =
    (w : Work) → IsCode w.code → IsGood w.code → AreLines w.cards → (outcome : RunOutcome) × ComesTo w outcome

-- and to one thing only
abbrev pub OneOutcome : Type 0
OneOutcome = (w : Work) (outcome other : RunOutcome) → ComesTo w outcome → ComesTo w other → outcome ≡ other

-- A tick pays for at most 67,133,442 instructions, of which each call takes one and writes six characters at
-- most: so many lines come of a program, whatever its cards.
abbrev pub most_lines : ℕ → ℕ
most_lines limit = 403000000 * (limit + 1)

abbrev pub FewLines : Type 0
FewLines =
    (w : Work) (outcome : RunOutcome) → IsCode w.code → IsGood w.code → AreLines w.cards → ComesTo w outcome
    → length (lines_of outcome) ≤ most_lines w.limit

-- ---- More cards

-- some lines that go on
abbrev pub IsPrefix : List (List ℕ) → List (List ℕ) → Type 0
IsPrefix first all = (rest : List (List ℕ)) × (all ≡ first ++ rest)

-- the same program with more cards, or with no further one
abbrev pub with_more : Work → List (List ℕ) → Bool → Work
with_more w more closed = record w { cards = w.cards ++ more; closed = closed }

-- a run that ended is the same with more cards, and one that waits makes the same calls first
abbrev pub MoreCardsGoOn : Type 0
MoreCardsGoOn =
    (w : Work) (more : List (List ℕ)) (closed : Bool) (outcome later : RunOutcome) → w.closed ≡ false
    → ComesTo w outcome → ComesTo (with_more w more closed) later → GoesOn outcome later

-- and its lines are the first of those that come then
abbrev pub MoreCardsMoreLines : Type 0
MoreCardsMoreLines =
    (w : Work) (more : List (List ℕ)) (closed : Bool) (outcome later : RunOutcome) → w.closed ≡ false
    → ComesTo w outcome → ComesTo (with_more w more closed) later
    → IsPrefix (lines_of outcome) (lines_of later)

-- the lines that were given are the first of what the program comes to
abbrev pub GivenLinesAreFirst : Type 0
GivenLinesAreFirst =
    (p : Progress) (w : Work) (given : List (List ℕ)) (outcome : RunOutcome)
    → IsAt p w given → ComesTo w outcome → IsPrefix given (lines_of outcome)

-- ---- By its source

-- the code does what the program means, for each limit and whatever replies fit it
abbrev pub MeansItsSource : CodeLists → Program → Type 0
MeansItsSource c p =
    (limit : ℕ) (replies : List SysReply) → FitTheMeaning p limit replies
    → Runs c limit replies (meaning p limit replies)

-- it comes to what its source means with the same cards
abbrev pub ReachesItsMeaning : Type 0
ReachesItsMeaning =
    (w : Work) (p : Program) → MeansItsSource w.code p → AreLines w.cards
    → ComesTo w (meaning_so_far p w.limit w.cards w.closed)

-- and to nothing else
abbrev pub ComesToItsMeaning : Type 0
ComesToItsMeaning =
    (w : Work) (p : Program) (outcome : RunOutcome) → MeansItsSource w.code p → AreLines w.cards
    → ComesTo w outcome → outcome ≡ meaning_so_far p w.limit w.cards w.closed

-- so that what is told is told of this meaning, and what was given are its first lines
abbrev pub TellsItsMeaning : Type 0
TellsItsMeaning =
    (w : Work) (p : Program) (given : List (List ℕ)) (t : Told) → MeansItsSource w.code p → AreLines w.cards
    → Tells w given t → IsTold given (meaning_so_far p w.limit w.cards w.closed) t

abbrev pub GivenAreItsLines : Type 0
GivenAreItsLines =
    (r : Progress) (w : Work) (p : Program) (given : List (List ℕ)) → MeansItsSource w.code p → IsAt r w given
    → IsPrefix given (lines_of (meaning_so_far p w.limit w.cards w.closed))

-- with all cards it comes to the ending in the batch: its result, its line, its ticks and its whole output
abbrev pub ComesToItsEnding : Type 0
ComesToItsEnding =
    (w : Work) (p : Program) (outcome : RunOutcome) → MeansItsSource w.code p → AreLines w.cards
    → w.closed ≡ true → ComesTo w outcome → EndsAs outcome (ending_in_batch p w.limit w.cards)

-- ---- What code comes to while its cards come

-- good code comes to the run of its instructions
abbrev pub ReachesItsRun : Type 0
ReachesItsRun =
    (w : Work) → IsCode w.code → IsGood w.code → AreLines w.cards
    → ComesTo w (run_so_far w.code w.limit w.cards w.closed)

-- with more cards the run of a code goes on
abbrev pub RunsGoOn : Type 0
RunsGoOn =
    (c : CodeLists) (limit : ℕ) (cards more : List (List ℕ)) (closed : Bool)
    → GoesOn (run_so_far c limit cards false) (run_so_far c limit (cards ++ more) closed)

-- ---- What programs mean while their cards come

-- with more cards a meaning goes on as a run does
abbrev pub MeaningsGoOn : Type 0
MeaningsGoOn =
    (p : Program) (limit : ℕ) (cards more : List (List ℕ)) (closed : Bool)
    → GoesOn (meaning_so_far p limit cards false) (meaning_so_far p limit (cards ++ more) closed)

-- and its lines are the first of those that come then
abbrev pub MeaningsAddLines : Type 0
MeaningsAddLines =
    (p : Program) (limit : ℕ) (cards more : List (List ℕ)) (closed : Bool)
    → IsPrefix (lines_of (meaning_so_far p limit cards false))
    (lines_of (meaning_so_far p limit (cards ++ more) closed))

-- with all cards it is the ending in the batch
abbrev pub MeaningsEnd : Type 0
MeaningsEnd =
    (p : Program) (limit : ℕ) (cards : List (List ℕ))
    → EndsAs (meaning_so_far p limit cards true) (ending_in_batch p limit cards)
