-- How the lines of a program go on.
use Rattle.std.proofs.Common.{◌≡◌, ℕ, true, false, List, [], ◌++◌, refl, sym, ◌∙◌, ap, append_assoc}
use Rattle.std.proofs.lemmas.List.{append-nil}
use Rattle.solo_base.specs.RunOutcome.{RunOutcome, Ends, Waits}
use Rattle.pascal_mean.specs.MoreReplies.{GoesOn}
use Rattle.pascal_mean.specs.Batch.{Ending, ending_in_batch}
use Rattle.batch_program.specs.Outcome.{lines_of, meaning_so_far, EndsAs}
use Rattle.batch_program.proofs.Source.{meaning_goes_on, meaning_ends}
use Rattle.batch_program.proofs.MoreCards.{lines_go_on}
use Rattle.batch_program.specs.RunSoFar.{run_so_far}
use Rattle.batch_program.proofs.RunSoFar.{runs_go_further}
use Rattle.program_lines.specs.Task.{Runs, RunsCode, Says, outcome_lines, end_lines, ending_lines}
use Rattle.batch_program.specs.Laws.{IsPrefix}
use Rattle.program_lines.specs.Laws.{MoreCardsGoOn, AllCardsGiveAll}

-- ---- the laws
outcomes-go_on : (name : List ℕ) (outcome later : RunOutcome) → GoesOn outcome later → IsPrefix (outcome_lines name outcome) (outcome_lines name later)
outcomes-go_on name (Ends r line ticks calls) later is = ([], ap (outcome_lines name) is ∙ sym (append-nil (outcome_lines name (Ends r line ticks calls))))
outcomes-go_on name (Waits calls) later goes =
    let (rest, is) = lines_go_on (Waits calls) later goes in (
      rest ++ end_lines name later,
      ap (λ ls. ls ++ end_lines name later) is
          ∙ append_assoc (lines_of (Waits calls)) rest (end_lines name later)
          ∙ ap (λ ls. ls ++ (rest ++ end_lines name later)) (sym (append-nil (lines_of (Waits calls)))),
    )

pub more-cards : MoreCardsGoOn
more-cards name limit (Runs p) input more closed =
    outcomes-go_on name (meaning_so_far p limit input false) (meaning_so_far p limit (input ++ more) closed) (meaning_goes_on p limit input more closed)
more-cards name limit (RunsCode code) input more closed =
    outcomes-go_on name (run_so_far code limit input false) (run_so_far code limit (input ++ more) closed) (runs_go_further code limit input more closed)
more-cards name limit (Says line) input more closed = ([], refl)

by-ending : (name : List ℕ) (outcome : RunOutcome) (e : Ending) → EndsAs outcome e → outcome_lines name outcome ≡ ending_lines name e
by-ending name (Ends r line ticks calls) e is = ap (ending_lines name) is
by-ending name (Waits calls) e never = absurd never

pub all-cards : AllCardsGiveAll
all-cards name limit (Runs p) input = by-ending name (meaning_so_far p limit input true) (ending_in_batch p limit input) (meaning_ends p limit input)
all-cards name limit (RunsCode code) input = refl
all-cards name limit (Says line) input = refl
