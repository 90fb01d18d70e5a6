-- More cards, and the lines that were given.
use Rattle.std.proofs.Common.{◌≡◌, ℕ, Bool, false, inr, List, [], ◌++◌, sym, ◌∙◌, ap}
use Rattle.std.proofs.lemmas.List.{append-nil}
use Rattle.solo_base.specs.RunOutcome.{RunOutcome, Ends, Waits}
use Rattle.solo_base.specs.Text.{text}
use Rattle.stack_machine.specs.declared.running.Pause.TheVariants as pause
use Rattle.stack_machine.proofs.Histories.{stands_on_pause}
use Rattle.stack_machine.proofs.Onward.{has_ended}
use Rattle.pascal_mean.specs.MoreReplies.{calls_of, GoesOn}
use Rattle.pascal_mean.specs.Batch.{batch_replies, Printed, output_of}
use Rattle.batch_program.specs.Outcome.{Work, ComesTo, lines_of}
use Rattle.batch_program.specs.Progress.{Progress}
use Rattle.batch_program.specs.Told.{IsAt, HasGiven, GoesOn as KeepsLine, IsOver}
use Rattle.batch_program.specs.Laws.{IsPrefix, with_more}
use Rattle.batch_program.proofs.Inputs.{text_append}
use Rattle.batch_program.proofs.Printed.{lines_first}
use Rattle.batch_program.proofs.Courses.{runs_go_on, one_outcome}
use Rattle.batch_program.proofs.Bytes.{text_is_bytes}
use Rattle.batch_program.proofs.Onward.{comes_further}
use Rattle.batch_program.proofs.Steps.{moved_run}

pub more_cards : (w : Work) (more : List (List ℕ)) (closed : Bool) (outcome later : RunOutcome) → w.closed ≡ false → ComesTo w outcome
    → ComesTo (with_more w more closed) later
    → GoesOn outcome later
more_cards w more closed outcome later is_open first second =
    runs_go_on w.code w.limit (text w.cards) w.closed (text (w.cards ++ more)) closed outcome later
    (inr (text more, is_open, text_append w.cards more)) first second

-- a run that goes on only adds lines
pub lines_go_on : (outcome later : RunOutcome) → GoesOn outcome later → IsPrefix (lines_of outcome) (lines_of later)
lines_go_on (Ends r line ticks made) later is = ([], ap lines_of is ∙ sym (append-nil (output_of made)))
lines_go_on (Waits made) later (rest, is) = lines_first later made rest is

pub more_lines : (w : Work) (more : List (List ℕ)) (closed : Bool) (outcome later : RunOutcome) → w.closed ≡ false → ComesTo w outcome
    → ComesTo (with_more w more closed) later
    → IsPrefix (lines_of outcome) (lines_of later)
more_lines w more closed outcome later is_open first second = lines_go_on outcome later (more_cards w more closed outcome later is_open first second)

-- ---- What was given

given_by : (p : Progress) (w : Work) (given : List (List ℕ)) (outcome : RunOutcome) → (at : IsAt p w given) → HasGiven p at.calls given
    → ComesTo w outcome → IsPrefix given (lines_of outcome)
given_by p w given outcome at (KeepsLine is) comes =
    let input = text w.cards in
    let further = comes_further p.machine input w.closed at.calls (text_is_bytes w.cards at.cards) at.well at.machine at.answered in
    let there = moved_run p.machine.code w.code p.machine.limit w.limit input w.closed further.outcome at.code at.limit further.runs in
    let same = one_outcome w.code w.limit input w.closed further.outcome outcome there comes in
    let lines = lines_first outcome at.calls further.rest (ap calls_of (sym same) ∙ further.first) in
    (lines.0, lines.1 ∙ ap (λ (q : Printed). q.lines ++ lines.0) is)
given_by p w given outcome at (IsOver finish ended all none) comes =
    let input = text w.cards in
    let m = p.machine in
    let on = stands_on_pause m (pause.Finished finish) m.state (batch_replies input at.calls) at.calls
    (has_ended m.code m.limit m.state finish ended, ended) at.machine in
    let over = Ends finish.result finish.line finish.ticks at.calls in
    let there = moved_run m.code w.code m.limit w.limit input w.closed over at.code at.limit (at.answered, on.0) in
    let same = one_outcome w.code w.limit input w.closed over outcome there comes in
    ([], ap lines_of (sym same) ∙ sym all ∙ sym (append-nil given))

pub given_first : (p : Progress) (w : Work) (given : List (List ℕ)) (outcome : RunOutcome) → IsAt p w given → ComesTo w outcome
    → IsPrefix given (lines_of outcome)
given_first p w given outcome at comes = given_by p w given outcome at at.lines comes
