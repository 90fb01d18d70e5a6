-- What comes of a code with the cards so far.
use Rattle.std.specs.Prelude.{ℕ, Bool, List}
use Rattle.std.specs.Option.{option_map}
use Rattle.solo_base.specs.RunOutcome.{RunOutcome}
use Rattle.solo_base.specs.Text.{text}
use Rattle.stack_code.specs.CodeLists.{CodeLists}
use Rattle.stack_machine.specs.RunIn.{Answering, run_in}
use Rattle.pascal_mean.specs.Batch.{input_after}
use Rattle.batch_program.specs.Input.{reply_so_far}

-- the batch as a world, which is what is left of the input so far: a call gets the reply that it has by now
abbrev pub batch_world : Bool → Answering (List ℕ)
batch_world closed input call =
    option_map (λ reply. (reply, input_after input call)) (reply_so_far input closed call)

-- the run of the code in it has ended, or it waits for a card
unfoldable pub run_so_far : CodeLists → ℕ → List (List ℕ) → Bool → RunOutcome
run_so_far c limit cards closed = (run_in (batch_world closed) c limit (text cards)).outcome
