-- What comes of a program with the cards so far, and the lines that it has printed.
use Rattle.std.specs.Prelude.{◌≡◌, ℕ, Bool, List, [], ◌∷◌, ◌++◌, None, flat_map}
use Rattle.solo_base.specs.declared.system_call.SysCall.{SysCall}
use Rattle.solo_base.specs.RunOutcome.{RunOutcome, Ends, Waits}
use Rattle.solo_base.specs.Text.{text}
use Rattle.pascal_tree.specs.Program.{Program}
use Rattle.stack_code.specs.CodeLists.{CodeLists}
use Rattle.stack_machine.specs.Run.{Runs}
use Rattle.pascal_mean.specs.Meaning.{meaning_with}
use Rattle.pascal_mean.specs.Batch.{batch_replies, characters_of, Printed, nothing_printed, with_characters, output_of, Ending, ending_of}
use Rattle.batch_program.specs.Input.{reply_so_far, AreAnswered, input_behind, answers_so_far}

-- a compiled program, its limit of ticks, the cards that it was given so far, and whether no further one
-- comes
pub record Work : Type 0 where
  pub code : CodeLists
  pub limit : ℕ
  pub cards : List (List ℕ)
  pub closed : Bool

-- The run of a code with this input so far: it ended, having got the batch's reply to each of its calls; or
-- it got one to each call but the last, which has none yet.
abbrev pub RunsOn : CodeLists → ℕ → List ℕ → Bool → RunOutcome → Type 0
RunsOn c limit input closed (Ends r line ticks calls) =
    AreAnswered input closed calls × Runs c limit (batch_replies input calls) (Ends r line ticks calls)
RunsOn c limit input closed (Waits calls) =
    (before : List SysCall) × (last : SysCall) × (calls ≡ before ++ last ∷ [])
    × AreAnswered input closed before
    × (reply_so_far (input_behind input before) closed last ≡ None)
    × Runs c limit (batch_replies input before) (Waits calls)

-- what comes of a program with the cards so far
abbrev pub ComesTo : Work → RunOutcome → Type 0
ComesTo w outcome = RunsOn w.code w.limit (text w.cards) w.closed outcome

-- ---- Lines

-- the lines that these calls completed, and the one in hand
abbrev pub printed_by : List SysCall → Printed
printed_by calls = with_characters nothing_printed (flat_map characters_of calls)

-- A run that ended printed its whole output, one that waits the lines that are complete.
abbrev pub lines_of : RunOutcome → List (List ℕ)
lines_of (Ends r line ticks calls) = output_of calls
lines_of (Waits calls) = (printed_by calls).lines

-- ---- By its source

-- what a program means with the cards so far
abbrev pub meaning_so_far : Program → ℕ → List (List ℕ) → Bool → RunOutcome
meaning_so_far p limit cards closed = meaning_with (answers_so_far (text cards) closed) p limit

-- it has ended, in this way
abbrev pub EndsAs : RunOutcome → Ending → Type 0
EndsAs (Ends r line ticks calls) e = ending_of (Ends r line ticks calls) ≡ e
EndsAs (Waits calls) e = ⊥
