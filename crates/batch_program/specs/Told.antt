-- What a program that is under way tells, and what it stands for.
use Rattle.std.specs.Prelude.{◌≡◌, ℕ, List, [], ◌∷◌, ◌++◌, Some}
use Rattle.solo_base.specs.declared.system_call.SysCall.{SysCall}
use Rattle.solo_base.specs.RunOutcome.{RunOutcome, Ends, Waits}
use Rattle.solo_base.specs.Text.{text}
use Rattle.solo_base.specs.LineList.{AreLines}
use Rattle.stack_machine.specs.declared.state.Finish.{Finish}
use Rattle.stack_machine.specs.Standing.{StandsWell}
use Rattle.stack_machine.specs.History.{StandsFor}
use Rattle.pascal_mean.specs.Batch.{batch_replies, output_of}
use Rattle.batch_program.specs.Input.{AreAnswered, input_behind}
use Rattle.batch_program.specs.Outcome.{Work, ComesTo, printed_by, lines_of}
use Rattle.batch_program.specs.Progress.{Progress}
use Rattle.batch_program.specs.declared.told.Told.{Told}
use Rattle.batch_program.specs.declared.told.Told.TheVariants as told

-- the line that is given, if it is one
abbrev pub line_in : Told → List (List ℕ)
line_in (told.Line line) = line ∷ []
line_in told.WaitsForCard = []
line_in (told.Ended how line) = []

-- Behind the lines that were given: a line is the next one of the run; that a card is needed, or that the run
-- has ended, is told when all its lines were given.
abbrev pub IsTold : List (List ℕ) → RunOutcome → Told → Type 0
IsTold given outcome (told.Line line) = (rest : List (List ℕ)) × (lines_of outcome ≡ given ++ line ∷ rest)
IsTold given (Waits calls) told.WaitsForCard = lines_of (Waits calls) ≡ given
IsTold given (Ends r at ticks calls) (told.Ended how line) =
    (lines_of (Ends r at ticks calls) ≡ given) × (r ≡ how) × (at ≡ line)
IsTold given (Waits calls) (told.Ended how line) = ⊥
IsTold given (Ends r at ticks calls) told.WaitsForCard = ⊥

-- this is told of what comes of the program with the cards so far
pub record Tells (w : Work) (given : List (List ℕ)) (t : Told) : Type 0 where
  pub outcome : RunOutcome
  pub comes : ComesTo w outcome
  pub is_told : IsTold given outcome t

-- ---- What it stands for

-- The lines that were given are those that the calls completed, and the line in hand is theirs; or the
-- program has ended, and all of its lines were given.
pub data HasGiven (p : Progress) (calls : List SysCall) (given : List (List ℕ)) : Type 0 where
  GoesOn : printed_by calls ≡ record { lines = given; line = p.line } → HasGiven p calls given
  IsOver : (finish : Finish) → p.machine.state.ended ≡ Some finish → given ≡ output_of calls → p.line ≡ []
      → HasGiven p calls given

-- The program was given these cards and has given these lines.
pub record IsAt (p : Progress) (w : Work) (given : List (List ℕ)) : Type 0 where
  pub calls : List SysCall
  pub code : p.machine.code ≡ w.code
  pub limit : p.machine.limit ≡ w.limit
  pub closed : p.closed ≡ w.closed
  pub cards : AreLines w.cards
  pub answered : AreAnswered (text w.cards) w.closed calls
  pub machine : StandsFor p.machine (batch_replies (text w.cards) calls) calls
  pub well : StandsWell p.machine
  pub input : p.input ≡ input_behind (text w.cards) calls
  pub lines : HasGiven p calls given
