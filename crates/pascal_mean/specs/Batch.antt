-- A program in the batch: what answers its calls, and what it prints.
use Rattle.std.specs.Prelude.{◌≡◌, ℕ, ◌<◌, nat_lt, List, [], ◌∷◌, ◌++◌, length, flat_map, Some, None, ◌==◌, if◌then◌else◌, All}
use Rattle.std.specs.Fmt.{signed_decimal}
use Rattle.solo_base.specs.declared.outcome.ProgResult.{ProgResult}
use Rattle.solo_base.specs.declared.outcome.ProgResult.TheVariants as result
use Rattle.solo_base.specs.declared.system_call.SysCall.{SysCall}
use Rattle.solo_base.specs.declared.system_call.SysCall.TheVariants as calls
use Rattle.solo_base.specs.declared.system_call.SysReply.{SysReply}
use Rattle.solo_base.specs.declared.system_call.SysReply.TheVariants as replies
use Rattle.solo_base.specs.Fits.{Fits}
use Rattle.solo_base.specs.Line.{is_printable}
use Rattle.solo_base.specs.RunOutcome.{RunOutcome, Ends, Waits}
use Rattle.solo_base.specs.Text.{text}
use Rattle.pascal_tree.specs.Program.{Program}
use Rattle.pascal_mean.specs.Situation.{Answers}
use Rattle.pascal_mean.specs.Meaning.{meaning, meaning_with}
use Rattle.pascal_mean.specs.MoreReplies.{FitTheMeaning}

-- ---- Calls

-- the next character of the input: each card's are followed by code 10, and the last card's by code 25 for
-- ever
abbrev pub next_character : List ℕ → ℕ
next_character [] = 25
next_character (code ∷ rest) = code

-- the batch gives characters, takes what is written, and refuses every other call
abbrev pub batch_reply : List ℕ → SysCall → SysReply
batch_reply input calls.Read = replies.Char (next_character input)
batch_reply input (calls.Write byte) = replies.Done
batch_reply input (calls.WriteInt number) = replies.Done
batch_reply input calls.Accept = replies.CallError
batch_reply input (calls.Display byte) = replies.CallError
batch_reply input (calls.Open f name) = replies.CallError
batch_reply input (calls.Close f) = replies.CallError
batch_reply input (calls.Get f p) = replies.CallError
batch_reply input (calls.Put f p page) = replies.CallError
batch_reply input (calls.Length f) = replies.CallError
batch_reply input (calls.Lookup name) = replies.CallError
batch_reply input calls.ReadArg = replies.CallError
batch_reply input (calls.WriteArg tag number name) = replies.CallError
batch_reply input (calls.Run name left) = replies.CallError

abbrev pub but_the_first : List ℕ → List ℕ
but_the_first [] = []
but_the_first (code ∷ rest) = rest

-- the input that is left after a call
abbrev pub input_after : List ℕ → SysCall → List ℕ
input_after input calls.Read = but_the_first input
input_after input other = input

-- the reply to the last of some calls
abbrev pub batch_answers : List ℕ → Answers
batch_answers input [] = None
batch_answers input (call ∷ []) = Some (batch_reply input call)
batch_answers input (call ∷ next ∷ more) = batch_answers (input_after input call) (next ∷ more)

-- the replies to all of them, in order
abbrev pub batch_replies : List ℕ → List SysCall → List SysReply
batch_replies input [] = []
batch_replies input (call ∷ more) = batch_reply input call ∷ batch_replies (input_after input call) more

-- ---- Output

-- the characters that a call writes: a number in decimal, `-` before a negative one
abbrev pub characters_of : SysCall → List ℕ
characters_of (calls.Write byte) = byte ∷ []
characters_of (calls.WriteInt number) = signed_decimal number
characters_of other = []

-- what doesn't print is shown as `?`
abbrev pub shown : ℕ → ℕ
shown code = if is_printable code then code else 63

-- lines that have ended, and the one in hand
pub record Printed : Type 0 where
  pub lines : List (List ℕ)
  pub line : List ℕ

abbrev pub nothing_printed : Printed
nothing_printed = record { lines = []; line = [] }

-- Code 10 ends the line, and any other one is added; a line of 132 characters ends before the next one.
abbrev pub with_character : Printed → ℕ → Printed
with_character p code =
    if code == 10 then record { lines = p.lines ++ p.line ∷ []; line = [] }
    else if nat_lt (length p.line) 132 then record { lines = p.lines; line = p.line ++ shown code ∷ [] }
    else record { lines = p.lines ++ p.line ∷ []; line = shown code ∷ [] }

abbrev pub with_characters : Printed → List ℕ → Printed
with_characters p [] = p
with_characters p (code ∷ more) = with_characters (with_character p code) more

-- a line that isn't empty ends with the program
abbrev pub last_line : List ℕ → List (List ℕ)
last_line [] = []
last_line (code ∷ rest) = (code ∷ rest) ∷ []

abbrev pub lines_in : Printed → List (List ℕ)
lines_in p = p.lines ++ last_line p.line

-- the input that is left and what was printed
pub record World : Type 0 where
  pub input : List ℕ
  pub output : Printed

-- what the calls of a program print
abbrev pub output_of : List SysCall → List (List ℕ)
output_of calls = lines_in (with_characters nothing_printed (flat_map characters_of calls))

-- ---- A run

-- how a program ended, and the lines that it printed
pub record Ending : Type 0 where
  pub result : ProgResult
  pub line : ℕ
  pub ticks : ℕ
  pub output : List (List ℕ)

-- a run in the batch never waits for a reply
abbrev pub ending_of : RunOutcome → Ending
ending_of (Ends r line ticks calls) =
    record { result = r; line = line; ticks = ticks; output = output_of calls }
ending_of (Waits calls) = record { result = result.CallError; line = 0; ticks = 0; output = [] }

-- how a program ends in the batch, under a limit of ticks and with these cards as its input
abbrev pub ending_in_batch : Program → ℕ → List (List ℕ) → Ending
ending_in_batch p limit cards = ending_of (meaning_with (batch_answers (text cards)) p limit)

-- the program means this ending, with the batch's replies to the calls that it makes
pub record EndsInBatch (p : Program) (limit : ℕ) (cards : List (List ℕ)) (e : Ending) : Type 0 where
  pub calls : List SysCall
  pub means : meaning p limit (batch_replies (text cards) calls) ≡ Ends e.result e.line e.ticks calls
  pub prints : e.output ≡ output_of calls

-- each program ends in the batch, by its meaning
abbrev pub EachEndsInBatch : Type 0
EachEndsInBatch =
    (p : Program) (limit : ℕ) (cards : List (List ℕ))
    → EndsInBatch p limit cards (ending_in_batch p limit cards)

-- and in one way: whatever calls are found by which it ends, they give this ending
abbrev pub EndsInOneWay : Type 0
EndsInOneWay =
    (p : Program) (limit : ℕ) (cards : List (List ℕ)) (e : Ending)
    → EndsInBatch p limit cards e → e ≡ ending_in_batch p limit cards

-- each reply of the batch fits its call, whatever bytes the input has
abbrev pub BatchFits : Type 0
BatchFits =
    (input : List ℕ) (call : SysCall) → All (λ code. code < 256) input → Fits call (batch_reply input call)

-- The replies by which a program ends in the batch fit what it means.
abbrev pub BatchRepliesFit : Type 0
BatchRepliesFit =
    (p : Program) (limit : ℕ) (cards : List (List ℕ)) (r : ProgResult) (line ticks : ℕ) (calls : List SysCall)
    → All (λ code. code < 256) (text cards)
    → meaning p limit (batch_replies (text cards) calls) ≡ Ends r line ticks calls
    → FitTheMeaning p limit (batch_replies (text cards) calls)
