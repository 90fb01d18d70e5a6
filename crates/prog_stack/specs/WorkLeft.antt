-- How much is left to the programs on a stack at most, whatever programs they run.
use Rattle.std.specs.Prelude.{ℕ, zero, suc, ◌+◌, ◌-◌, ◌*◌, ◌<◌, ◌≤◌, List, [], ◌∷◌, length, ℤ}
use Rattle.solo_base.specs.declared.system_call.Arg.{Arg}
use Rattle.solo_base.specs.declared.system_call.SysCall.{SysCall}
use Rattle.solo_base.specs.declared.system_call.SysCall.TheVariants as calls
use Rattle.solo_base.specs.declared.system_call.SysReply.{SysReply}
use Rattle.stack_code.specs.CodeLists.{CodeLists, IsCode}
use Rattle.stack_code.specs.Rules.{IsGood}
use Rattle.stack_machine.specs.declared.running.Pause.{Pause}
use Rattle.stack_machine.specs.States.{State}
use Rattle.stack_machine.specs.Run.{Pauses}
use Rattle.stack_machine.specs.Standing.{StandsWell}
use Rattle.program_task.specs.Program.{Own}
use Rattle.prog_stack.specs.declared.frame.Frame.{Frame}
use Rattle.prog_stack.specs.Programs.{AsksFor, in_state, begun, behind_reply, calling}
use Rattle.prog_stack.specs.Rest.{left_of}

-- the price of a tick where the code is longest: n instructions, and each pays n + 2 others at most
unfoldable pub highest_price : ℕ
highest_price = 8192 * 8194 + 8194

-- more than any program has left that may take so many ticks
unfoldable pub most_left : ℕ → ℕ
most_left limit = limit * highest_price + highest_price + 2

pub record IsWithin (limit : ℕ) (f : Frame) : Type 0 where
  pub ticks : f.machine.limit ≤ limit
  pub left : left_of f.machine < most_left limit

abbrev pub AllWithin : ℕ → List Frame → Type 0
AllWithin limit [] = Unit {0}
AllWithin limit (f ∷ below) = IsWithin limit f × AllWithin limit below

-- What is left to a program that waits counts for more than all that is run above it.
abbrev pub value : ℕ → List Frame → ℕ
value most [] = 0
value most (f ∷ below) = value most below * (most + 1) + left_of f.machine

-- and so for each program for which there is room above
abbrev pub spread : ℕ → ℕ → ℕ → ℕ
spread most zero x = x
spread most (suc room) x = spread most room (x * (most + 1))

-- of a stack with room for so many programs, each of which may take so many ticks at most
abbrev pub work_left : ℕ → ℕ → List Frame → ℕ
work_left size limit programs =
    spread (most_left limit) (size - length programs) (value (most_left limit) programs + 1)

-- ---- Laws

-- what becomes of the bound and of what is left, from one stack to another
pub record Falls (size limit : ℕ) (before now : List Frame) : Type 0 where
  pub within : AllWithin limit now
  pub less : work_left size limit now < work_left size limit before

pub record NeverRises (size limit : ℕ) (before now : List Frame) : Type 0 where
  pub within : AllWithin limit now
  pub most : work_left size limit now ≤ work_left size limit before

-- a program that is put on the empty stack is within its limit
abbrev pub BeginsWithin : Type 0
BeginsWithin =
    (code : CodeLists) (limit : ℕ) (args : List Arg) → IsCode code → IsWithin limit (begun code limit args)

-- While the top program runs by itself no more is left.
abbrev pub ItselfNeverRises : Type 0
ItselfNeverRises =
    (size limit : ℕ) (top : Frame) (below : List Frame) (pause : Pause) (s : State)
    → AllWithin limit (top ∷ below) → Pauses top.machine.code top.machine.limit top.machine.state pause s
    → StandsWell (record top.machine { state = s })
    → NeverRises size limit (top ∷ below) (in_state top s ∷ below)

-- A reply leaves less,
abbrev pub ReplyLowers : Type 0
ReplyLowers =
    (size limit : ℕ) (call : SysCall) (reply : SysReply) (own : Own) (top : Frame) (below : List Frame)
    → AllWithin limit (top ∷ below) → IsGood top.machine.code → AsksFor call top
    → Falls size limit (top ∷ below) (behind_reply top reply own ∷ below)

-- and so does a program that is put above another, where there is room for it,
abbrev pub RunLowers : Type 0
RunLowers =
    (size limit : ℕ) (name : List ℤ) (left : ℕ) (code : CodeLists) (top : Frame) (below : List Frame)
    → AllWithin limit (top ∷ below) → StandsWell top.machine → AsksFor (calls.Run name left) top → IsCode code
    → length (top ∷ below) < size
    → Falls size limit (top ∷ below) (begun code left top.own.outgoing ∷ calling top ∷ below)

-- and one that is taken off, behind the reply to the one below.
abbrev pub EndLowers : Type 0
EndLowers =
    (size limit : ℕ) (call : SysCall) (reply : SysReply) (own : Own) (top caller : Frame) (below : List Frame)
    → AllWithin limit (top ∷ caller ∷ below) → IsGood caller.machine.code → AsksFor call caller
    → length (top ∷ caller ∷ below) ≤ size
    → Falls size limit (top ∷ caller ∷ below) (behind_reply caller reply own ∷ below)
