-- What holds of each stack: all programs but the top one wait for the one above them.
use Rattle.std.specs.Prelude.{◌≡◌, ℕ, ◌≤◌, List, [], ◌∷◌, length, ℤ, Option, Some, None}
use Rattle.solo_base.specs.declared.system_call.SysCall.{SysCall}
use Rattle.solo_base.specs.declared.system_call.SysCall.TheVariants as calls
use Rattle.solo_base.specs.declared.system_call.SysReply.{SysReply}
use Rattle.stack_code.specs.CodeLists.{IsCode}
use Rattle.stack_machine.specs.declared.running.Pause.{Pause}
use Rattle.stack_machine.specs.States.{State}
use Rattle.stack_machine.specs.Run.{Pauses}
use Rattle.stack_machine.specs.Standing.{Standing, StandsWell, Awaits}
use Rattle.prog_stack.specs.declared.frame.Frame.{Frame}
use Rattle.prog_stack.specs.Programs.{AsksFor, in_state, behind_reply}

-- a program asks for a RUN, with at least so many ticks left
pub record IsCaller (ticks : ℕ) (f : Frame) : Type 0 where
  pub name : List ℤ
  pub left : ℕ
  pub asks : AsksFor (calls.Run name left) f
  pub enough : ticks ≤ left

-- Each of these, the nearest first, asks for a RUN; what is left to it is at least what the program above it
-- may take, which of the nearest one's is so much.
abbrev pub AreCallers : ℕ → List Frame → Type 0
AreCallers ticks [] = Unit {0}
AreCallers ticks (f ∷ below) = IsCaller ticks f × AreCallers f.machine.limit below

-- a stack with room for so many programs, the top one first
abbrev pub IsStack : ℕ → List Frame → Type 0
IsStack size [] = Unit {0}
IsStack size (top ∷ below) = (length (top ∷ below) ≤ size) × AreCallers top.machine.limit below

-- the top program asks for this call
abbrev pub TopAsks : SysCall → List Frame → Type 0
TopAsks call [] = ⊥
TopAsks call (top ∷ below) = AsksFor call top

-- and it can be given this reply
abbrev pub TopAwaits : SysReply → List Frame → Type 0
TopAwaits reply [] = ⊥
TopAwaits reply (top ∷ below) = Awaits top.machine reply

-- the top program's machine stands well, if there is one
abbrev pub TopWell : List Frame → Type 0
TopWell [] = Unit {0}
TopWell (top ∷ below) = StandsWell top.machine

-- and its code is no longer than code may be; there is one
abbrev pub TopBegins : List Frame → Type 0
TopBegins [] = ⊥
TopBegins (top ∷ below) = StandsWell top.machine × IsCode top.machine.code

-- it asks for a RUN with at least so many ticks left, or there is no program
abbrev pub MayPush : ℕ → List Frame → Type 0
MayPush limit [] = Unit {0}
MayPush limit (top ∷ below) = IsCaller limit top

-- the top program has at least so many ticks to take
abbrev pub TakesAtMost : ℕ → List Frame → Type 0
TakesAtMost ticks [] = ⊥
TakesAtMost ticks (top ∷ below) = ticks ≤ top.machine.limit

-- the top program, which took so many ticks, may be taken off
abbrev pub MayPop : ℕ → List Frame → Type 0
MayPop ticks [] = ⊥
MayPop ticks (top ∷ below) = (ticks ≤ top.machine.limit) × AreCallers top.machine.limit below

-- the stack with the top program's machine another
abbrev pub with_machine : List Frame → Standing → List Frame
with_machine [] m = []
with_machine (top ∷ below) m = record top { machine = m } ∷ below

-- the top program runs by itself up to a pause
abbrev pub RunsTop : List Frame → Option Pause → List Frame → Type 0
RunsTop [] None now = now ≡ []
RunsTop [] (Some pause) now = ⊥
RunsTop (top ∷ below) None now = ⊥
RunsTop (top ∷ below) (Some pause) now =
    (s : State) × Pauses top.machine.code top.machine.limit top.machine.state pause s
    × (now ≡ in_state top s ∷ below)

-- the stack with this reply given to the top program
abbrev pub with_reply : SysReply → List Frame → List Frame
with_reply reply [] = []
with_reply reply (top ∷ below) = behind_reply top reply top.own ∷ below
