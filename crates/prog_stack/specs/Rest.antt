-- What is left to do, by the programs on the stack.
use Rattle.std.specs.Prelude.{◌≡◌, ℕ, suc, ◌+◌, ◌≤◌, ◌<◌, List, [], ◌∷◌, map, length}
use Rattle.solo_base.specs.declared.system_call.SysCall.{SysCall}
use Rattle.stack_machine.specs.Machine.{answered}
use Rattle.stack_machine.specs.Left.{left_until_end}
use Rattle.stack_machine.specs.Standing.{Standing, StandsWell}
use Rattle.program_task.specs.Task.{Task, and_then, Gives}
use Rattle.program_task.specs.Program.{Shared, Answer, Ended}
use Rattle.program_task.specs.Table.{returned}
use Rattle.program_task.specs.Run.{runner, run_for}
use Rattle.prog_stack.specs.declared.frame.Frame.{Frame}
use Rattle.prog_stack.specs.Programs.{AsksFor}

-- ---- One program

-- how much it has left to run at most
abbrev pub left_of : Standing → ℕ
left_of m = left_until_end m.code m.limit m.state

-- what it does from here, with so many instructions at most, where there is room for so many above it
abbrev pub does : ℕ → ℕ → Frame → Shared → Task Ended
does fuel room f w = run_for fuel (runner room) f.machine.code f.machine.limit f.machine.state f.own w

-- what it does once its call has this answer
abbrev pub goes_on : ℕ → ℕ → Frame → Answer → Task Ended
goes_on fuel room f a =
    run_for fuel (runner room) f.machine.code f.machine.limit
    (answered f.machine.code f.machine.state a.reply) a.own a.shared

-- what it does where it asks for a RUN, and the program that it runs does this
abbrev pub goes_back : ℕ → ℕ → Frame → Task Ended → Task Ended
goes_back fuel room f called =
    and_then (and_then called (λ e. Gives (returned f.own e))) (goes_on fuel room f)

-- ---- The programs that wait

-- one of them, and how many instructions it may still make at most
pub record Caller : Type 0 where
  pub frame : Frame
  pub fuel : ℕ

-- what is left of the lowest program, where the top one does this and has room for so many above it
abbrev pub under : List Caller → ℕ → Task Ended → Task Ended
under [] room t = t
under (h ∷ more) room t = under more (suc room) (goes_back h.fuel (suc room) h.frame t)

-- it asks for a call, and what it may still make is enough for what it does behind that
pub record Waits (h : Caller) : Type 0 where
  pub call : SysCall
  pub asks : AsksFor call h.frame
  pub enough : left_of h.frame.machine ≤ h.fuel
  pub well : StandsWell h.frame.machine

abbrev pub AllWait : List Caller → Type 0
AllWait [] = Unit {0}
AllWait (h ∷ more) = Waits h × AllWait more

-- ---- A stack

-- With these programs on a stack of this size, the top one first, and with what they share, this is left to
-- do: it gives how the lowest program ends.
pub record IsLeft (size : ℕ) (top : Frame) (below : List Frame) (w : Shared) (t : Task Ended) : Type 0 where
  pub room : ℕ
  pub places : room + length (top ∷ below) ≡ size
  pub fuel : ℕ
  pub enough : left_of top.machine < fuel
  pub well : StandsWell top.machine
  pub callers : List Caller
  pub are : map (λ (h : Caller). h.frame) callers ≡ below
  pub wait : AllWait callers
  pub is : t ≡ under callers room (does fuel room top w)

abbrev pub IsAt : ℕ → List Frame → Shared → Task Ended → Type 0
IsAt size [] w t = ⊥
IsAt size (top ∷ below) w t = IsLeft size top below w t
