-- How a call of the top program is served.
use Rattle.std.specs.Prelude.{◌≡◌, ℕ, ◌+◌, ◌<◌, ◌≤◌, List, [], ◌∷◌, length, Option, Some, None, ℤ, Bool, true, false, Result, Ok, Err}
use Rattle.solo_base.specs.Arguments.{word_name}
use Rattle.solo_base.specs.Fits.{Fits}
use Rattle.solo_base.specs.declared.system_call.SysCall.{SysCall}
use Rattle.solo_base.specs.declared.system_call.SysCall.TheVariants as calls
use Rattle.solo_base.specs.declared.system_call.SysReply.{SysReply}
use Rattle.solo_base.specs.declared.system_call.Arg.{Arg}
use Rattle.stack_code.specs.CodeLists.{CodeLists}
use Rattle.stack_machine.specs.declared.state.Finish.{Finish}
use Rattle.disk_layout.specs.Files.{files}
use Rattle.disk_files.specs.declared.fault.FileFault.{FileFault}
use Rattle.disk_files.specs.declared.fault.FileFault.TheVariants.{DiskFault}
use Rattle.disk_contents.specs.declared.loading.Loaded.{Loaded}
use Rattle.disk_contents.specs.declared.loading.Loaded.TheVariants.{Code}
use Rattle.disk_system.specs.declared.loading.LoadFault.{LoadFault}
use Rattle.disk_system.specs.declared.loading.LoadFault.TheVariants.{DiskFault as LoadFails}
use Rattle.program_task.specs.Program.{Own}
use Rattle.program_task.specs.Table.{answer, loaded_as}
use Rattle.program_task.specs.Run.{runner}
use Rattle.prog_stack.specs.declared.frame.Frame.{Frame}
use Rattle.prog_stack.specs.declared.served.Served.{Served}
use Rattle.prog_stack.specs.declared.served.Served.TheVariants as served
use Rattle.prog_stack.specs.Answers.{Answered, AnswersAnywhere, sharing, is_device, uses_area}
use Rattle.prog_stack.specs.Programs.{begun, calling, called_back}

-- a call of the top program has this reply, by what the area tells, with the room that is left above it
abbrev pub AnswersHere : ℕ → SysCall → Frame → List Frame → Option (List (List ℕ)) → SysReply → Own
    → Option (List (List ℕ)) → Type 0
AnswersHere size call top below before reply own_now after =
    (pages : List (List ℕ)) (room : ℕ) → before ≡ Some pages → room + length (top ∷ below) ≡ size
    → Answered (λ h. answer (runner room) call top.own (sharing (files pages) h)) (files pages) reply own_now
    after

-- A RUN put its program on the stack, with the ticks that are left and the caller's outgoing arguments.
pub record Pushes (size : ℕ) (call : SysCall) (top : Frame) (below : List Frame)
    (before : Option (List (List ℕ))) (now : List Frame) : Type 0 where
  pub name : List ℤ
  pub left : ℕ
  pub code : CodeLists
  pub run : call ≡ calls.Run name left
  pub few : length (top ∷ below) < size
  pub is : now ≡ begun code left top.own.outgoing ∷ calling top ∷ below
  pub loaded : (pages : List (List ℕ)) → before ≡ Some pages
      → loaded_as (files pages) (word_name name) ≡ Code code

-- A RUN is answered at once only where there is no room for its program, or its file has no good code.
abbrev pub IsNotRun : SysCall → ℕ → Frame → List Frame → Option (List (List ℕ)) → Type 0
IsNotRun (calls.Run name left) size top below before =
    (pages : List (List ℕ)) (code : CodeLists) → before ≡ Some pages
    → loaded_as (files pages) (word_name name) ≡ Code code → size ≤ length (top ∷ below)
IsNotRun other size top below before = Unit {0}

-- Memory lacks for a RUN alone, where there is room for its program.
pub record LacksMemory (size : ℕ) (call : SysCall) (top : Frame) (below : List Frame) : Type 0 where
  pub name : List ℤ
  pub left : ℕ
  pub run : call ≡ calls.Run name left
  pub few : length (top ∷ below) < size

-- Of a stack with room for so many programs: what the call of its top program was answered, and what the
-- stack and the area are then.
abbrev pub Serves : ℕ → SysCall → Frame → List Frame → Option (List (List ℕ)) → Served → List Frame
    → Option (List (List ℕ)) → Type 0
Serves size call top below before (served.Device same) now after =
    (same ≡ call) × (is_device call ≡ true) × (now ≡ top ∷ below) × (after ≡ before)
Serves size call top below before (served.Reply reply) now after =
    (own : Own) × (is_device call ≡ false) × Fits call reply × (now ≡ record top { own = own } ∷ below)
    × AnswersAnywhere call top.own reply own × IsNotRun call size top below before
    × AnswersHere size call top below before reply own after
Serves size call top below before served.Pushed now after =
    Pushes size call top below before now × (after ≡ before)
Serves size call top below before served.DiskFault now after = uses_area call ≡ true
Serves size call top below before served.NoMemory now after =
    LacksMemory size call top below × (after ≡ before)

abbrev pub ServesTop : ℕ → SysCall → List Frame → Option (List (List ℕ)) → Served → List Frame
    → Option (List (List ℕ)) → Type 0
ServesTop size call [] before s now after = ⊥
ServesTop size call (top ∷ below) before s now after = Serves size call top below before s now after

-- code is run: its program is on the stack, or memory was refused
abbrev pub RunsCode : CodeLists → ℕ → Frame → List Frame → Served → List Frame → Type 0
RunsCode code left top below served.Pushed now =
    now ≡ begun code left top.own.outgoing ∷ calling top ∷ below
RunsCode code left top below served.NoMemory now = Unit {0}
RunsCode code left top below other now = ⊥

-- what is loaded so has this code, or none
abbrev pub HasCode : Loaded → Option CodeLists → Type 0
HasCode (Code c) code = code ≡ Some c
HasCode other code = code ≡ None

-- as far as the area gave the answer
abbrev pub load_fault : Result (Option CodeLists) LoadFault → Result (Unit {0}) FileFault
load_fault (Err LoadFails) = Err DiskFault
load_fault other = Ok tt

abbrev pub served_fault : Served → Result (Unit {0}) FileFault
served_fault served.DiskFault = Err DiskFault
served_fault other = Ok tt

-- the stack goes on, unless the area failed or memory was refused
abbrev pub GoesOn : Served → Type 0 → Type 0
GoesOn served.DiskFault Holding = Unit {0}
GoesOn served.NoMemory Holding = Unit {0}
GoesOn other Holding = Holding

-- ---- The end of a program

-- The program that ended so is gone; the one below, if there is one, was told, and has its arguments, and
-- they are answered where there is none.
abbrev pub Pops : Finish → Frame → List Frame → List Arg → List Frame → Type 0
Pops finish top [] args now = (args ≡ top.own.outgoing) × (now ≡ [])
Pops finish top (caller ∷ below) args now =
    (args ≡ []) × (now ≡ called_back caller top.own.outgoing finish ∷ below)

-- the same of the one below alone, if there is one
abbrev pub PopsSo : Bool → Finish → Frame → List Frame → List Frame → Type 0
PopsSo true finish top (caller ∷ below) now = now ≡ called_back caller top.own.outgoing finish ∷ below
PopsSo true finish top [] now = ⊥
PopsSo false finish top below now = (below ≡ []) × (now ≡ top ∷ [])

-- how the top program ended, if it has
abbrev pub top_ended : List Frame → Option Finish
top_ended [] = None
top_ended (top ∷ below) = top.machine.state.ended

abbrev pub PopsTop : Finish → List Frame → List Arg → List Frame → Type 0
PopsTop finish [] args now = ⊥
PopsTop finish (top ∷ below) args now = Pops finish top below args now
