-- How a stack of programs does what their tasks say.
use Rattle.std.specs.Prelude.{◌≡◌, ℕ, ◌+◌, List, [], ◌∷◌, length, Option, Some}
use Rattle.solo_base.specs.declared.system_call.Arg.{Arg}
use Rattle.solo_base.specs.declared.system_call.SysCall.{SysCall}
use Rattle.solo_base.specs.declared.system_call.SysReply.{SysReply}
use Rattle.disk_layout.specs.Files.{Files, files}
use Rattle.stack_code.specs.CodeLists.{CodeLists}
use Rattle.stack_machine.specs.declared.running.Pause.{Pause}
use Rattle.stack_machine.specs.declared.state.Finish.{Finish}
use Rattle.stack_machine.specs.States.{State}
use Rattle.stack_machine.specs.Run.{Pauses}
use Rattle.stack_machine.specs.Standing.{StandsWell}
use Rattle.program_task.specs.Task.{Task, and_then, Gives, Changes}
use Rattle.program_task.specs.Program.{Own, Shared, Answer, Ended, Runner, begins_with}
use Rattle.program_task.specs.Table.{answer}
use Rattle.program_task.specs.Run.{runner}
use Rattle.prog_stack.specs.declared.frame.Frame.{Frame}
use Rattle.prog_stack.specs.declared.served.Served.{Served}
use Rattle.prog_stack.specs.declared.served.Served.TheVariants as served
use Rattle.prog_stack.specs.Answers.{Hand, sharing}
use Rattle.prog_stack.specs.Callers.{TopWell}
use Rattle.prog_stack.specs.Programs.{AsksFor, in_state, begun, behind_reply}
use Rattle.prog_stack.specs.Rest.{IsLeft, IsAt}
use Rattle.prog_stack.specs.Serves.{Serves, Pops}

-- A program that is put on an empty stack does what its task does.
abbrev pub Begins : Type 0
Begins =
    (size : ℕ) (code : CodeLists) (limit : ℕ) (args : List Arg) (w : Shared) (run : Runner)
    → StandsWell (begun code limit args).machine → runner size ≡ Some run
    → IsLeft size (begun code limit args) [] w (run code limit (begins_with args) w)

-- While the top program runs by itself, what is left stays the same.
abbrev pub RunsItself : Type 0
RunsItself =
    (size : ℕ) (top : Frame) (below : List Frame) (w : Shared) (t : Task Ended) (pause : Pause) (s : State)
    → IsLeft size top below w t → Pauses top.machine.code top.machine.limit top.machine.state pause s
    → StandsWell (record top.machine { state = s }) → IsLeft size (in_state top s) below w t

-- Where the top program asks for a call, the table's answer to it is left, and then what follows from that.
pub record IsAsked (size : ℕ) (call : SysCall) (top : Frame) (below : List Frame) (w : Shared)
    (t : Task Ended) : Type 0 where
  pub room : ℕ
  pub places : room + length (top ∷ below) ≡ size
  pub later : Answer → Task Ended
  pub is : t ≡ and_then (answer (runner room) call top.own w) later
  pub goes_on : (a : Answer) → StandsWell (behind_reply top a.reply a.own).machine
      → IsLeft size (behind_reply top a.reply a.own) below a.shared (later a)

abbrev pub Asked : Type 0
Asked =
    (size : ℕ) (call : SysCall) (top : Frame) (below : List Frame) (w : Shared) (t : Task Ended)
    → IsLeft size top below w t → AsksFor call top → IsAsked size call top below w t

-- ---- A call that is served

-- this is left, and the files are those before; or they are changed to these first
pub data Comes (size : ℕ) (top : Frame) (below : List Frame) (before : Files) (w : Shared) (t : Task Ended)
    : Type 0 where
  Now : IsLeft size top below w t → before ≡ w.files → Comes size top below before w t
  Behind : (later : Task Ended) → t ≡ Changes w.files later → IsLeft size top below w later
      → Comes size top below before w t

-- Behind a reply, once the top program has it, this is left.
pub record ComesBackTo (size : ℕ) (top : Frame) (below : List Frame) (reply : SysReply) (h : Hand)
    (before : List (List ℕ)) (after : Option (List (List ℕ))) (t : Task Ended) : Type 0 where
  pub pages : List (List ℕ)
  pub told : after ≡ Some pages
  pub comes : StandsWell (behind_reply top reply top.own).machine
      → Comes size (behind_reply top reply top.own) below (files before) (sharing (files pages) h) t

abbrev pub ComesBack : ℕ → List Frame → SysReply → Hand → List (List ℕ) → Option (List (List ℕ))
    → Task Ended → Type 0
ComesBack size [] reply h before after t = ⊥
ComesBack size (top ∷ below) reply h before after t = ComesBackTo size top below reply h before after t

abbrev pub IsServed : ℕ → Served → List Frame → Hand → List (List ℕ) → Option (List (List ℕ)) → Task Ended
    → Type 0
IsServed size served.DiskFault now h before after t = Unit {0}
IsServed size served.NoMemory now h before after t = Unit {0}
IsServed size (served.Device call) now h before after t = IsAt size now (sharing (files before) h) t
IsServed size (served.Reply reply) now h before after t = ComesBack size now reply h before after t
IsServed size served.Pushed now h before after t = TopWell now → IsAt size now (sharing (files before) h) t

abbrev pub ServedSo : Type 0
ServedSo =
    (size : ℕ) (call : SysCall) (top : Frame) (below : List Frame) (pages : List (List ℕ)) (s : Served)
    (now : List Frame) (after : Option (List (List ℕ))) (h : Hand) (t : Task Ended)
    → IsLeft size top below (sharing (files pages) h) t → AsksFor call top
    → Serves size call top below (Some pages) s now after → IsServed size s now h pages after t

-- ---- The end of a program

abbrev pub end_of : Finish → Own → Shared → Ended
end_of finish own w = record {
  result = finish.result;
  line = finish.line;
  ticks = finish.ticks;
  outgoing = own.outgoing;
  shared = w;
}

-- The lowest program gives how it ended; behind the end of one above it, what follows in the program below is
-- left.
abbrev pub ComesAfter : ℕ → Finish → Frame → List Frame → Shared → Task Ended → Type 0
ComesAfter size finish top [] w t = t ≡ Gives (end_of finish top.own w)
ComesAfter size finish top (caller ∷ below) w t =
    StandsWell caller.machine → IsLeft size caller below w t

abbrev pub PoppedSo : Type 0
PoppedSo =
    (size : ℕ) (finish : Finish) (top : Frame) (below : List Frame) (args : List Arg) (now : List Frame)
    (w : Shared) (t : Task Ended)
    → IsLeft size top below w t → top.machine.state.ended ≡ Some finish
    → Pops finish top below args now → ComesAfter size finish top now w t
