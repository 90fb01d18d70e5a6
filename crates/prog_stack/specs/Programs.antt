-- A program on the stack: where its machine stands, and what it has of its own.
use Rattle.std.specs.Prelude.{◌≡◌, ℕ, List, [], pos}
use Rattle.solo_base.specs.Arguments.{line_number, result_number}
use Rattle.solo_base.specs.declared.system_call.Arg.{Arg}
use Rattle.solo_base.specs.declared.system_call.SysCall.{SysCall}
use Rattle.solo_base.specs.declared.system_call.SysReply.{SysReply}
use Rattle.solo_base.specs.declared.system_call.SysReply.TheVariants as replies
use Rattle.stack_code.specs.CodeLists.{CodeLists}
use Rattle.stack_machine.specs.declared.state.Finish.{Finish}
use Rattle.stack_machine.specs.States.{State}
use Rattle.stack_machine.specs.State.{Asks}
use Rattle.stack_machine.specs.Machine.{next, start_state, answered}
use Rattle.program_task.specs.Program.{Own, begins_with}
use Rattle.prog_stack.specs.declared.frame.Frame.{Frame}

-- at its beginning, with these arguments to read
abbrev pub begun : CodeLists → ℕ → List Arg → Frame
begun code limit incoming = record {
  machine = record { code = code; limit = limit; state = start_state code };
  own = begins_with incoming;
}

-- its machine asks for this call
abbrev pub AsksFor : SysCall → Frame → Type 0
AsksFor call f = next f.machine.code f.machine.limit f.machine.state ≡ Asks call f.machine.state

abbrev pub in_state : Frame → State → Frame
in_state f s = record f { machine = record f.machine { state = s } }

-- its call got this reply, and it has this of its own then
abbrev pub behind_reply : Frame → SysReply → Own → Frame
behind_reply f reply own = record {
  machine = record f.machine { state = answered f.machine.code f.machine.state reply };
  own = own;
}

-- it gave its outgoing arguments to the program that it runs
abbrev pub calling : Frame → Frame
calling f = record f { own = record f.own { outgoing = [] } }

-- what a program is told of one that ended so
abbrev pub ran : Finish → SysReply
ran finish = replies.Ran (pos (line_number finish.line)) (pos (result_number finish.result)) finish.ticks

-- the program that it ran ended so, and wrote these arguments
abbrev pub called_back : Frame → List Arg → Finish → Frame
called_back f written finish =
    behind_reply f (ran finish) (record f.own { incoming = written; outgoing = [] })

-- what it is told where nothing was run: line 0 and result 6
abbrev pub nothing_ran : SysReply
nothing_ran = replies.Ran (pos 0) (pos 6) 0
